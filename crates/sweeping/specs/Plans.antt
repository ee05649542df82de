-- Which turns of an exchange suffer which loss. A turn is a frame that is written, and what is heard after it.
use Rattle.std.specs.Prelude.{ℕ, ◌-◌, ◌/◌, ◌%◌, cond, [], ◌∷◌, ◌==◌, nat_lt}
use Rattle.pair.specs.Deeds.{Deed, hear, mute, noise, Act}
use Rattle.protocol.specs.Field.{Fate, whole, lost, spoilt}
use Rattle.sweeping.specs.declared.plan.Loss.{Loss}
use Rattle.sweeping.specs.declared.plan.Loss.TheVariants.{Whole, Lost, Spoilt, Muted, Noisy}
use Rattle.sweeping.specs.declared.plan.Plan.{Plan}

-- the four losses: the frame lost or spoilt on its way there, silence or noise in place of the reply
abbrev pub loss_of : ℕ → Loss
loss_of d = cond (d == 0) Lost (cond (d == 1) Spoilt (cond (d == 2) Muted Noisy))

-- the loss at the first turn of a plan: whole turns, then a loss for each digit, then whole turns
abbrev pub loss_in : Plan → Loss
loss_in p = cond (nat_lt 0 p.before) Whole (cond (p.count == 0) Whole (loss_of (p.code % 4)))

-- the plan of the turns after the first
abbrev pub plan_after : Plan → Plan
plan_after p =
    cond (nat_lt 0 p.before) (record { before = p.before - 1; count = p.count; code = p.code })
    (cond (p.count == 0) p (record { before = 0; count = p.count - 1; code = p.code / 4 }))

-- the fate of a turn's frame
abbrev pub fate_under : Loss → Fate
fate_under Whole = whole
fate_under Lost = lost
fate_under Spoilt = spoilt
fate_under Muted = whole
fate_under Noisy = whole

-- what is heard after it: the card's reply, silence, or three bytes that fail the check
abbrev pub deed_under : Loss → Deed
deed_under Whole = hear
deed_under Lost = hear
deed_under Spoilt = hear
deed_under Muted = mute
deed_under Noisy = noise (0 ∷ 0 ∷ 0 ∷ [])

-- The end of a turn, which is the beginning of the next: its event is heard, and a frame goes on its way.
abbrev pub turn_of : Plan → Act
turn_of p = record { deed = deed_under (loss_in p); fate = fate_under (loss_in (plan_after p)) }
