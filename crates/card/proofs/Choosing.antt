-- A PPS that counts is answered; any other frame is read as a block.
use Rattle.std.proofs.Common.{◌≡◌, ℕ, Bool, true, false, cond, sym, refl, ap, ◌∙◌, Some}
use Rattle.activation.specs.Pps.{PpsRead, pps, no_pps, offered, pps_answer}
use Rattle.frames.specs.Check.{seal}
use Rattle.protocol.specs.Card.{Awake, awake, changed, reply, CardMove, remains, on_pps}
use Rattle.protocol.specs.Settings.{CardSettings}
use Rattle.card.specs.declared.awake.AwakeCard.{AwakeCard}
use Rattle.card.specs.declared.taken.Sends.TheVariants.{PpsResponse}
use Rattle.card.specs.declared.taken.Taken.{Taken}
use Rattle.card.specs.Held.{awake_of}
use Rattle.card.specs.Told.{chosen, card_after, reply_for, tells, told_of}

module _ {S : Type 0} (set : CardSettings) (w : Awake) (s : S) (otherwise : CardMove S) where
  abbrev on_chosen : PpsRead → CardMove S
  on_chosen (pps dsi dri) = remains (awake (changed w dsi dri)) s (reply (seal (pps_answer w.cid)))
  on_chosen no_pps = otherwise

  whether : (b : Bool) (dsi dri : ℕ) → cond b (on_chosen (pps dsi dri)) otherwise ≡ on_chosen (cond b (pps dsi dri) no_pps)
  whether true dsi dri = refl
  whether false dsi dri = refl

  on_chosen_lem : (p : PpsRead) → on_pps set w s p otherwise ≡ on_chosen (chosen set p)
  on_chosen_lem (pps dsi dri) = whether (offered set.ta dsi dri) dsi dri
  on_chosen_lem no_pps = refl

  pub unchosen : (p : PpsRead) → no_pps ≡ chosen set p → otherwise ≡ on_pps set w s p otherwise
  unchosen p e = ap on_chosen e ∙ sym (on_chosen_lem p)

  pub chosen_told : (p : PpsRead) (dsi dri : ℕ) (after : AwakeCard) (t : Taken) → pps dsi dri ≡ chosen set p → awake_of after ≡ changed w dsi dri → t.sends ≡ Some PpsResponse → t.given ≡ false → tells set (card_after t.sends (awake_of after)) s t ≡ told_of (on_pps set w s p otherwise)
  chosen_told p dsi dri after t e ew es eg =
      (λ i. record { card = card_after (es i) (ew i); state = s; answer = reply_for set (card_after (es i) (ew i)) (es i); given = eg i })
      ∙ ap (λ m. told_of m) (ap on_chosen e ∙ sym (on_chosen_lem p))
