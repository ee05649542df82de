-- A step in which the application has no part leaves its state, whatever that is.
use Rattle.std.proofs.Common.{◌≡◌, Bool, true, false, cond, Some, None, Option, refl, ap, ◌∙◌}
use Rattle.frames.specs.Blocks.{Cid}
use Rattle.protocol.specs.Card.{Awake, awake, Owed, owes_nothing, owes_waits, owes_rest, Sent, unsent, sent, quiet, CardMove, remains, sends_again, on_next, on_r}
use Rattle.protocol.specs.Settings.{CardSettings}
use Rattle.std.specs.Option.{is_some}
use Rattle.card.specs.declared.awake.AwakeCard.{AwakeCard}
use Rattle.card.specs.declared.taken.Sends.{Sends}
use Rattle.card.specs.declared.taken.Sends.TheVariants.{LastBlock}
use Rattle.card.specs.declared.taken.Taken.{Taken}
use Rattle.card.specs.Held.{awake_of}
use Rattle.card.specs.Told.{Steps, Told, again, reply_for, card_after, tells, told_of}

abbrev pub lifted : {S : Type 0} → S → CardMove (Unit {0}) → CardMove S
lifted s m = remains m.card s m.answer

module _ {S : Type 0} (set : CardSettings) (w : AwakeCard) (s : S) where
  -- a card that sends its last block, or nothing, stays awake
  spoken : (b : Bool) (sends : Option Sends) → sends ≡ cond b (Some LastBlock) None → ◌≡◌ {A = Told S} (record { card = card_after sends (awake_of w); state = s; answer = reply_for set (card_after sends (awake_of w)) sends; given = false }) (record { card = awake (awake_of w); state = s; answer = cond b (again (awake_of w).last) quiet; given = false })
  spoken true sends e =
      λ i. record { card = card_after (e i) (awake_of w); state = s; answer = reply_for set (card_after (e i) (awake_of w)) (e i); given = false }
  spoken false sends e =
      λ i. record { card = card_after (e i) (awake_of w); state = s; answer = reply_for set (card_after (e i) (awake_of w)) (e i); given = false }

  -- a step as what the whole card does
  pub step_told : (sends : Option Sends) (t : Taken) (m : CardMove (Unit {0})) → Steps w sends m → t.sends ≡ sends → t.given ≡ false → tells set (card_after t.sends (awake_of w)) s t ≡ told_of (lifted s m)
  step_told sends t m step es eg =
      (λ i. record { card = card_after (es i) (awake_of w); state = s; answer = reply_for set (card_after (es i) (awake_of w)) (es i); given = eg i })
      ∙ spoken (is_some sends) sends step.last
      ∙ ap (λ m. told_of (lifted s m)) step.moves

module _ {S : Type 0} (s : S) (w : Awake) where
  lift_again : (l : Sent) → sends_again w s l ≡ lifted s (sends_again w (tt {0}) l)
  lift_again unsent = refl
  lift_again (sent b) = refl

  lift_next : (o : Owed) (a : Cid) → on_next w s o a ≡ lifted s (on_next w (tt {0}) o a)
  lift_next owes_nothing a = refl
  lift_next (owes_waits k m answer) a = refl
  lift_next (owes_rest answer) a = refl

  pub lift_r : (nak equal : Bool) (a : Cid) → on_r w s nak equal a ≡ lifted s (on_r w (tt {0}) nak equal a)
  lift_r nak true a = lift_again w.last
  lift_r true false a = refl
  lift_r false false a = lift_next w.owes a
