-- A reply that the card wrote into a buffer of the greatest frame.
use Rattle.std.proofs.Common.{◌≡◌, ℕ, ◌+◌, Bool, true, false, cond, List, length, take, drop, None, Ok, Err, Option, Result, refl, ap, ◌∙◌, arith, length-append}
use Rattle.std.proofs.lemmas.Bool.{le-leb}
use Rattle.buffers.proofs.Overs.{take-over}
use Rattle.card.specs.Calls.{hearing, card_heard, state_heard, buffer_heard}
use Rattle.card.specs.Told.{reply_length, replied, was_given}
use Rattle.card.specs.declared.Response.{Response}
use Rattle.frames.specs.declared.Refusal.{Refusal}
use Rattle.frames.specs.Sizes.{greatest_frame}
use Rattle.protocol.specs.Card.{Card, CardMove, Reply, quiet, reply}
use Rattle.pair.specs.Fronts.{front_of, fits}

-- it stands at the front
pub front_replied : (a : Reply) (audible : Bool) (old out : List ℕ) → out ≡ replied a old → front_of (cond audible (reply_length a) None) out ≡ cond audible a quiet
front_replied a false old out e = refl
front_replied quiet true old out e = refl
front_replied (reply f) true old out e = ap (λ o. reply (take (length f) o)) e ∙ ap (λ g. reply g) (take-over f old (length f) refl)

-- and is no longer than the buffer
pub fits-replied : (a : Reply) (audible : Bool) (old out : List ℕ) → out ≡ replied a old → length out ≡ greatest_frame → fits (cond audible (reply_length a) None) ≡ true
fits-replied a false old out e n = refl
fits-replied quiet true old out e n = refl
fits-replied (reply f) true old out e n =
    let all : length out ≡ length f + length (drop (length f) old) = ap length e ∙ length-append f (drop (length f) old) in
    le-leb (length f) greatest_frame (omega (arith, all, n))

abbrev len_of : Result Response Refusal → Option ℕ
len_of (Ok r) = r.len
len_of (Err why) = None

abbrev given_of : Result Response Refusal → Bool
given_of (Ok r) = r.given
given_of (Err why) = false

-- a buffer of the greatest frame is not refused
module _ {S : Type 0} (m : CardMove S) (n : ℕ) (full : n ≡ greatest_frame) where
  pub len_heard : (r : Response) → Ok r ≡ hearing m n → r.len ≡ reply_length m.answer
  len_heard r is = ap len_of (is ∙ ap (hearing m) full)

  pub given_heard : (r : Response) → Ok r ≡ hearing m n → r.given ≡ was_given m.command
  given_heard r is = ap given_of (is ∙ ap (hearing m) full)

  pub never_refused : (why : Refusal) → Err why ≡ hearing m n → ⊥
  never_refused why is = clash (is ∙ ap (hearing m) full)
    where
      clash : {why : Refusal} {r : Response} → ◌≡◌ {A = Result Response Refusal} (Err why) (Ok r) → ⊥
      clash e = let z : ◌≡◌ {A = ℕ} 0 1 = cc in omega arith

  pub card_heard_lem : (old : Card) → card_heard m n old ≡ m.card
  card_heard_lem old = ap (λ k. card_heard m k old) full

  pub state_heard_lem : (old : S) → state_heard m n old ≡ m.state
  state_heard_lem old = ap (λ k. state_heard m k old) full

  pub buffer_heard_lem : (old : List ℕ) → buffer_heard m n old ≡ replied m.answer old
  buffer_heard_lem old = ap (λ k. buffer_heard m k old) full
