-- A reply in a part of a buffer.
use Rattle.std.proofs.Common.{◌≡◌, ℕ, ◌≤◌, cond, sym, List, ◌++◌, length, drop, ap, ◌∙◌, arith, length-append}
use Rattle.std.proofs.lemmas.List.{take-append-drop}
use Rattle.std.specs.Array.{IsFirstChunk}
use Rattle.std.proofs.lemmas.Bool.{le-ltb}
use Rattle.buffers.proofs.Overs.{over_front}
use Rattle.frames.specs.Sizes.{greatest_frame}
use Rattle.protocol.specs.Card.{Reply, quiet, reply}
use Rattle.card.specs.Calls.{refuses}
use Rattle.card.specs.Told.{replied}

module _ (n : ℕ) (old front new : List ℕ) (first : IsFirstChunk old front n) (whole : length new ≡ n) where
  -- a reply in a buffer's first n bytes is one in the buffer
  pub widened : (r : Reply) → new ≡ replied r front → new ++ drop n old ≡ replied r old
  widened quiet e = ap (λ l. l ++ drop n old) (e ∙ first.same) ∙ take-append-drop n old
  widened (reply f) e =
      let long = ap length e in
      let split = length-append f (drop (length f) front) in
      ap (λ l. l ++ drop n old) (e ∙ ap (replied (reply f)) first.same)
      ∙ over_front n f old first.enough (omega arith)

-- a buffer with room is not refused
pub goes : {X : Type 0} (n : ℕ) (x y : X) {z : X} → greatest_frame ≤ n → z ≡ y → z ≡ cond (refuses n) x y
goes n x y long e = e ∙ ap (λ b. cond b x y) (sym (le-ltb n greatest_frame long))
