-- Lines of calls, one after the other.
use Rattle.std.proofs.Common.{◌≡◌, ℕ, ◌+◌, ◌≤◌, Bool, true, false, cond, leb, List, ◌∷◌, ◌++◌, is_some, Some, None, Ok, Option, sym, refl, ap, ◌∙◌, append_assoc, arith}
use Rattle.std.proofs.lemmas.Bool.{leb-true}
use Rattle.applications.specs.App.{App}
use Rattle.pair.specs.Pairs.{world_seen, setup_seen}
use Rattle.pair.specs.declared.Pair.{Pair}
use Rattle.script.specs.Calls.{Entry, entry_in}
use Rattle.text.specs.Lines.{bad_text}
use Rattle.trial.specs.Outputs.{entry_at, row_for, world_for, rows_from, last_call}
use Rattle.trial.specs.Played.{Rowed}
use Rattle.trial.specs.Rows.{row_of}

within : (b : Bool) {X : Type 0} (o : Option X) → true ≡ is_some (cond b o None) → true ≡ b
within true o e = refl
within false o e = e

-- a line that was read is not behind the last one
few : (n : ℕ) (line : List ℕ) (e : Entry) → Some e ≡ entry_at n line → n ≤ last_call
few n line e read =
    leb-true n last_call (sym (within (leb n last_call) (entry_in line) (ap is_some read)))

-- the line behind so many others is played, and its row appended
module _ {A : Type 0} (app : App A) (before after : Pair A) (i count next : ℕ) (line : List ℕ) (left behind : List (List ℕ)) (e : Entry) (xs ys whole : List ℕ) (at : i ≡ count) (on : next ≡ count + 1) (first : left ≡ line ∷ behind) (read : Some e ≡ entry_at (4 + i) line) (said : Rowed app e before after (Ok tt) xs ys) (inv : xs ++ rows_from (setup_seen app before) (world_seen before) (4 + count) left ≡ whole) where
  pub played : ys ++ rows_from (setup_seen app after) (world_seen after) (4 + next) behind ≡ whole
  played =
      let u = setup_seen app before in
      let w = world_seen before in
      let n : ℕ = 4 + i in
      let number : 4 + next ≡ n + 1 = omega arith in
      let same : n ≡ 4 + count = omega arith in
      ap (λ k. ys ++ rows_from (setup_seen app after) (world_seen after) k behind) number
      ∙ ap (λ l. l ++ rows_from (setup_seen app after) (world_seen after) (n + 1) behind) said.row
      ∙ append_assoc xs (row_of u w e) (rows_from (setup_seen app after) (world_seen after) (n + 1) behind)
      ∙ (λ i. xs ++ (row_of u w e ++ rows_from (said.setup i) (said.world i) (n + 1) behind))
      ∙ ap (λ o. xs ++ (row_for u w o ++ cond (is_some o) (rows_from u (world_for u w o) (n + 1) behind) (bad_text n))) read
      ∙ ap (λ k. xs ++ rows_from u w k (line ∷ behind)) same
      ∙ ap (λ ls. xs ++ rows_from u w (4 + count) ls) (sym first)
      ∙ inv

  pub counted : next ≤ 512
  counted = omega (arith, few (4 + i) line e read)
