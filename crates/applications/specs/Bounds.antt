-- An application keeps its bounds if whatever it does keeps them.
use Rattle.std.specs.Prelude.{◌≡◌, ℕ, ◌+◌, ◌≤◌, List, ◌++◌, length}
use Rattle.std.proofs.Common.{arith, ◌∙◌, ap, length-append}
use Rattle.applications.specs.App.{Keeps, longest_answer}
use Rattle.applications.specs.Outcome.{Outcome, doing, at_once}
use Rattle.applications.specs.Status.{word_of}
use Rattle.applications.specs.declared.status.StatusWord.{StatusWord}
use Rattle.applications.specs.Words.{two_bytes}

pub record Bounded {S : Type 0} (o : Outcome S) : Type 0 where
  pub answer_low : 2 ≤ length o.answer
  pub answer_high : length o.answer ≤ longest_answer
  pub waits_high : o.waits ≤ 9
  pub multiplier_low : 1 ≤ o.multiplier
  pub multiplier_high : o.multiplier ≤ 59

pub keeps_doing : {S : Type 0} (does : S → List ℕ → Outcome S) → ((s : S) (c : List ℕ) → Bounded (does s c)) → Keeps (doing does)
keeps_doing does bounded = record {
  answer_low = λ s c _. (bounded s c).answer_low;
  answer_high = λ s c _. (bounded s c).answer_high;
  waits_high = λ s c _. (bounded s c).waits_high;
  multiplier_low = λ s c _. (bounded s c).multiplier_low;
  multiplier_high = λ s c _. (bounded s c).multiplier_high;
}

-- at most 256 bytes and a status word
pub answer_bounds : (bytes : List ℕ) (status : StatusWord) → length bytes ≤ 256
    → (2 ≤ length (bytes ++ word_of status)) × (length (bytes ++ word_of status) ≤ longest_answer)
answer_bounds bytes status short =
    let e : length (bytes ++ word_of status) ≡ length bytes + 2 =
    length-append bytes (word_of status) ∙ ap (λ n. length bytes + n) (two_bytes status) in
    (omega (arith, e), omega (arith, e))

-- answered at once
pub bounded_at_once : {S : Type 0} (bytes : List ℕ) (status : StatusWord) (s : S) → length bytes ≤ 256
    → Bounded (at_once (bytes ++ word_of status) s)
bounded_at_once bytes status s short = record {
  answer_low = (answer_bounds bytes status short).0;
  answer_high = (answer_bounds bytes status short).1;
  waits_high = omega arith;
  multiplier_low = omega arith;
  multiplier_high = omega arith;
}
