-- What an application does with a command, all in one.
use Rattle.std.specs.Prelude.{ℕ, List}
use Rattle.applications.specs.App.{App}

-- after so many waits with this multiplier the answer goes out, and the application is in the next state
pub record Outcome (S : Type 0) : Type 0 where
  pub answer : List ℕ
  pub waits : ℕ
  pub multiplier : ℕ
  pub next : S

-- answered at once; with no wait to ask for, the multiplier is the least one
abbrev pub at_once : {S : Type 0} → List ℕ → S → Outcome S
at_once a s = record { answer = a; waits = 0; multiplier = 1; next = s }

-- answered after one wait with this multiplier
abbrev pub after_one_wait : {S : Type 0} → ℕ → List ℕ → S → Outcome S
after_one_wait m a s = record { answer = a; waits = 1; multiplier = m; next = s }

-- the application that does this
abbrev pub doing : {S : Type 0} → (S → List ℕ → Outcome S) → App S
doing does = record {
  answer = λ s c. (does s c).answer;
  waits = λ s c. (does s c).waits;
  multiplier = λ s c. (does s c).multiplier;
  next = λ s c. (does s c).next;
}
