-- What passes between a reader and an application: commands, each with its answer.
use Rattle.std.specs.Prelude.{ℕ, List, [], ◌∷◌}
use Rattle.applications.specs.App.{App}

pub record Exchange : Type 0 where
  pub command : List ℕ
  pub answer : List ℕ

abbrev pub exchange : {S : Type 0} → App S → S → List ℕ → Exchange
exchange a s c = record { command = c; answer = a.answer s c }

-- what passes while an application takes these commands, the first one first
abbrev pub history : {S : Type 0} → App S → S → List (List ℕ) → List Exchange
history a s [] = []
history a s (c ∷ cs) = exchange a s c ∷ history a (a.next s c) cs
