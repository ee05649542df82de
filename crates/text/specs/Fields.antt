-- Fields of a line that is printed.
use Rattle.std.specs.Prelude.{ℕ, List, ◌∷◌, ◌++◌}

-- fields are separated by one space
abbrev pub ◌then◌ : List ℕ → List ℕ → List ℕ
a then b = a ++ (32 ∷ b)

infixr 60 ◌then◌
