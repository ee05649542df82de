-- The fields of a line.
use Rattle.std.specs.Prelude.{ℕ, ◌+◌, ◌-◌, ◌*◌, min, Bool, true, false, cond, List, [], ◌∷◌, Some, None, Option, ◌==◌}
use Rattle.frames.specs.Check.{both}
use Rattle.text.specs.Hex.{among}

-- 2 to the power of 32
abbrev pub greatest_number : ℕ
greatest_number = 4294967296

-- a first field, and what stands behind the space that ends it
pub record Cut : Type 0 where
  pub first : List ℕ
  pub rest : List ℕ

abbrev pub longer : ℕ → Option Cut → Option Cut
longer c None = None
longer c (Some k) = Some (record { first = c ∷ k.first; rest = k.rest })

-- cut at the first place of a mark, if there is one
abbrev pub cut_at : ℕ → List ℕ → Option Cut
cut_at mark [] = None
cut_at mark (c ∷ cs) = cond (c == mark) (Some (record { first = []; rest = cs })) (longer c (cut_at mark cs))

-- cut at the first space
abbrev pub cut_of : List ℕ → Option Cut
cut_of line = cut_at 32 line

-- one step of a decimal number; no field takes numbers of 2 to the power of 32 or above, which all count as that
abbrev pub digit_on : ℕ → ℕ → ℕ
digit_on v c = min (10 * v + (c - 48)) greatest_number

abbrev pub count_from : ℕ → List ℕ → Option ℕ
count_from v [] = Some v
count_from v (c ∷ cs) = cond (among 48 57 c) (count_from (digit_on v c) cs) None

-- a number is one digit or more
abbrev pub number_in : List ℕ → Option ℕ
number_in [] = None
number_in (c ∷ cs) = count_from 0 (c ∷ cs)

-- a word is spelled so
abbrev pub spells : List ℕ → List ℕ → Bool
spells [] [] = true
spells [] (c ∷ cs) = false
spells (x ∷ xs) [] = false
spells (x ∷ xs) (c ∷ cs) = both (c == x) (spells xs cs)

-- a number, if there is one and it passes a test
abbrev pub kept : (ℕ → Bool) → Option ℕ → Option ℕ
kept test None = None
kept test (Some n) = cond (test n) (Some n) None
