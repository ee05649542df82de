-- Lines of a text.
use Rattle.std.specs.Prelude.{ℕ, cond, List, [], ◌∷◌, ◌++◌, codes, decimal, ◌==◌}

-- a character in front of the first line
abbrev pub prepend : ℕ → List (List ℕ) → List (List ℕ)
prepend c [] = (c ∷ []) ∷ []
prepend c (l ∷ ls) = (c ∷ l) ∷ ls

-- the lines of a text; each ends with a line break, the last one perhaps without
abbrev pub lines_of : List ℕ → List (List ℕ)
lines_of [] = []
lines_of (c ∷ cs) = cond (c == 10) ([] ∷ lines_of cs) (prepend c (lines_of cs))

-- what is printed for a line that cannot be read
abbrev pub bad_text : ℕ → List ℕ
bad_text n = codes "bad line " ++ (decimal n ++ (10 ∷ []))
