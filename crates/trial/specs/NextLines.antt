-- The next line of a text.
use Rattle.std.specs.Prelude.{◌≡◌, ℕ, List, [], ◌∷◌, Some, None, Option}
use Rattle.std.specs.Borrow.{Bor}
use Rattle.text.specs.Lines.{lines_of}

-- none where no line is left; else the first, and what is left behind it
abbrev pub NextLine : List (List ℕ) → Option (Bor (List ℕ) × Bor (List ℕ)) → Type 0
NextLine lines None = lines ≡ []
NextLine lines (Some p) = lines ≡ p.0.now ∷ lines_of p.1.now
