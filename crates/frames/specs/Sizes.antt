-- Frame sizes, and what follows from the greatest of them.
use Rattle.std.specs.Prelude.{ℕ, ◌-◌, List, [], ◌∷◌, slice_index}

-- the frame sizes of the codes 0 to 8
abbrev pub sizes : List ℕ
sizes = 16 ∷ 24 ∷ 32 ∷ 40 ∷ 48 ∷ 64 ∷ 96 ∷ 128 ∷ 256 ∷ []

abbrev pub greatest_code : ℕ
greatest_code = 8

-- the frame size that a code stands for
abbrev pub size_of : ℕ → ℕ
size_of code = slice_index sizes code

-- the greatest frame, and so the least buffer that every frame fits
abbrev pub greatest_frame : ℕ
greatest_frame = 256

-- the longest body, with room for its check
abbrev pub longest_body : ℕ
longest_body = greatest_frame - 2
