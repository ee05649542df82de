-- The frame sizes that codes stand for, and no other.
use Rattle.std.specs.Prelude.{ℕ, cond, Some, None, Option, nat_le}
use Rattle.frames.specs.Sizes.{size_of, greatest_code}

-- the frame size of a code that is not reserved
abbrev pub size_for : ℕ → Option ℕ
size_for code = cond (nat_le code greatest_code) (Some (size_of code)) None
