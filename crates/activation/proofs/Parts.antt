-- The parts of bytes, of tests and of lists.
use Rattle.std.proofs.Common.{◌≡◌, ℕ, ◌+◌, ◌-◌, ◌*◌, ◌/◌, ◌%◌, ◌<◌, Bool, true, false, List, length, take, drop, refl, arith, length-drop}
use Rattle.std.proofs.lemmas.List.{take_all}
use Rattle.std.proofs.lemmas.Bool.{false≢true}
use Rattle.frames.specs.Check.{both}

-- the two halves of a byte
pub upper : (a b : ℕ) → b < 16 → (16 * a + b) / 16 ≡ a
upper a b h = omega arith

pub lower : (a b : ℕ) → b < 16 → (16 * a + b) % 16 ≡ b
lower a b h = omega arith

-- the two tests of a test of both
pub both_true : (x y : Bool) → both x y ≡ true → (x ≡ true) × (y ≡ true)
both_true true y e = (refl, e)
both_true false y e = absurd (false≢true e)

-- the rest that a slice pattern leaves behind its first element is all that stands there
pub rest_of : (xs : List ℕ) → take (length xs - 1) (drop 1 xs) ≡ drop 1 xs
rest_of xs = take_all (length xs - 1) (drop 1 xs) (simp length-drop (omega arith))
