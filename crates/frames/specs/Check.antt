-- The frame check CRC_A, and the frame of a body: the body, then its check.
use Rattle.std.specs.Prelude.{ℕ, ◌-◌, ◌/◌, ◌%◌, Bool, true, false, cond, List, [], ◌∷◌, ◌++◌, length, take, ◌==◌, bit_xor, nat_lt, slice_index}
use Rattle.frames.specs.Causes.{Cause, too_short, too_long, check_wrong}

abbrev pub both : Bool → Bool → Bool
both true b = b
both false b = false

-- the register moves right by one bit, and takes 8408 in where that bit was one
abbrev pub shift : ℕ → ℕ
shift r = cond (r % 2 == 1) (bit_xor (r / 2) 0x8408) (r / 2)

-- the register after eight bits
unfoldable pub shift8 : ℕ → ℕ
shift8 r = shift (shift (shift (shift (shift (shift (shift (shift r)))))))

-- the register after one byte, lowest bit first
unfoldable pub take_in : ℕ → ℕ → ℕ
take_in r b = shift8 (bit_xor r b)

-- the register after all bytes, from what it held
unfoldable pub register_from : ℕ → List ℕ → ℕ
register_from r [] = r
register_from r (b ∷ bs) = register_from (take_in r b) bs

-- the register after a body: it starts at 6363
unfoldable pub register : List ℕ → ℕ
register bs = register_from 0x6363 bs

-- the check's two bytes, the low one first
unfoldable pub check_of : List ℕ → List ℕ
check_of bs = register bs % 256 ∷ register bs / 256 ∷ []

-- the frame of a body
unfoldable pub seal : List ℕ → List ℕ
seal bs = bs ++ check_of bs

-- what stands before the check
unfoldable pub body_of : List ℕ → List ℕ
body_of f = take (length f - 2) f

-- the last two bytes are the check of those before
unfoldable pub checks : List ℕ → Bool
checks f =
    both (slice_index f (length f - 2) == register (body_of f) % 256)
    (slice_index f (length f - 1) == register (body_of f) / 256)

-- a frame as received: its body, or the cause why it is no frame
pub data Opened : Type 0 where
  opened : List ℕ → Opened
  unopened : Cause → Opened

-- the receiver's tests, in their order; the limit is its frame size
unfoldable pub open_frame : ℕ → List ℕ → Opened
open_frame limit f =
    cond (nat_lt (length f) 3) (unopened too_short)
    (cond (nat_lt limit (length f)) (unopened too_long)
    (cond (checks f) (opened (body_of f)) (unopened check_wrong)))
