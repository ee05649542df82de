-- Bytes as text: two hexadecimal digits a byte, and `-` for no bytes.
use Rattle.std.specs.Prelude.{ℕ, ◌+◌, ◌-◌, ◌*◌, ◌/◌, ◌%◌, Bool, cond, List, [], ◌∷◌, length, Some, None, Option, ◌==◌, nat_le, nat_lt}
use Rattle.frames.specs.Check.{both}

-- c stands among the characters from a to z
abbrev pub among : ℕ → ℕ → ℕ → Bool
among a z c = both (nat_le a c) (nat_le c z)

-- the value of a digit: 0 to 9, A to F, a to f
abbrev pub digit_of : ℕ → Option ℕ
digit_of c =
    cond (among 48 57 c) (Some (c - 48)) (cond (among 65 70 c) (Some (c - 55)) (cond (among 97 102 c) (Some (c - 87)) None))

abbrev pub pair : Option ℕ → Option ℕ → Option ℕ
pair None low = None
pair (Some h) None = None
pair (Some h) (Some l) = Some (16 * h + l)

-- the byte of two digits, the high one first
abbrev pub byte_of : ℕ → ℕ → Option ℕ
byte_of high low = pair (digit_of high) (digit_of low)

abbrev pub before : Option ℕ → Option (List ℕ) → Option (List ℕ)
before None rest = None
before (Some b) None = None
before (Some b) (Some bs) = Some (b ∷ bs)

-- the bytes that digits stand for
abbrev pub unhex : List ℕ → Option (List ℕ)
unhex [] = Some []
unhex (x ∷ []) = None
unhex (x ∷ y ∷ rest) = before (byte_of x y) (unhex rest)

-- the bytes that a field stands for: digits of one byte or more, or a dash for none
abbrev pub bytes_in : List ℕ → Option (List ℕ)
bytes_in [] = None
bytes_in (c ∷ rest) = cond (both (c == 45) (length rest == 0)) (Some []) (unhex (c ∷ rest))

-- the digit of a value below 16, in upper case
abbrev pub upper : ℕ → ℕ
upper n = cond (nat_lt n 10) (48 + n) (55 + n)

-- the digits that stand for bytes
abbrev pub hex : List ℕ → List ℕ
hex [] = []
hex (b ∷ bs) = upper (b / 16) ∷ upper (b % 16) ∷ hex bs

-- a field of bytes, as it is printed
abbrev pub shown_bytes : List ℕ → List ℕ
shown_bytes [] = 45 ∷ []
shown_bytes (b ∷ bs) = hex (b ∷ bs)
