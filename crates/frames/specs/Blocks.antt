-- Blocks, and the one frame of each. Block numbers are bits: false is 0, true is 1.
use Rattle.std.specs.Prelude.{ℕ, ◌+◌, ◌*◌, ◌<◌, Bool, true, false, cond, List, [], ◌∷◌, ◌++◌, length}
use Rattle.frames.specs.Check.{seal}

-- a block is sent without a card number, or with one and a power level
pub data Cid : Type 0 where
  without : Cid
  numbered : (number power : ℕ) → Cid

-- I carries information, R acknowledges (or not, with nak), deselect ends the session, wait asks for or grants time
pub data Block : Type 0 where
  i_block : (chaining number : Bool) → Cid → (information : List ℕ) → Block
  r_block : (nak number : Bool) → Cid → Block
  deselect : Cid → Block
  wait : (multiplier power : ℕ) → Cid → Block

-- card numbers are 0 to 14, power levels 0 to 3
abbrev pub ValidCid : Cid → Type 0
ValidCid without = Unit {0}
ValidCid (numbered n p) = (n < 15) × (p < 4)

-- information has one byte or more, multipliers are 1 to 59
abbrev pub ValidBlock : Block → Type 0
ValidBlock (i_block c n a info) = ValidCid a × (0 < length info)
ValidBlock (r_block k n a) = ValidCid a
ValidBlock (deselect a) = ValidCid a
ValidBlock (wait m p a) = ValidCid a × (0 < m) × (m < 60) × (p < 4)

-- a bit of a control byte, by its weight
abbrev pub weigh : ℕ → Bool → ℕ
weigh w b = cond b w 0

-- b4 of a control byte: a card number byte follows
abbrev pub follows : Cid → Bool
follows without = false
follows (numbered n p) = true

-- 000, chaining, card number follows, 0, 1, block number
abbrev pub i_control : Bool → Bool → Bool → ℕ
i_control chaining card number = 0x02 + weigh 0x10 chaining + weigh 0x08 card + weigh 0x01 number

-- 101, nak, card number follows, 0, 1, block number
abbrev pub r_control : Bool → Bool → Bool → ℕ
r_control nak card number = 0xA2 + weigh 0x10 nak + weigh 0x08 card + weigh 0x01 number

-- 11, 00, card number follows, 010
abbrev pub deselect_control : Bool → ℕ
deselect_control card = 0xC2 + weigh 0x08 card

-- 11, 11, card number follows, 010
abbrev pub wait_control : Bool → ℕ
wait_control card = 0xF2 + weigh 0x08 card

-- the card number byte, where there is one: the power level in the two top bits, the number below
abbrev pub cid_bytes : Cid → List ℕ
cid_bytes without = []
cid_bytes (numbered n p) = (64 * p + n) ∷ []

-- a block's bytes, without check
abbrev pub bytes_of : Block → List ℕ
bytes_of (i_block c n a info) = i_control c (follows a) n ∷ (cid_bytes a ++ info)
bytes_of (r_block k n a) = r_control k (follows a) n ∷ cid_bytes a
bytes_of (deselect a) = deselect_control (follows a) ∷ cid_bytes a
bytes_of (wait m p a) = wait_control (follows a) ∷ (cid_bytes a ++ ((64 * p + m) ∷ []))

-- a block's frame
abbrev pub frame_of : Block → List ℕ
frame_of b = seal (bytes_of b)
