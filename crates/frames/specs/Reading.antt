-- Reading a received frame as a block: the tests in their order, each with its cause.
use Rattle.std.specs.Prelude.{ℕ, ◌+◌, ◌/◌, ◌%◌, Bool, true, false, cond, not, List, [], ◌∷◌, length, drop, ◌==◌, bit_and, nat_lt, slice_index}
use Rattle.frames.specs.Causes.{Cause, without_kind, length_wrong, card_wrong, multiplier_reserved}
use Rattle.frames.specs.Check.{Opened, opened, unopened, open_frame, both}
use Rattle.frames.specs.Blocks.{Block, i_block, r_block, deselect, wait, Cid, without, numbered}

-- the kinds of control byte
pub data Kind : Type 0 where
  i_kind : Kind
  r_kind : Kind
  deselect_kind : Kind
  wait_kind : Kind
  no_kind : Kind

-- the fixed bits of each kind: I 000....., .....01. ; R 101....., .....01. ; deselect 1100.010 ; wait 1111.010
abbrev pub kind_of : ℕ → Kind
kind_of c =
    cond (bit_and c 0xE6 == 0x02) i_kind
    (cond (bit_and c 0xE6 == 0xA2) r_kind
    (cond (bit_and c 0xF7 == 0xC2) deselect_kind
    (cond (bit_and c 0xF7 == 0xF2) wait_kind no_kind)))

-- the bit of this weight is set
abbrev pub has : ℕ → ℕ → Bool
has w c = not (bit_and c w == 0)

-- which card numbers a receiver takes: none, just this one, or the number 0 as well as none
pub data Agreed : Type 0 where
  no_number : Agreed
  number : ℕ → Agreed
  zero_or_none : Agreed

abbrev pub agrees : Agreed → Cid → Bool
agrees no_number without = true
agrees no_number (numbered n p) = false
agrees (number k) without = false
agrees (number k) (numbered n p) = n == k
agrees zero_or_none without = true
agrees zero_or_none (numbered n p) = n == 0

-- what a frame is read as: a block, or an invalid one with its cause
pub data Reading : Type 0 where
  valid : Block → Reading
  invalid : Cause → Reading

-- how many bytes a card number takes
abbrev pub cid_size : Bool → ℕ
cid_size follows = cond follows 1 0

-- the bytes behind the control byte are as many as blocks of the kind have
abbrev pub length_fits : Kind → Bool → ℕ → Bool
length_fits i_kind follows n = nat_lt (cid_size follows) n
length_fits r_kind follows n = n == cid_size follows
length_fits deselect_kind follows n = n == cid_size follows
length_fits wait_kind follows n = n == cid_size follows + 1
length_fits no_kind follows n = false

-- the card number that the byte behind the control byte gives
abbrev pub cid_of : Bool → List ℕ → Cid
cid_of follows rest = cond follows (numbered (slice_index rest 0 % 16) (slice_index rest 0 / 64)) without

-- a card number byte has 00 in b6 b5, and no number 15
abbrev pub cid_good : Bool → List ℕ → Bool
cid_good follows rest = cond follows (both (bit_and (slice_index rest 0) 0x30 == 0) (nat_lt (slice_index rest 0 % 16) 15)) true

-- a multiplier is 1 to 59
abbrev pub multiplier_good : ℕ → Bool
multiplier_good v = both (nat_lt 0 (v % 64)) (nat_lt (v % 64) 60)

-- the block of a kind, from its control byte, its card number and what stands behind
abbrev pub block_of : Kind → ℕ → Cid → List ℕ → Reading
block_of i_kind c a info = valid (i_block (has 0x10 c) (has 0x01 c) a info)
block_of r_kind c a info = valid (r_block (has 0x10 c) (has 0x01 c) a)
block_of deselect_kind c a info = valid (deselect a)
block_of wait_kind c a info =
    cond (multiplier_good (slice_index info 0)) (valid (wait (slice_index info 0 % 64) (slice_index info 0 / 64) a))
    (invalid (multiplier_reserved (2 + cid_size (has 0x08 c))))
block_of no_kind c a info = invalid without_kind

-- the tests behind that of the kind: length, card number, multiplier
abbrev pub read_rest : Agreed → Kind → ℕ → List ℕ → Reading
read_rest agreed k c rest =
    cond (length_fits k (has 0x08 c) (length rest))
    (cond (both (cid_good (has 0x08 c) rest) (agrees agreed (cid_of (has 0x08 c) rest)))
    (block_of k c (cid_of (has 0x08 c) rest) (drop (cid_size (has 0x08 c)) rest)) (invalid card_wrong)) (invalid length_wrong)

abbrev pub is_kind : Kind → Bool
is_kind i_kind = true
is_kind r_kind = true
is_kind deselect_kind = true
is_kind wait_kind = true
is_kind no_kind = false

-- a body is read by its control byte
abbrev pub read_body : Agreed → List ℕ → Reading
read_body agreed [] = invalid without_kind
read_body agreed (c ∷ rest) = cond (is_kind (kind_of c)) (read_rest agreed (kind_of c) c rest) (invalid without_kind)

abbrev pub read_opened : Agreed → Opened → Reading
read_opened agreed (opened body) = read_body agreed body
read_opened agreed (unopened why) = invalid why

-- what a receiver of this frame size, with this agreement on card numbers, reads a frame as
unfoldable pub read_frame : ℕ → Agreed → List ℕ → Reading
read_frame limit agreed f = read_opened agreed (open_frame limit f)
