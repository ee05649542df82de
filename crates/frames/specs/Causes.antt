-- Why what was heard is no block: each cause has a number, the place of the byte at fault and a layer.
use Rattle.std.specs.Prelude.{ℕ}

-- the layer at which a cause was found
pub data Layer : Type 0 where
  frame : Layer
  activation : Layer
  block : Layer

-- the place counts a frame's bytes from 1, and is 0 where no byte is at fault
pub record Cause : Type 0 where
  pub number : ℕ
  pub place : ℕ
  pub layer : Layer

abbrev pub cause : ℕ → ℕ → Layer → Cause
cause n p l = record { number = n; place = p; layer = l }

-- nothing was heard
abbrev pub silence : Cause
silence = cause 20 0 frame

-- under 3 bytes
abbrev pub too_short : Cause
too_short = cause 21 0 frame

-- longer than the receiver's frame size
abbrev pub too_long : Cause
too_long = cause 22 0 frame

-- the last two bytes are not the check of those before
abbrev pub check_wrong : Cause
check_wrong = cause 23 0 frame

-- a control byte without a kind
abbrev pub without_kind : Cause
without_kind = cause 24 1 block

-- a length that blocks of the kind do not have
abbrev pub length_wrong : Cause
length_wrong = cause 25 0 block

-- a card number byte that is none, or not the agreed one
abbrev pub card_wrong : Cause
card_wrong = cause 26 2 block

-- a reserved multiplier in the wait byte at this place
abbrev pub multiplier_reserved : ℕ → Cause
multiplier_reserved p = cause 28 p block
