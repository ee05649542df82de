-- What each end is set to before a run.
use Rattle.std.specs.Prelude.{ℕ, ◌-◌, Bool, cond, List, length, nat_le, nat_lt}
use Rattle.activation.specs.Ats.{Ats, ats, ta_good}
use Rattle.frames.specs.Blocks.{Cid, without, numbered}
use Rattle.frames.specs.Check.{both}
use Rattle.frames.specs.Sizes.{greatest_code}

-- the reader's: the code of its frame size, the number that it gives the card, how often it repeats a fresh frame, and
-- how many waits of an exchange it grants
pub record ReaderSettings : Type 0 where
  pub fsdi : ℕ
  pub cid : ℕ
  pub repeats : ℕ
  pub waits : ℕ

-- the card's: the code of its frame size, its waiting and guard time, the divisors that it offers, its historical bytes,
-- and whether it supports card numbers
pub record CardSettings : Type 0 where
  pub fsci : ℕ
  pub fwi : ℕ
  pub sfgi : ℕ
  pub ta : ℕ
  pub historical : List ℕ
  pub supports : Bool

-- size codes 0 to 8, card numbers 0 to 14, repeats 0 to 15, waits 0 to 255
abbrev pub reader_in_range : ReaderSettings → Bool
reader_in_range s =
    both (nat_le s.fsdi greatest_code) (both (nat_lt s.cid 15) (both (nat_le s.repeats 15) (nat_le s.waits 255)))

-- size codes 0 to 8, FWI and SFGI 0 to 14, TA a byte with b4 0, 0 to 9 historical bytes
abbrev pub card_in_range : CardSettings → Bool
card_in_range s =
    both (nat_le s.fsci greatest_code)
    (both (nat_lt s.fwi 15)
    (both (nat_lt s.sfgi 15) (both (both (nat_lt s.ta 256) (ta_good s.ta)) (nat_le (length s.historical) 9))))

-- the ATS that the card answers with
abbrev pub ats_for : CardSettings → Ats
ats_for s = ats s.fsci s.ta s.fwi s.sfgi (cond s.supports 0x02 0x00) s.historical

-- how much information fits a frame of this size: less control byte and check, and the card number byte where there is one
abbrev pub room_of : ℕ → Cid → ℕ
room_of size without = size - 3
room_of size (numbered n p) = size - 4
