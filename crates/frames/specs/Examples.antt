-- Control bytes that anyone can work out by hand.
use Rattle.std.specs.Prelude.{◌≡◌, true, false}
use Rattle.frames.specs.Blocks.{i_control, r_control}
use Rattle.frames.specs.Reading.{i_kind, r_kind, no_kind, kind_of, has}

pub record Examples : Type 0 where
  -- 13 is I, chaining, number 1, without card number
  pub i_13 : kind_of 0x13 ≡ i_kind
  pub chaining_13 : has 0x10 0x13 ≡ true
  pub number_13 : has 0x01 0x13 ≡ true
  pub made_13 : i_control true false true ≡ 0x13
  -- B2 is R(NAK), number 0, without card number
  pub r_b2 : kind_of 0xB2 ≡ r_kind
  pub nak_b2 : has 0x10 0xB2 ≡ true
  pub number_b2 : has 0x01 0xB2 ≡ false
  pub made_b2 : r_control true false false ≡ 0xB2
  -- C3, E2 and 06 have no kind
  pub none_c3 : kind_of 0xC3 ≡ no_kind
  pub none_e2 : kind_of 0xE2 ≡ no_kind
  pub none_06 : kind_of 0x06 ≡ no_kind
