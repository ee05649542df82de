-- ATS: the card's answer to RATS, with what it can do. TL counts the bytes, T0 announces TA, TB and TC and has the code
-- of the card's frame size, and historical bytes end it.
use Rattle.std.specs.Prelude.{ℕ, ◌+◌, ◌-◌, ◌*◌, ◌/◌, ◌%◌, Bool, true, false, cond, not, List, [], ◌∷◌, length, drop, ◌==◌, nat_le, nat_lt, slice_index}
use Rattle.frames.specs.Causes.{Cause, cause, activation}
use Rattle.frames.specs.Check.{both, Opened, opened, unopened, open_frame}
use Rattle.frames.specs.Reading.{has}
use Rattle.frames.specs.Sizes.{greatest_code}

-- what an ATS says: the code of the card's frame size, the divisors offered, the waiting time, the guard time, what
-- else is supported, and the historical bytes
pub record Ats : Type 0 where
  pub fsci : ℕ
  pub ta : ℕ
  pub fwi : ℕ
  pub sfgi : ℕ
  pub tc : ℕ
  pub historical : List ℕ

abbrev pub ats : ℕ → ℕ → ℕ → ℕ → ℕ → List ℕ → Ats
ats c a w g t h = record { fsci = c; ta = a; fwi = w; sfgi = g; tc = t; historical = h }

-- what holds where a byte is absent: frame size code 2, no divisor but 1, waiting time 4 and guard time 0, card numbers
-- supported and node addresses not
abbrev pub absent : Ats
absent = ats 2 0x00 4 0 0x02 []

abbrev pub either : Bool → Bool → Bool
either true b = true
either false b = b

-- TL is 0, above what the reader's frame holds, unlike the bytes heard, or short of what T0 announces
abbrev pub length_byte_wrong : Cause
length_byte_wrong = cause 27 1 activation

-- a reserved value in the byte at this place, TL being 1
abbrev pub reserved : ℕ → Cause
reserved p = cause 28 p activation

pub data AtsRead : Type 0 where
  good : Ats → AtsRead
  bad : Cause → AtsRead

-- TA, TB and TC as T0 announces them
abbrev pub has_ta : ℕ → Bool
has_ta t0 = has 0x10 t0

abbrev pub has_tb : ℕ → Bool
has_tb t0 = has 0x20 t0

abbrev pub has_tc : ℕ → Bool
has_tc t0 = has 0x40 t0

abbrev pub one : Bool → ℕ
one b = cond b 1 0

-- how many bytes T0 announces
abbrev pub announced : ℕ → ℕ
announced t0 = one (has_ta t0) + one (has_tb t0) + one (has_tc t0)

-- the byte that stands first if it is announced, else what holds without it
abbrev pub byte_or : Bool → ℕ → List ℕ → ℕ
byte_or there d rest = cond there (slice_index rest 0) d

-- the bytes behind it
abbrev pub behind : Bool → List ℕ → List ℕ
behind there rest = cond there (drop 1 rest) rest

-- b8 of T0 is 0, and the size code is not a reserved one
abbrev pub t0_good : ℕ → Bool
t0_good t0 = both (not (has 0x80 t0)) (nat_le (t0 % 16) greatest_code)

-- b4 of TA is 0
abbrev pub ta_good : ℕ → Bool
ta_good ta = not (has 0x08 ta)

-- FWI above and SFGI below are 0 to 14
abbrev pub tb_good : ℕ → Bool
tb_good tb = both (nat_lt (tb / 16) 15) (nat_lt (tb % 16) 15)

-- TC has b2 for card numbers and b1 for node addresses, the rest 0
abbrev pub tc_good : ℕ → Bool
tc_good tc = nat_lt tc 4

-- the three interface bytes are judged in their order
abbrev pub judged : ℕ → ℕ → ℕ → ℕ → List ℕ → AtsRead
judged t0 ta tb tc historical =
    cond (ta_good ta)
    (cond (tb_good tb)
    (cond (tc_good tc) (good (ats (t0 % 16) ta (tb / 16) (tb % 16) tc historical))
    (bad (reserved (3 + one (has_ta t0) + one (has_tb t0))))) (bad (reserved (3 + one (has_ta t0))))) (bad (reserved 3))

-- TA, TB and TC are taken one after the other, the rest is historical
abbrev pub read_interface : ℕ → List ℕ → AtsRead
read_interface t0 rest =
    judged t0 (byte_or (has_ta t0) 0x00 rest) (byte_or (has_tb t0) 0x40 (behind (has_ta t0) rest))
    (byte_or (has_tc t0) 0x02 (behind (has_tb t0) (behind (has_ta t0) rest)))
    (behind (has_tc t0) (behind (has_tb t0) (behind (has_ta t0) rest)))

-- T0, where there is one, and TL against it
abbrev pub read_format : List ℕ → AtsRead
read_format [] = good absent
read_format (t0 ∷ rest) =
    cond (t0_good t0) (cond (nat_lt (length rest) (announced t0)) (bad length_byte_wrong) (read_interface t0 rest))
    (bad (reserved 2))

-- TL alone: 1 to the reader's frame size less 2, and as many as were heard
abbrev pub length_byte_good : ℕ → ℕ → ℕ → Bool
length_byte_good fsd tl n = both (both (nat_lt 0 tl) (nat_le tl (fsd - 2))) (tl == n)

-- a body as an ATS, at a reader of this frame size
abbrev pub read_ats : ℕ → List ℕ → AtsRead
read_ats fsd [] = bad length_byte_wrong
read_ats fsd (tl ∷ rest) = cond (length_byte_good fsd tl (length (tl ∷ rest))) (read_format rest) (bad length_byte_wrong)

abbrev pub read_ats_opened : ℕ → Opened → AtsRead
read_ats_opened fsd (opened body) = read_ats fsd body
read_ats_opened fsd (unopened why) = bad why

-- a frame as an ATS
abbrev pub hear_ats : ℕ → List ℕ → AtsRead
hear_ats fsd f = read_ats_opened fsd (open_frame fsd f)

-- the ATS as our card sends it: TA, TB and TC are all there
abbrev pub ats_of : Ats → List ℕ
ats_of a =
    (5 + length a.historical)
    ∷ (0x70 + a.fsci) ∷ a.ta ∷ (16 * a.fwi + a.sfgi) ∷ a.tc ∷ a.historical

-- the card number is supported
abbrev pub supports_cid : Ats → Bool
supports_cid a = has 0x02 a.tc
