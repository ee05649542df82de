-- PPS: the reader chooses a divisor for each direction among those that TA offers; the card's response repeats the
-- first byte. The codes 0 to 3 stand for the divisors 1, 2, 4 and 8.
use Rattle.std.specs.Prelude.{ℕ, ◌+◌, ◌*◌, ◌/◌, ◌%◌, Bool, true, false, cond, List, [], ◌∷◌, ◌==◌, nat_lt}
use Rattle.frames.specs.Causes.{Cause, cause, activation}
use Rattle.frames.specs.Check.{both}
use Rattle.frames.specs.Reading.{has}

-- the greatest rate code
abbrev pub greatest_rate : ℕ
greatest_rate = 3

-- D and the card number, 11, then 0000, the code from the card, the code to the card
abbrev pub pps_of : ℕ → ℕ → ℕ → List ℕ
pps_of cid dsi dri = (0xD0 + cid) ∷ 0x11 ∷ (4 * dsi + dri) ∷ []

-- the response to it
abbrev pub pps_answer : ℕ → List ℕ
pps_answer cid = (0xD0 + cid) ∷ []

-- TA offers the divisor of this code in the direction whose lowest bit has this weight; divisor 1 always, and no code
-- above the greatest has one
abbrev pub offers : ℕ → ℕ → ℕ → Bool
offers ta weight code =
    cond (code == 0) true
    (cond (code == 1) (has weight ta)
    (cond (code == 2) (has (2 * weight) ta) (cond (code == 3) (has (4 * weight) ta) false)))

-- TA offers this pair: b5 to b7 from the card, b1 to b3 to it, and with b8 only equal ones
abbrev pub offered : ℕ → ℕ → ℕ → Bool
offered ta dsi dri = both (both (offers ta 0x10 dsi) (offers ta 0x01 dri)) (cond (has 0x80 ta) (dsi == dri) true)

pub data PpsRead : Type 0 where
  pps : (dsi dri : ℕ) → PpsRead
  no_pps : PpsRead

-- the second byte is 11, and the third has 0000 above
abbrev pub pps_good : ℕ → ℕ → ℕ → ℕ → Bool
pps_good cid start p0 p1 = both (start == 0xD0 + cid) (both (p0 == 0x11) (nat_lt p1 16))

-- a PPS for the card of this number
abbrev pub read_pps : ℕ → List ℕ → PpsRead
read_pps cid [] = no_pps
read_pps cid (start ∷ []) = no_pps
read_pps cid (start ∷ p0 ∷ []) = no_pps
read_pps cid (start ∷ p0 ∷ p1 ∷ []) = cond (pps_good cid start p0 p1) (pps (p1 / 4) (p1 % 4)) no_pps
read_pps cid (start ∷ p0 ∷ p1 ∷ x ∷ more) = no_pps

-- a body that is not the response
abbrev pub pps_answer_wrong : Cause
pps_answer_wrong = cause 24 1 activation

-- a body is the response
abbrev pub is_pps_answer : ℕ → List ℕ → Bool
is_pps_answer cid [] = false
is_pps_answer cid (b ∷ []) = b == 0xD0 + cid
is_pps_answer cid (b ∷ x ∷ more) = false
