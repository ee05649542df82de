-- An ATS is read as it was written.
use Rattle.std.proofs.Common.{◌≡◌, ℕ, suc, ◌+◌, ◌-◌, ◌*◌, ◌%◌, ◌^◌, ◌<◌, ◌≤◌, true, false, not, eqb, ltb, length, arith}
use lib.Bits.{bit_and, and_block, and_zero_r}
use Rattle.std.proofs.lemmas.Bool.{le-leb, lt-ltb, le-ltb, eq-eqb}
use Rattle.frames.specs.Reading.{has}
use Rattle.frames.specs.Sizes.{greatest_code}
use Rattle.activation.specs.Ats.{length_byte_good, ats_of, t0_good, has_ta, has_tb, has_tc}
use Rattle.activation.specs.Laws.{ReadsAts}
use Rattle.activation.proofs.Parts.{upper, lower}

-- a bit of the upper half of a byte does not depend on the lower half
in_upper : (w h low : ℕ) → low < 16 → has (w * 2 ^ 4 + 0) (h * 2 ^ 4 + low) ≡ not (eqb (bit_and h w * 2 ^ 4 + 0) 0)
in_upper w h low below =
    let none : 0 < 2 ^ 4 = omega arith in
    let e = and_block 4 h w low 0 below none in
    rw (e, and_zero_r low)

-- T0 as our card writes it
record OurT0 (fsci : ℕ) : Type 0 where
  size : (0x70 + fsci) % 16 ≡ fsci
  fine : t0_good (0x70 + fsci) ≡ true
  ta : has_ta (0x70 + fsci) ≡ true
  tb : has_tb (0x70 + fsci) ≡ true
  tc : has_tc (0x70 + fsci) ≡ true

our_t0 : (fsci : ℕ) → fsci ≤ greatest_code → OurT0 fsci
our_t0 fsci code =
    let low : fsci < 16 = omega arith in
    let same : (0x70 + fsci) % 16 ≡ fsci = lower 7 fsci low in
    let b8 : has 0x80 (0x70 + fsci) ≡ false = in_upper 8 7 fsci low in
    record {
      size = same;
      fine = rw (b8, same, le-leb fsci greatest_code code);
      ta = in_upper 1 7 fsci low;
      tb = in_upper 2 7 fsci low;
      tc = in_upper 4 7 fsci low;
    }

-- TL, where the reader's frame holds the ATS and all its bytes were heard
tl_good : (fsd tl n : ℕ) → 0 < tl → tl ≤ fsd - 2 → tl ≡ n → length_byte_good fsd tl n ≡ true
tl_good fsd tl n some fits same = rw (lt-ltb 0 tl some, le-leb tl (fsd - 2) fits, eq-eqb tl n same)

-- three bytes or more are enough for TA, TB and TC
enough : (n : ℕ) → ltb (suc (suc (suc n))) 3 ≡ false
enough n = le-ltb (suc (suc (suc n))) 3 (omega arith)

pub reads_ats : ReadsAts
reads_ats fsd a v fits =
    let n = length a.historical in
    let tl = tl_good fsd (5 + n) (length (ats_of a)) (omega arith) fits (omega arith) in
    let t0 = our_t0 a.fsci v.fsci_high in
    let low : a.sfgi < 16 = omega arith in
    let fwi = lt-ltb a.fwi 15 v.fwi_high in
    let sfgi = lt-ltb a.sfgi 15 v.sfgi_high in
    let tc = lt-ltb a.tc 4 v.tc_high in
    rw (tl, t0.fine, t0.ta, t0.tb, t0.tc, enough n, v.ta_allowed, upper a.fwi a.sfgi low, lower a.fwi a.sfgi low, fwi, sfgi, tc, t0.size)
