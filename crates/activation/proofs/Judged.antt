-- An ATS that is read has no reserved values.
use Rattle.std.proofs.Common.{◌≡◌, ℕ, ◌<◌, Bool, true, false, cond, ltb, List, [], ◌∷◌, length, get_or, refl, subst, arith, lit<, lit≤}
use Rattle.std.proofs.lemmas.Bool.{leb-true, ltb-true}
use Rattle.frames.specs.Causes.{Cause}
use Rattle.activation.specs.Ats.{Ats, AtsRead, good, bad, absent, has_ta, has_tb, has_tc, announced, byte_or, behind, t0_good, ta_good, tb_good, tc_good, read_interface, read_format, length_byte_good}
use Rattle.activation.specs.Laws.{GoodIsValid, ValidAts}
use Rattle.activation.proofs.Parts.{both_true}

pub never_bad : (w : Cause) (a : Ats) → bad w ≡ good a → ⊥
never_bad w a e = let z : ◌≡◌ {A = ℕ} 0 1 = cc in omega arith

-- a test that a good ATS has passed
pub passed : (b : Bool) (r : AtsRead) (w : Cause) (a : Ats) → cond b r (bad w) ≡ good a → (b ≡ true) × (r ≡ good a)
passed true r w a e = (refl, e)
passed false r w a e = absurd (never_bad w a e)

-- and one that it has not
pub not_failed : (b : Bool) (r : AtsRead) (w : Cause) (a : Ats) → cond b (bad w) r ≡ good a → r ≡ good a
not_failed true r w a e = absurd (never_bad w a e)
not_failed false r w a e = e

-- a byte that is announced, or else what holds without it, is a byte
a_byte : (b : Bool) (d : ℕ) (rest : List ℕ) → d < 256 → get_or rest 0 0 < 256 → byte_or b d rest < 256
a_byte true d rest here there = there
a_byte false d rest here there = here

-- what was read, from the bytes of an ATS that has T0
pub same : (a : Ats) (b : Ats) → good a ≡ good b → a ≡ b
same a b e = cc

valid_interface : (t0 : ℕ) (rest : List ℕ) (a : Ats) → t0_good t0 ≡ true → get_or rest 0 0 < 256 → read_interface t0 rest ≡ good a → ValidAts a
valid_interface t0 rest a fine byte e =
    let ta = byte_or (has_ta t0) 0x00 rest in
    let tb = byte_or (has_tb t0) 0x40 (behind (has_ta t0) rest) in
    let tc = byte_or (has_tc t0) 0x02 (behind (has_tb t0) (behind (has_ta t0) rest)) in
    let s1 = passed (ta_good ta) _ _ a e in
    let s2 = passed (tb_good tb) _ _ a s1.1 in
    let s3 = passed (tc_good tc) _ _ a s2.1 in
    let tb-parts = both_true _ _ s2.0 in
    subst (λ (x : Ats). ValidAts x) (same _ a s3.1)
    record {
      fsci_high = leb-true _ _ (both_true _ _ fine).1;
      ta_byte = a_byte (has_ta t0) 0 rest (omega arith) byte;
      ta_allowed = s1.0;
      fwi_high = ltb-true _ _ tb-parts.0;
      sfgi_high = ltb-true _ _ tb-parts.1;
      tc_high = ltb-true _ _ s3.0;
    }

valid_format : (rest : List ℕ) (a : Ats) → get_or rest 1 0 < 256 → read_format rest ≡ good a → ValidAts a
valid_format [] a byte e =
    subst (λ (x : Ats). ValidAts x) (same absent a e)
    record {
      fsci_high = lit≤ tt;
      ta_byte = lit< tt;
      ta_allowed = refl;
      fwi_high = lit< tt;
      sfgi_high = lit< tt;
      tc_high = lit< tt;
    }
valid_format (t0 ∷ rest) a byte e =
    let s = passed (t0_good t0) _ _ a e in
    valid_interface t0 rest a s.0 byte (not_failed (ltb (length rest) (announced t0)) _ _ a s.1)

pub good_is_valid : GoodIsValid
good_is_valid fsd [] a bytes e = absurd (never_bad _ a e)
good_is_valid fsd (tl ∷ rest) a bytes e =
    valid_format rest a (bytes 2) (passed (length_byte_good fsd tl (length (tl ∷ rest))) _ _ a e).1
