-- Card numbers, written and read back.
use Rattle.std.proofs.Common.{◌≡◌, ℕ, ◌+◌, ◌*◌, ◌/◌, ◌%◌, ◌<◌, ◌≤◌, Bool, true, false, eqb, ltb, List, [], ◌∷◌, ◌++◌, length, drop, sym, refl, ap, ◌∙◌, ap₂, arith}
use lib.Bits.{bit_and}
use Rattle.std.proofs.lemmas.Bool.{lt-ltb, ltb-true}
use Rattle.frames.specs.Blocks.{Cid, without, numbered, ValidCid, follows, cid_bytes}
use Rattle.frames.specs.Check.{both}
use Rattle.frames.specs.Laws.{Bytes}
use Rattle.frames.specs.Reading.{cid_size, cid_of, cid_good}
use Rattle.frames.proofs.Boths.{both_true}
use Rattle.frames.proofs.Controls.{reserved_bits}

-- a card number is read back
pub cid_there : (a : Cid) (info : List ℕ) → ValidCid a → cid_of (follows a) (cid_bytes a ++ info) ≡ a
cid_there without info h = refl
cid_there (numbered n p) info h =
    let low : (64 * p + n) % 16 ≡ n = omega (arith, h.0, h.1) in
    let high : (64 * p + n) / 64 ≡ p = omega (arith, h.0, h.1) in
    ap₂ numbered low high

-- what stands behind it
pub behind_cid : (a : Cid) (info : List ℕ) → drop (cid_size (follows a)) (cid_bytes a ++ info) ≡ info
behind_cid without info = refl
behind_cid (numbered n p) info = refl

-- its byte is a good one
pub cid_good_lem : (a : Cid) (info : List ℕ) → ValidCid a → cid_good (follows a) (cid_bytes a ++ info) ≡ true
cid_good_lem without info h = refl
cid_good_lem (numbered n p) info h =
    let v : ℕ = 64 * p + n in
    let zero_bits : eqb (bit_and v 0x30) 0 ≡ true =
    reserved_bits v (omega (arith, h.0, h.1)) ∙ lt-ltb (v % 64) 16 (omega (arith, h.0, h.1)) in
    ap₂ both zero_bits (lt-ltb (v % 16) 15 (omega (arith, h.0, h.1)))

pub cid_long : (a : Cid) → length (cid_bytes a) ≡ cid_size (follows a)
cid_long without = refl
cid_long (numbered n p) = refl

-- a card number that was read, and what stands behind it, make up the bytes
pub record ReadBack (flag : Bool) (rest : List ℕ) : Type 0 where
  pub whole : cid_bytes (cid_of flag rest) ++ drop (cid_size flag) rest ≡ rest
  pub valid : ValidCid (cid_of flag rest)
  pub flagged : follows (cid_of flag rest) ≡ flag

pub cid_back : (flag : Bool) (rest : List ℕ) → Bytes rest → cid_size flag ≤ length rest → cid_good flag rest ≡ true → ReadBack flag rest
cid_back false rest small long good = record { whole = refl; valid = tt; flagged = refl }
cid_back true [] small long good = absurd (omega arith)
cid_back true (v ∷ rest) small long good =
    let byte : v < 256 = small 0 in
    let parts = both_true (eqb (bit_and v 0x30) 0) (ltb (v % 16) 15) good in
    let low : v % 64 < 16 = ltb-true (v % 64) 16 (sym (reserved_bits v byte) ∙ parts.0) in
    let below : v % 16 < 15 = ltb-true (v % 16) 15 parts.1 in
    let same : 64 * (v / 64) + v % 16 ≡ v = omega arith in
    record { whole = ap (λ x. x ∷ rest) same; valid = (below, omega arith); flagged = refl }
