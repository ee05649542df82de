-- A RATS is read as it was written, and nothing else is read as it.
use Rattle.std.proofs.Common.{◌≡◌, ℕ, ◌+◌, ◌*◌, ◌/◌, ◌%◌, ◌<◌, ◌≤◌, Bool, true, false, cond, eqb, ltb, leb, [], ◌∷◌, refl, arith}
use Rattle.std.proofs.lemmas.Bool.{le-leb, lt-ltb, eqb-true, leb-true, ltb-true}
use Rattle.frames.specs.Check.{both}
use Rattle.frames.specs.Sizes.{greatest_code}
use Rattle.activation.specs.Rats.{rats, no_rats, rats_good, rats_of}
use Rattle.activation.specs.Laws.{ReadsRats, ReadsOnlyRats}
use Rattle.activation.proofs.Parts.{upper, lower, both_true}

pub reads_rats : ReadsRats
reads_rats fsdi cid code card =
    let low : cid < 16 = omega arith in
    rw (upper fsdi cid low, lower fsdi cid low, le-leb fsdi greatest_code code, lt-ltb cid 15 card)

none : (fsdi cid : ℕ) → no_rats ≡ rats fsdi cid → ⊥
none fsdi cid e = let z : ◌≡◌ {A = ℕ} 0 1 = cc in omega arith

found : (t : Bool) (a b fsdi cid : ℕ) → cond t (rats a b) no_rats ≡ rats fsdi cid → (t ≡ true) × (a ≡ fsdi) × (b ≡ cid)
found true a b fsdi cid e = (refl, (cc), (cc))
found false a b fsdi cid e = absurd (none fsdi cid e)

-- without reserved values, the second byte is that of the RATS
is_rats : (start p : ℕ) → rats_good start p ≡ true → ((start ∷ p ∷ []) ≡ rats_of (p / 16) (p % 16)) × (p / 16 ≤ greatest_code) × (p % 16 < 15)
is_rats start p t =
    let first = both_true (eqb start 0xE0) (both (leb (p / 16) greatest_code) (ltb (p % 16) 15)) t in
    let second = both_true (leb (p / 16) greatest_code) (ltb (p % 16) 15) first.1 in
    let e0 = eqb-true start 0xE0 first.0 in
    let halves : p ≡ 16 * (p / 16) + p % 16 = omega arith in
    ((cc), leb-true (p / 16) greatest_code second.0, ltb-true (p % 16) 15 second.1)

pub reads_only_rats : ReadsOnlyRats
reads_only_rats [] fsdi cid e = absurd (none fsdi cid e)
reads_only_rats (start ∷ []) fsdi cid e = absurd (none fsdi cid e)
reads_only_rats (start ∷ p ∷ []) fsdi cid e =
    let f = found (rats_good start p) (p / 16) (p % 16) fsdi cid e in
    let r = is_rats start p f.0 in
    ((cc), omega (arith, f.1, r.1), omega (arith, f.2, r.2))
reads_only_rats (start ∷ p ∷ x ∷ more) fsdi cid e = absurd (none fsdi cid e)
