-- A PPS and its response are read as they were written, and nothing else is read as them.
use Rattle.std.proofs.Common.{◌≡◌, ℕ, ◌+◌, ◌*◌, ◌/◌, ◌%◌, ◌<◌, Bool, true, false, cond, eqb, ltb, [], ◌∷◌, refl, ap, arith}
use Rattle.std.proofs.lemmas.Bool.{eq-eqb, eqb-true, lt-ltb, ltb-true, both_ways}
use Rattle.frames.specs.Check.{both}
use Rattle.activation.specs.Pps.{pps, no_pps, pps_good, pps_of}
use Rattle.activation.specs.Laws.{ReadsPps, ReadsOnlyPps, ReadsPpsAnswer, TakesPpsAnswer}
use Rattle.activation.proofs.Parts.{both_true}

dsi_of : (a b : ℕ) → b < 4 → (4 * a + b) / 4 ≡ a
dsi_of a b h = omega arith

dri_of : (a b : ℕ) → b < 4 → (4 * a + b) % 4 ≡ b
dri_of a b h = omega arith

pub reads_pps : ReadsPps
reads_pps cid dsi dri from to =
    let low : dri < 4 = omega arith in
    let high : 4 * dsi + dri < 16 = omega arith in
    rw (eq-eqb (0xD0 + cid) (0xD0 + cid) refl, lt-ltb (4 * dsi + dri) 16 high, dsi_of dsi dri low, dri_of dsi dri low)

none : (dsi dri : ℕ) → no_pps ≡ pps dsi dri → ⊥
none dsi dri e = let z : ◌≡◌ {A = ℕ} 0 1 = cc in omega arith

found : (t : Bool) (a b dsi dri : ℕ) → cond t (pps a b) no_pps ≡ pps dsi dri → (t ≡ true) × (a ≡ dsi) × (b ≡ dri)
found true a b dsi dri e = (refl, (cc), (cc))
found false a b dsi dri e = absurd (none dsi dri e)

-- bytes that pass the tests are those of the PPS with the codes in the third
is_pps : (cid start p0 p1 : ℕ) → pps_good cid start p0 p1 ≡ true → ((start ∷ p0 ∷ p1 ∷ []) ≡ pps_of cid (p1 / 4) (p1 % 4)) × (p1 < 16)
is_pps cid start p0 p1 t =
    let first = both_true (eqb start (0xD0 + cid)) (both (eqb p0 0x11) (ltb p1 16)) t in
    let second = both_true (eqb p0 0x11) (ltb p1 16) first.1 in
    let d = eqb-true start (0xD0 + cid) first.0 in
    let fixed = eqb-true p0 0x11 second.0 in
    let codes : p1 ≡ 4 * (p1 / 4) + p1 % 4 = omega arith in
    ((cc), ltb-true p1 16 second.1)

pub reads_only_pps : ReadsOnlyPps
reads_only_pps cid [] dsi dri e = absurd (none dsi dri e)
reads_only_pps cid (start ∷ []) dsi dri e = absurd (none dsi dri e)
reads_only_pps cid (start ∷ p0 ∷ []) dsi dri e = absurd (none dsi dri e)
reads_only_pps cid (start ∷ p0 ∷ p1 ∷ []) dsi dri e =
    let f = found (pps_good cid start p0 p1) (p1 / 4) (p1 % 4) dsi dri e in
    let r = is_pps cid start p0 p1 f.0 in
    ((cc), omega (arith, f.1, r.1), omega (arith, f.2))
reads_only_pps cid (start ∷ p0 ∷ p1 ∷ x ∷ more) dsi dri e = absurd (none dsi dri e)

pub reads_pps_answer : ReadsPpsAnswer
reads_pps_answer cid [] t = absurd (both_ways _ refl t)
reads_pps_answer cid (b ∷ []) t = ap (λ x. x ∷ []) (eqb-true b (0xD0 + cid) t)
reads_pps_answer cid (b ∷ x ∷ more) t = absurd (both_ways _ refl t)

pub takes_pps_answer : TakesPpsAnswer
takes_pps_answer cid = eq-eqb (0xD0 + cid) (0xD0 + cid) refl
