-- TL counts the bytes of an ATS that is read, and the historical bytes end it.
use Rattle.std.proofs.Common.{◌≡◌, ℕ, ◌-◌, Bool, true, false, eqb, ltb, leb, List, [], ◌∷◌, ◌++◌, length, sym, refl, ap, ◌∙◌, subst, append_assoc, arith}
use Rattle.std.proofs.lemmas.Bool.{leb-true, eqb-true}
use Rattle.frames.specs.Check.{both}
use Rattle.activation.specs.Ats.{Ats, good, absent, has_ta, has_tb, has_tc, announced, byte_or, behind, t0_good, ta_good, tb_good, tc_good, read_interface, read_format, length_byte_good}
use Rattle.activation.specs.Laws.{GoodIsWhole}
use Rattle.activation.proofs.Judged.{never_bad, passed, not_failed, same}
use Rattle.activation.proofs.Parts.{both_true}

-- a list that another ends
abbrev Ends : List ℕ → List ℕ → Type 0
Ends xs ys = (front : List ℕ) × (xs ≡ front ++ ys)

further : (xs ys zs : List ℕ) → Ends xs ys → Ends ys zs → Ends xs zs
further xs ys zs p q =
    (p.0 ++ q.0, p.1 ∙ ap (λ l. p.0 ++ l) q.1 ∙ sym (append_assoc p.0 q.0 zs))

behind_ends : (b : Bool) (xs : List ℕ) → Ends xs (behind b xs)
behind_ends true [] = ([], refl)
behind_ends true (x ∷ xs) = (x ∷ [], refl)
behind_ends false xs = ([], refl)

interface_ends : (t0 : ℕ) (rest : List ℕ) (a : Ats) → read_interface t0 rest ≡ good a → Ends rest a.historical
interface_ends t0 rest a e =
    let ta = byte_or (has_ta t0) 0x00 rest in
    let tb = byte_or (has_tb t0) 0x40 (behind (has_ta t0) rest) in
    let tc = byte_or (has_tc t0) 0x02 (behind (has_tb t0) (behind (has_ta t0) rest)) in
    let s = passed (tc_good tc) _ _ a (passed (tb_good tb) _ _ a (passed (ta_good ta) _ _ a e).1).1 in
    let after-ta = behind (has_ta t0) rest in
    let after-tb = behind (has_tb t0) after-ta in
    let after-tc = behind (has_tc t0) after-tb in
    let found = further rest after-ta after-tc (behind_ends (has_ta t0) rest) (further after-ta after-tb after-tc (behind_ends (has_tb t0) after-ta) (behind_ends (has_tc t0) after-tb)) in
    subst (λ (x : Ats). Ends rest x.historical) (same _ a s.1) found

format_ends : (rest : List ℕ) (a : Ats) → read_format rest ≡ good a → Ends rest a.historical
format_ends [] a e = subst (λ (x : Ats). Ends [] x.historical) (same absent a e) ([], refl)
format_ends (t0 ∷ rest) a e =
    let s = passed (t0_good t0) _ _ a e in
    let r = interface_ends t0 rest a (not_failed (ltb (length rest) (announced t0)) _ _ a s.1) in
    (t0 ∷ r.0, ap (λ l. t0 ∷ l) r.1)

pub good_is_whole : GoodIsWhole
good_is_whole fsd [] a e = absurd (never_bad _ a e)
good_is_whole fsd (tl ∷ rest) a e =
    let s = passed (length_byte_good fsd tl (length (tl ∷ rest))) _ _ a e in
    let n = length (tl ∷ rest) in
    let tests = both_true (both (ltb 0 tl) (leb tl (fsd - 2))) (eqb tl n) s.0 in
    let counts = eqb-true tl n tests.1 in
    let range = both_true (ltb 0 tl) (leb tl (fsd - 2)) tests.0 in
    let r = format_ends rest a s.1 in
    record {
      counted = counts;
      some = omega arith;
      held = omega (arith, leb-true tl (fsd - 2) range.1);
      ends = (tl ∷ r.0, ap (λ l. tl ∷ l) r.1);
    }
