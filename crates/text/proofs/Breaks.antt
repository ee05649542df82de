-- The first line of a text, and what stands behind it.
use Rattle.std.proofs.Common.{◌≡◌, ℕ, ◌+◌, ◌<◌, ◌≤◌, Bool, true, false, cond, eqb, List, [], ◌∷◌, length, take, drop, Some, None, Option, sym, refl, ap, ap₂, ◌∙◌, arith}
use Rattle.std.proofs.lemmas.List.{take_all, drop_all, take_rest}
use Rattle.std.specs.Borrow.{Bor}
use Rattle.std.specs.Option.{unwrap_or}
use Rattle.std.specs.Slice.{IsGetRangeResult}
use Rattle.text.specs.Lines.{prepend, lines_of}
use Rattle.memchr.specs.Find.{IsFirstByte, is_byte}
use Rattle.text.specs.Words.{Cut, longer, cut_at}
use Rattle.text.proofs.Cuts.{cut_found, cut_missed}

-- the lines of a text that is cut at its first line break, or has none
abbrev broken : List ℕ → Option Cut → List (List ℕ)
broken text None = text ∷ []
broken text (Some k) = k.first ∷ lines_of k.rest

longer_broken : (c : ℕ) (cs : List ℕ) (o : Option Cut) → prepend c (broken cs o) ≡ broken (c ∷ cs) (longer c o)
longer_broken c cs None = refl
longer_broken c cs (Some k) = refl

either_broken : (c : ℕ) (cs : List ℕ) (b : Bool) (o : Option Cut) (ls : List (List ℕ)) → prepend c ls ≡ broken (c ∷ cs) (longer c o) → cond b ([] ∷ lines_of cs) (prepend c ls) ≡ broken (c ∷ cs) (cond b (Some (record { first = []; rest = cs })) (longer c o))
either_broken c cs true o ls e = refl
either_broken c cs false o ls e = e

lines_of-cut : (text : List ℕ) → 0 < length text → lines_of text ≡ broken text (cut_at 10 text)
lines_of-cut [] h = absurd (omega arith)
lines_of-cut (c ∷ []) h = either_broken c [] (eqb c 10) None [] refl
lines_of-cut (c ∷ d ∷ cs) h =
    either_broken c (d ∷ cs) (eqb c 10) (cut_at 10 (d ∷ cs)) (lines_of (d ∷ cs))
    (ap (prepend c) (lines_of-cut (d ∷ cs) (omega arith)) ∙ longer_broken c (d ∷ cs) (cut_at 10 (d ∷ cs)))

-- the first line and what stands behind it: up to the first line break, or all where there is none
pub first_line : (text : List ℕ) (o : Option ℕ) (end : ℕ) → 0 < length text → IsFirstByte (is_byte 10) text o → end ≡ unwrap_or o (length text) → lines_of text ≡ take end text ∷ lines_of (drop (end + 1) text)
first_line text None end some h is =
    lines_of-cut text some ∙ ap (broken text) (sym (cut_missed 10 text h))
    ∙ ap₂ (λ l m. l ∷ lines_of m) (sym (take_all end text (omega arith))) (sym (drop_all (end + 1) text (omega arith)))
first_line text (Some i) end some h is =
    lines_of-cut text some ∙ ap (broken text) (sym (cut_found 10 text i h))
    ∙ ap (λ n. take n text ∷ lines_of (drop (n + 1) text)) (sym is)

-- what stands behind a place, and nothing where the text ends before it
pub behind : (text : List ℕ) (n : ℕ) (r : Option (Bor (List ℕ))) (d x : Bor (List ℕ)) → IsGetRangeResult text n (length text) r → d.now ≡ [] → x ≡ unwrap_or r d → x.now ≡ drop n text
behind text n None d x h none is =
    let short : length text ≤ n = grind (arith, h) in
    ap (λ y. y.now) is ∙ none ∙ sym (drop_all n text short)
behind text n (Some p) d x h none is = ap (λ y. y.now) is ∙ h.0.2 ∙ take_rest text n

length-prepend : (c : ℕ) (ls : List (List ℕ)) → length (prepend c ls) ≤ length ls + 1
length-prepend c [] = omega arith
length-prepend c (l ∷ ls) = omega arith

no_longer : (c : ℕ) (ls : List (List ℕ)) (n : ℕ) (b : Bool) → length ls ≤ n → length (cond b ([] ∷ ls) (prepend c ls)) ≤ n + 1
no_longer c ls n true h = omega arith
no_longer c ls n false h = omega (arith, length-prepend c ls)

-- there are no more lines than characters
pub length-lines_of : (text : List ℕ) → length (lines_of text) ≤ length text
length-lines_of [] = omega arith
length-lines_of (c ∷ cs) = let h = no_longer c (lines_of cs) (length cs) (eqb c 10) (length-lines_of cs) in omega (arith, h)
