-- A word is spelled so exactly if its bytes are these.
use Rattle.std.proofs.Common.{◌≡◌, ℕ, Bool, true, false, eqb, List, [], ◌∷◌, Decides, sym, refl, ap, ◌∙◌, true-eqb}
use Rattle.std.proofs.lemmas.Bool.{eq-eqb}
use Rattle.frames.specs.Check.{both}
use Rattle.text.specs.Words.{spells}

both_first : (a b : Bool) → both a b ≡ true → a ≡ true
both_first true b e = refl
both_first false b e = e

both_second : (a b : Bool) → both a b ≡ true → b ≡ true
both_second true b e = e
both_second false true e = refl
both_second false false e = e

pub spelled : (word field : List ℕ) → spells word field ≡ true → field ≡ word
spelled [] [] e = refl
spelled [] (c ∷ cs) e = cc
spelled (x ∷ xs) [] e = cc
spelled (x ∷ xs) (c ∷ cs) e =
    let head : c ≡ x = true-eqb c x (sym (both_first (eqb c x) (spells xs cs) e)) in
    let tail : cs ≡ xs = spelled xs cs (both_second (eqb c x) (spells xs cs) e) in
    λ i. head i ∷ tail i

pub spells_itself : (word : List ℕ) → spells word word ≡ true
spells_itself [] = refl
spells_itself (x ∷ xs) = λ i. both (eq-eqb x x refl i) (spells_itself xs i)

same_answer : (a b : Bool) → (a ≡ true → b ≡ true) → (b ≡ true → a ≡ true) → a ≡ b
same_answer true b f g = sym (f refl)
same_answer false true f g = g refl
same_answer false false f g = refl

-- what `==` decides is whether the word is spelled so
pub spells_decided : (word field : List ℕ) (r : Bool) → Decides r (field ≡ word) → r ≡ spells word field
spells_decided word field r d =
    same_answer r (spells word field) (λ e. ap (spells word) (d.0 e) ∙ spells_itself word)
    (λ e. d.1 (spelled word field e))
