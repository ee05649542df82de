-- Cutting at a mark, and reading a number.
use Rattle.std.proofs.Common.{◌≡◌, ℕ, zero, suc, ◌+◌, ◌<◌, Bool, true, false, cond, eqb, List, [], ◌∷◌, length, get_or, take, drop, Some, None, Option, sym, refl, ap, ◌∙◌, add-one, arith}
use Rattle.std.proofs.lemmas.List.{at_drop_more}
use Rattle.memchr.specs.Find.{IsFirstByte, is_byte}
use Rattle.text.specs.Hex.{among}
use Rattle.text.specs.Words.{Cut, longer, cut_at, count_from, digit_on, number_in}

abbrev pub made : List ℕ → List ℕ → Option Cut
made a b = Some (record { first = a; rest = b })

-- no mark before a place, and one there
pub record FirstAt (mark : ℕ) (xs : List ℕ) (i : ℕ) : Type 0 where
  pub before : (k : ℕ) → k < i → eqb (get_or xs k 0) mark ≡ false
  pub here : eqb (get_or xs i 0) mark ≡ true
  pub within : i < length xs

pub cut_first : (mark : ℕ) (xs : List ℕ) (i : ℕ) → FirstAt mark xs i → made (take i xs) (drop (suc i) xs) ≡ cut_at mark xs
cut_first mark [] i h = absurd (let w = h.within in omega arith)
cut_first mark (c ∷ cs) zero h = ap (λ t. cond t (made [] cs) (longer c (cut_at mark cs))) (sym h.here)
cut_first mark (c ∷ cs) (suc i) h =
    let w = h.within in
    let rest = cut_first mark cs i (record { before = λ k l. h.before (suc k) (omega arith); here = h.here; within = omega arith }) in
    ap (longer c) rest ∙ ap (λ t. cond t (made [] cs) (longer c (cut_at mark cs))) (sym (h.before zero (omega arith)))

pub cut_nowhere : (mark : ℕ) (xs : List ℕ) → ((k : ℕ) → k < length xs → eqb (get_or xs k 0) mark ≡ false) → None ≡ cut_at mark xs
cut_nowhere mark [] h = refl
cut_nowhere mark (c ∷ cs) h =
    ap (longer c) (cut_nowhere mark cs (λ k l. h (suc k) (omega arith)))
    ∙ ap (λ t. cond t (made [] cs) (longer c (cut_at mark cs))) (sym (h zero (omega arith)))

off : (b : Bool) → (b ≡ true → ⊥) → b ≡ false
off true h = absurd (h refl)
off false h = refl

pub cut_found : (mark : ℕ) (xs : List ℕ) (i : ℕ) → IsFirstByte (is_byte mark) xs (Some i) → made (take i xs) (drop (i + 1) xs) ≡ cut_at mark xs
cut_found mark xs i h = rw add-one (cut_first mark xs i (record { before = λ k l. off (eqb (get_or xs k 0) mark) (h.0.before k (omega arith) l); here = h.1; within = h.0.high }))

pub cut_missed : (mark : ℕ) (xs : List ℕ) → IsFirstByte (is_byte mark) xs None → None ≡ cut_at mark xs
cut_missed mark xs h = cut_nowhere mark xs (λ k l. off (eqb (get_or xs k 0) mark) (h k (omega arith) l))

-- numbers
module _ (field : List ℕ) (i n : ℕ) (inv : count_from n (drop i field) ≡ number_in field) where
  abbrev digit : ℕ
  digit = get_or field i 0

  pub number_on : i < length field → among 48 57 digit ≡ true → count_from (digit_on n digit) (drop (i + 1) field) ≡ number_in field
  number_on h is =
      ap (λ t. cond t (count_from (digit_on n digit) (drop (i + 1) field)) None) (sym is)
      ∙ sym (at_drop_more (count_from n) field i 0 h) ∙ inv

  pub number_none : i < length field → among 48 57 digit ≡ false → None ≡ number_in field
  number_none h is =
      ap (λ t. cond t (count_from (digit_on n digit) (drop (i + 1) field)) None) (sym is)
      ∙ sym (at_drop_more (count_from n) field i 0 h) ∙ inv
