-- Numbers of at most 1000, as those of any size that are cut down to it.
use Rattle.std.proofs.Common.{◌≡◌, ℕ, min, Bool, true, false, cond, List, [], ◌∷◌, None, Option, refl, ap, ◌∙◌, arith}
use Rattle.std.specs.Option.{option_map}
use Rattle.text.specs.Hex.{among}
use Rattle.text.specs.Words as text
use Rattle.inspection.specs.Words.{digit_on, count_from, number_in}

-- a number cut down to 1000
abbrev pub cut_down : ℕ → ℕ
cut_down n = min n 1000

digit_cut : (v c : ℕ) → digit_on (cut_down v) c ≡ cut_down (text.digit_on v c)
digit_cut v c = omega arith

either_cut : (b : Bool) (x y : Option ℕ) → x ≡ option_map cut_down y → cond b x None ≡ option_map cut_down (cond b y None)
either_cut true x y e = e
either_cut false x y e = refl

count_cut : (v : ℕ) (cs : List ℕ) → count_from (cut_down v) cs ≡ option_map cut_down (text.count_from v cs)
count_cut v [] = refl
count_cut v (c ∷ cs) =
    either_cut (among 48 57 c) (count_from (digit_on (cut_down v) c) cs) (text.count_from (text.digit_on v c) cs)
    (ap (λ n. count_from n cs) (digit_cut v c) ∙ count_cut (text.digit_on v c) cs)

pub number_cut : (field : List ℕ) → number_in field ≡ option_map cut_down (text.number_in field)
number_cut [] = refl
number_cut (c ∷ cs) = count_cut 0 (c ∷ cs)
