-- The fields of a line.
use Rattle.std.specs.Prelude.{ℕ, ◌+◌, ◌-◌, ◌*◌, min, Bool, true, false, cond, List, [], ◌∷◌, length, Some, None, Option, ◌==◌, nat_lt}
use Rattle.frames.specs.Check.{both}
use Rattle.frames.specs.Reading.{Agreed, no_number, number}
use Rattle.frames.specs.Sizes.{sizes}
use Rattle.text.specs.Hex.{among}
use Rattle.text.specs.Words.{kept}

-- one step of a decimal number; a line has no use for numbers above 1000, which all count as that
abbrev pub digit_on : ℕ → ℕ → ℕ
digit_on v c = min (10 * v + (c - 48)) 1000

abbrev pub count_from : ℕ → List ℕ → Option ℕ
count_from v [] = Some v
count_from v (c ∷ cs) = cond (among 48 57 c) (count_from (digit_on v c) cs) None

-- a number is one digit or more
abbrev pub number_in : List ℕ → Option ℕ
number_in [] = None
number_in (c ∷ cs) = count_from 0 (c ∷ cs)

abbrev pub one_of : ℕ → List ℕ → Bool
one_of n [] = false
one_of n (x ∷ xs) = cond (n == x) true (one_of n xs)

-- a limit is one of the frame sizes
abbrev pub limit_in : List ℕ → Option ℕ
limit_in field = kept (λ n. one_of n sizes) (number_in field)

abbrev pub agreed_on : Option ℕ → Option Agreed
agreed_on None = None
agreed_on (Some n) = cond (nat_lt n 15) (Some (number n)) None

-- a card number is 0 to 14, or a dash where none is agreed
abbrev pub card_in : List ℕ → Option Agreed
card_in [] = None
card_in (c ∷ cs) = cond (both (c == 45) (length cs == 0)) (Some no_number) (agreed_on (number_in (c ∷ cs)))
