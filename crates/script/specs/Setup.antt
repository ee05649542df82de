-- The set-up of a script: a line of names and a line of values.
use Rattle.std.specs.Prelude.{ℕ, cond, List, [], ◌∷◌, Some, None, codes, Option, nat_lt}
use Rattle.std.specs.Option.{option_map}
use Rattle.text.specs.Hex.{byte_of}
use Rattle.text.specs.Words.{Cut, cut_of, spells, number_in, greatest_number, kept}

-- what is on the card: a metre with this count, or a yarn record of this byte throughout
pub data Chosen : Type 0 where
  metre : (count : ℕ) → Chosen
  yarn : (fill : ℕ) → Chosen

-- the frame size codes of reader and card, the card number, the reader's repeats and waits, and the application
pub record Values : Type 0 where
  pub fsdi : ℕ
  pub fsci : ℕ
  pub cid : ℕ
  pub repeats : ℕ
  pub waits : ℕ
  pub app : Chosen

-- the first line
abbrev pub setup_names : List ℕ
setup_names = codes "fsdi fsci cid repeats waits app amount"

-- a number of one byte
abbrev pub small_in : List ℕ → Option ℕ
small_in field = kept (λ n. nat_lt n 256) (number_in field)

-- metres: a number of four bytes
abbrev pub metres_in : List ℕ → Option ℕ
metres_in field = kept (λ n. nat_lt n greatest_number) (number_in field)

-- a fill byte: two hexadecimal digits
abbrev pub fill_in : List ℕ → Option ℕ
fill_in [] = None
fill_in (x ∷ []) = None
fill_in (x ∷ y ∷ []) = byte_of x y
fill_in (x ∷ y ∷ z ∷ rest) = None

-- APP AMOUNT
abbrev pub chosen_in : Option Cut → Option Chosen
chosen_in None = None
chosen_in (Some k) =
    cond (spells (codes "metre") k.first) (option_map (λ n. metre n) (metres_in k.rest))
    (cond (spells (codes "yarn") k.first) (option_map (λ b. yarn b) (fill_in k.rest)) None)

-- a number of one byte up to a space, and what stands behind it
pub record Counted : Type 0 where
  pub value : ℕ
  pub rest : List ℕ

abbrev pub counted : Option ℕ → List ℕ → Option Counted
counted None rest = None
counted (Some n) rest = Some (record { value = n; rest = rest })

abbrev pub counted_in : Option Cut → Option Counted
counted_in None = None
counted_in (Some k) = counted (small_in k.first) k.rest

abbrev pub first_number : List ℕ → Option Counted
first_number line = counted_in (cut_of line)

-- The five numbers and the application, one after the other.

abbrev pub with_app : ℕ → ℕ → ℕ → ℕ → ℕ → Option Chosen → Option Values
with_app fsdi fsci cid repeats waits None = None
with_app fsdi fsci cid repeats waits (Some a) =
    Some (record { fsdi = fsdi; fsci = fsci; cid = cid; repeats = repeats; waits = waits; app = a })

abbrev pub with_waits : ℕ → ℕ → ℕ → ℕ → Option Counted → Option Values
with_waits fsdi fsci cid repeats None = None
with_waits fsdi fsci cid repeats (Some k) = with_app fsdi fsci cid repeats k.value (chosen_in (cut_of k.rest))

abbrev pub with_repeats : ℕ → ℕ → ℕ → Option Counted → Option Values
with_repeats fsdi fsci cid None = None
with_repeats fsdi fsci cid (Some k) = with_waits fsdi fsci cid k.value (first_number k.rest)

abbrev pub with_cid : ℕ → ℕ → Option Counted → Option Values
with_cid fsdi fsci None = None
with_cid fsdi fsci (Some k) = with_repeats fsdi fsci k.value (first_number k.rest)

abbrev pub with_fsci : ℕ → Option Counted → Option Values
with_fsci fsdi None = None
with_fsci fsdi (Some k) = with_cid fsdi k.value (first_number k.rest)

abbrev pub with_fsdi : Option Counted → Option Values
with_fsdi None = None
with_fsdi (Some k) = with_fsci k.value (first_number k.rest)

-- the second line: FSDI FSCI CID REPEATS WAITS APP AMOUNT
abbrev pub values_in : List ℕ → Option Values
values_in line = with_fsdi (first_number line)
