-- What a sweep is asked for: four lines.
use Rattle.std.specs.Prelude.{ℕ, Bool, cond, List, [], ◌∷◌, length, Some, None, codes, Option, nat_le}
use Rattle.frames.specs.Check.{both}
use Rattle.protocol.specs.Settings.{reader_in_range, card_in_range}
use Rattle.script.specs.Setup.{Values, setup_names, values_in}
use Rattle.trial.specs.Benches.{reader_for, card_for}
use Rattle.text.specs.Hex.{bytes_in}
use Rattle.text.specs.Words.{Cut, cut_of, spells, number_in, kept}

-- a set-up, a command, and the longest run of losses
pub record Order : Type 0 where
  pub values : Values
  pub command : List ℕ
  pub losses : ℕ

-- an order, or the number of the line that cannot be read
pub data Reading : Type 0 where
  ready : Order → Reading
  bad : (line : ℕ) → Reading

-- the third line
abbrev pub order_names : List ℕ
order_names = codes "command losses"

-- both ends are set as on the bench, in their ranges
abbrev pub in_range : Values → Bool
in_range v = both (reader_in_range (reader_for v)) (card_in_range (card_for v))

-- a command has 1 to 261 bytes
abbrev pub is_command : List ℕ → Bool
is_command c = both (nat_le 1 (length c)) (nat_le (length c) 261)

-- runs of losses have a length of 1 to 5
abbrev pub losses_in : List ℕ → Option ℕ
losses_in field = kept (λ n. both (nat_le 1 n) (nat_le n 5)) (number_in field)

-- a line, and the lines behind it
pub record First : Type 0 where
  pub line : List ℕ
  pub rest : List (List ℕ)

abbrev pub first_in : List (List ℕ) → Option First
first_in [] = None
first_in (l ∷ ls) = Some (record { line = l; rest = ls })

-- nothing stands behind the fourth line
abbrev pub at_end : Values → List ℕ → ℕ → Option First → Reading
at_end v command losses None = ready (record { values = v; command = command; losses = losses })
at_end v command losses (Some f) = bad 5

abbrev pub with_losses : Values → List ℕ → Option ℕ → List (List ℕ) → Reading
with_losses v command None ls = bad 4
with_losses v command (Some losses) ls = at_end v command losses (first_in ls)

abbrev pub with_command : Values → Option (List ℕ) → List ℕ → List (List ℕ) → Reading
with_command v None field ls = bad 4
with_command v (Some command) field ls = cond (is_command command) (with_losses v command (losses_in field) ls) (bad 4)

abbrev pub with_fields : Values → Option Cut → List (List ℕ) → Reading
with_fields v None ls = bad 4
with_fields v (Some k) ls = with_command v (bytes_in k.first) k.rest ls

-- COMMAND LOSSES
abbrev pub from_fourth : Values → Option First → Reading
from_fourth v None = bad 4
from_fourth v (Some f) = with_fields v (cut_of f.line) f.rest

abbrev pub from_third : Values → Option First → Reading
from_third v None = bad 3
from_third v (Some f) = cond (spells order_names f.line) (from_fourth v (first_in f.rest)) (bad 3)

abbrev pub with_values : Option Values → List (List ℕ) → Reading
with_values None ls = bad 2
with_values (Some v) ls = cond (in_range v) (from_third v (first_in ls)) (bad 2)

abbrev pub from_second : Option First → Reading
from_second None = bad 2
from_second (Some f) = with_values (values_in f.line) f.rest

-- the four lines, one after the other
abbrev pub from_first : Option First → Reading
from_first None = bad 1
from_first (Some f) = cond (spells setup_names f.line) (from_second (first_in f.rest)) (bad 1)
