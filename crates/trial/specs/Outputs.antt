-- What the bench prints for a whole script.
use Rattle.std.specs.Prelude.{ℕ, ◌+◌, cond, List, [], ◌∷◌, ◌++◌, replicate, is_some, Some, None, Option, nat_le, refl}
use Rattle.applications.specs.App.{App}
use Rattle.applications.specs.Metre as metred
use Rattle.applications.specs.Yarn as yarned
use Rattle.applications.specs.declared.Yarn.{Yarn}
use Rattle.frames.specs.Check.{both}
use Rattle.protocol.specs.Field.{Setup, World}
use Rattle.protocol.specs.Settings.{reader_in_range, card_in_range}
use Rattle.script.specs.Calls.{Entry, entry_in, call_names}
use Rattle.script.specs.Rows.{row_names}
use Rattle.script.specs.Setup.{Values, Chosen, metre, yarn, setup_names, values_in}
use Rattle.text.specs.Lines.{bad_text, lines_of}
use Rattle.text.specs.Words.{spells}
use Rattle.trial.specs.Benches.{reader_for, card_for, bench_for, woken}
use Rattle.trial.specs.Rows.{row_of, world_of}

-- calls begin at line 4, and there are at most 512
abbrev pub first_call : ℕ
first_call = 4

abbrev pub last_call : ℕ
last_call = 515

-- the entry of line n
abbrev pub entry_at : ℕ → List ℕ → Option Entry
entry_at n line = cond (nat_le n last_call) (entry_in line) None

abbrev pub row_for : {S : Type 0} → Setup S → World S → Option Entry → List ℕ
row_for u w None = []
row_for u w (Some e) = row_of u w e

abbrev pub world_for : {S : Type 0} → Setup S → World S → Option Entry → World S
world_for u w None = w
world_for u w (Some e) = world_of u w e

-- a row for each line, the first of which is line n, up to one that cannot be read
abbrev pub rows_from : {S : Type 0} → Setup S → World S → ℕ → List (List ℕ) → List ℕ
rows_from u w n [] = []
rows_from u w n (l ∷ ls) =
    row_for u w (entry_at n l)
    ++ cond (is_some (entry_at n l)) (rows_from u (world_for u w (entry_at n l)) (n + 1) ls) (bad_text n)

-- a record of this byte throughout
abbrev pub filled_with : ℕ → Yarn
filled_with b = record { bytes = replicate yarned.record_size b; full = refl }

-- the third line, and the calls behind it
abbrev pub calls_shown : {S : Type 0} → Setup S → World S → List (List ℕ) → List ℕ
calls_shown u w [] = bad_text 3
calls_shown u w (l ∷ ls) = cond (spells call_names l) ((row_names ++ 10 ∷ []) ++ rows_from u w first_call ls) (bad_text 3)

-- a bench with these values and an application in this state
abbrev pub bench_shown : {S : Type 0} → App S → Values → S → List (List ℕ) → List ℕ
bench_shown app v s ls =
    cond (both (reader_in_range (reader_for v)) (card_in_range (card_for v)))
    (calls_shown (bench_for app v) (woken (bench_for app v) s) ls) (bad_text 2)

abbrev pub chosen_shown : Chosen → Values → List (List ℕ) → List ℕ
chosen_shown (metre n) v ls = bench_shown metred.metre v (metred.counting n) ls
chosen_shown (yarn b) v ls = bench_shown yarned.yarn v (filled_with b) ls

abbrev pub by_values : Option Values → List (List ℕ) → List ℕ
by_values None ls = bad_text 2
by_values (Some v) ls = chosen_shown v.app v ls

-- the second line, and what is behind it
abbrev pub with_values : List (List ℕ) → List ℕ
with_values [] = bad_text 2
with_values (l ∷ ls) = by_values (values_in l) ls

abbrev pub with_names : List (List ℕ) → List ℕ
with_names [] = bad_text 1
with_names (l ∷ ls) = cond (spells setup_names l) (with_values ls) (bad_text 1)

-- what is printed for an input
abbrev pub output : List ℕ → List ℕ
output input = with_names (lines_of input)
