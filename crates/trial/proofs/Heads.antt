-- The third line and the calls behind it, and a record that was filled.
use Rattle.std.proofs.Common.{◌≡◌, ℕ, Bool, true, cond, List, [], ◌∷◌, ◌++◌, replicate, sym, ap, ◌∙◌, append_assoc}
use Rattle.applications.specs.Yarn.{yarn, record_size}
use Rattle.applications.specs.declared.Yarn.{Yarn}
use Rattle.applications.specs.Records.{same_record}
use Rattle.protocol.specs.Field.{Setup, World}
use Rattle.script.specs.Calls.{call_names}
use Rattle.script.specs.Rows.{row_names}
use Rattle.script.specs.SetupViews.{values_seen, chosen_seen}
use Rattle.script.specs.declared.App.TheVariants.{Yarn as Filled}
use Rattle.script.specs.declared.Values.{Values}
use Rattle.text.specs.Lines.{bad_text}
use Rattle.text.specs.Words.{spells}
use Rattle.trial.specs.Outputs.{bench_shown, chosen_shown, filled_with, calls_shown, rows_from, first_call}

pub calls_shown_lem : {S : Type 0} (u : Setup S) (w : World S) (lines calls : List (List ℕ)) (line : List ℕ) (named : Bool) (out mid final : List ℕ) → lines ≡ line ∷ calls → named ≡ spells call_names line → named ≡ true → mid ≡ out ++ (row_names ++ 10 ∷ []) → final ≡ mid ++ rows_from u w first_call calls → final ≡ out ++ calls_shown u w lines
calls_shown_lem u w lines calls line named out mid final ls spelled is head rows =
    let all : List ℕ = rows_from u w first_call calls in
    rows ∙ ap (λ l. l ++ all) head ∙ append_assoc out (row_names ++ 10 ∷ []) all
    ∙ ap (λ b. out ++ cond b ((row_names ++ 10 ∷ []) ++ all) (bad_text 3)) (sym is ∙ spelled)
    ∙ ap (λ k. out ++ calls_shown u w k) (sym ls)

-- a yarn record that was filled
pub yarn_chosen : (values : Values) (fill : ℕ) (y : Yarn) (lines : List (List ℕ)) (out final : List ℕ) → values.app ≡ Filled fill → y.bytes ≡ replicate record_size fill → final ≡ out ++ bench_shown yarn (values_seen values) y lines → final ≡ out ++ chosen_shown (chosen_seen values.app) (values_seen values) lines
yarn_chosen values fill y lines out final is filled x =
    x ∙ ap (λ z. out ++ bench_shown yarn (values_seen values) z lines) (same_record y (filled_with fill) filled)
    ∙ ap (λ a. out ++ chosen_shown (chosen_seen a) (values_seen values) lines) (sym is)
