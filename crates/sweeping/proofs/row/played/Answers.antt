use Rattle.std.proofs.Common.{sym, ap, ◌∙◌}
use Rattle.applications.specs.Records.{same_record}
use Rattle.applications.specs.Metre.{metre}
use Rattle.applications.specs.Yarn.{yarn}
use Rattle.script.specs.SetupViews.{chosen_seen, values_seen}
use Rattle.trial.specs.Benches.{reader_for, card_for}
use Rattle.sweeping.specs.Rows.{row_for, row_on, row_of, filled}
use Rattle.sweeping.proofs.row.played.Goals as goal

pub returns-in-Metre : goal.returns-in-Metre
unfolding row_of
returns-in-Metre c =
    let v = values_seen c.args.values in
    c.play.ensures
    ∙ ap (λ s. row_for metre (reader_for v) (card_for v) s c.args.command.now c.args.plan) c.new.ensures
    ∙ sym (ap (λ a. row_on (chosen_seen a) (reader_for v) (card_for v) c.args.command.now c.args.plan) c.in-Metre.is)

pub returns-in-Yarn : goal.returns-in-Yarn
unfolding row_of
returns-in-Yarn c =
    let v = values_seen c.args.values in
    c.play-in-Yarn.ensures
    ∙ ap (λ s. row_for yarn (reader_for v) (card_for v) s c.args.command.now c.args.plan)
    (same_record c.filled.result (filled c.in-Yarn.fill) c.filled.ensures)
    ∙ sym (ap (λ a. row_on (chosen_seen a) (reader_for v) (card_for v) c.args.command.now c.args.plan) c.in-Yarn.is)
