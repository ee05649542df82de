use Rattle.std.proofs.Common.{◌≡◌, true, false, cond, sym, ap, ◌∙◌, ap₂}
use Rattle.frames.specs.Check.{both}
use Rattle.protocol.specs.Field.{outset}
use Rattle.protocol.specs.Settings.{reader_in_range, card_in_range}
use Rattle.script.specs.SetupViews.{values_seen}
use Rattle.trial.specs.Benches.{reader_for, card_for}
use Rattle.sweeping.specs.Rows.{row_played, row_for, unplayed}
use Rattle.sweeping.proofs.row.play.Goals as goal

pub returns-in-Ok : goal.returns-in-Ok
unfolding row_for
returns-in-Ok g c =
    let app = g.A.Application.model in
    let v = values_seen c.args.values in
    let met = c.in-Ok.ensures in
    let ranges : both (reader_in_range (reader_for v)) (card_in_range (card_for v)) ≡ true =
    sym (ap₂ both (ap reader_in_range c.reader_settings.ensures) c.card_settings.ensures.good) ∙ met.0 in
    c.play_out.ensures
    ∙ (λ i. row_played ((met.1 ∙ (λ j. record { reader = c.reader_settings.ensures j; card = c.card_settings.ensures.set j; app = app })) i) (met.2 i) c.args.command.now c.args.plan)
    ∙ sym (ap (λ b. cond b (row_played (record { reader = reader_for v; card = card_for v; app = app }) (outset c.args.application) c.args.command.now c.args.plan) unplayed) ranges)

pub returns : goal.returns
unfolding row_for
returns g c =
    let app = g.A.Application.model in
    let v = values_seen c.args.values in
    let met = c.in-Err.ensures in
    let ranges : both (reader_in_range (reader_for v)) (card_in_range (card_for v)) ≡ false =
    sym (ap₂ both (ap reader_in_range c.reader_settings.ensures) c.card_settings.ensures.good) ∙ met.0 in
    c.unplayed.ensures
    ∙ sym (ap (λ b. cond b (row_played (record { reader = reader_for v; card = card_for v; app = app }) (outset c.args.application) c.args.command.now c.args.plan) unplayed) ranges)
