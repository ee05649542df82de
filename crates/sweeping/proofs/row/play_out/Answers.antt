use Rattle.std.proofs.Common.{◌≡◌, ap, ◌∙◌}
use Rattle.pair.specs.Pairs.{world_seen, setup_seen}
use Rattle.sweeping.specs.Played.{trail_seen}
use Rattle.sweeping.specs.Rows.{row_after, most_turns, row_played}
use Rattle.sweeping.specs.Trails.{Trail, begun, driven, woken_from}
use Rattle.sweeping.proofs.row.play_out.Goals as goal

pub returns : goal.returns
unfolding row_played
returns g c =
    let app = g.A.Application.model in
    let before = c.args.pair.now in
    let command = c.args.command.now in
    let plan = c.args.plan in
    let a = c.wake.ensures in
    let b = c.begin-tally.ensures in
    let last : Trail g.row.A.Denot = trail_seen c.drive-tally.new.pair c.drive-tally.result in
    let whole : last ≡ driven most_turns (setup_seen app before) plan (begun (setup_seen app before) (woken_from (setup_seen app before) (world_seen before)) command plan) =
    c.drive-tally.ensures
    ∙ (λ i. driven most_turns ((b.setup ∙ a.setup) i) plan ((b.trail ∙ (λ j. begun (a.setup j) (a.world j) command plan)) i)) in
    (λ i. record { result = last.told.result; frames = last.told.frames; says = c.says.ensures i; times = last.times })
    ∙ ap row_after whole
