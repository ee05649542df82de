use Rattle.std.proofs.Common.{string_bytes}
use Rattle.std.proofs.lemmas.Result.{IfOk-weaker}
use Rattle.pair.specs.Pairs.{world_seen, setup_seen}
use Rattle.text.specs.LineViews.{lines_left}
use Rattle.trial.proofs.Heads.{calls_shown_lem}
use Rattle.trial.proofs.head.push_calls.Goals as goal

pub returns-in_ok-write_names-in-Some : goal.returns-in_ok-write_names-in-Some
returns-in_ok-write_names-in-Some g c =
    let app = g.A.Application.model in
    IfOk-weaker c.push_rows.result _ _
    (λ _ x. calls_shown_lem (setup_seen app c.args.pair.now) (world_seen c.args.pair.now) (lines_left c.args.lines) (lines_left c.next.new.self) c.in-Some.line.now c.names_calls.result
    (string_bytes c.args.out.now) (string_bytes c.write_names.new.out) (string_bytes c.push_rows.new.out) c.in-Some.ensures.steps c.names_calls.ensures c.if-names_calls.true c.in_ok-write_names-in-Some.ensures x)
    c.push_rows.ensures
