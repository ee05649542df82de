use Rattle.std.proofs.Common.{ap, ◌∙◌}
use Rattle.buffers.specs.Rooms.{answer_room}
use Rattle.pair.specs.Pairs.{setup_seen}
use Rattle.pair.specs.Runs.{ran}
use Rattle.pair.proofs.Ordered.{acts_are_runs_lem}
use Rattle.pair.proofs.laws.starts_a_run.Goals as goal

pub returns : goal.returns
returns g c = λ s acts before after kept start r.
    let u = setup_seen g.A.Application.model before in
    let is = acts_are_runs_lem _ u answer_room s acts in
    (is.0, r.world ∙ ap (λ w. ran u answer_room w acts) start ∙ is.1)
