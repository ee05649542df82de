use Rattle.std.proofs.Common.{sym, subst}
use Rattle.frames.specs.Views.{Placed}
use Rattle.frames.proofs.Placing.{behind_control}
use Rattle.frames.proofs.reading.read_body.Goals as goal

pub returns-clause-placed : goal.returns-clause-placed
returns-clause-placed c =
    let s = c.in-Some in
    subst (λ l. Placed 1 l c.read_rest.result) (sym s.ensures.cases.0)
    (behind_control s.control.now s.rest.now c.read_rest.result c.read_rest.ensures.placed)
