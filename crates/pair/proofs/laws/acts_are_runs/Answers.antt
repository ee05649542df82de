use Rattle.pair.proofs.Ordered.{acts_are_runs_lem}
use Rattle.pair.proofs.laws.acts_are_runs.Goals as goal

pub returns : goal.returns
returns g c = λ u room s acts. acts_are_runs_lem _ u room s acts
