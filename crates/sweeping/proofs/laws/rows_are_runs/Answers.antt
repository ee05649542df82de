use Rattle.sweeping.proofs.Running.{rows_are_runs_lem}
use Rattle.sweeping.proofs.laws.rows_are_runs.Goals as goal

pub returns : goal.returns
returns g c = λ u s command p. rows_are_runs_lem _ u s command p
