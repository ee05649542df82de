use Rattle.sweeping.proofs.Truth.{rows_are_true_lem}
use Rattle.sweeping.proofs.laws.rows_are_true.Goals as goal

pub returns : goal.returns
returns g c = λ u s command p reader card keeps on. rows_are_true_lem _ u s command p reader card keeps on
