use Rattle.applications.proofs.MetreDraws.{metre_laws}
use Rattle.applications.proofs.laws.metre_laws_hold.Goals as goal

pub returns : goal.returns
returns c = metre_laws
