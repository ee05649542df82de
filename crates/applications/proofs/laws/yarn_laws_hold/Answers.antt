use Rattle.applications.proofs.YarnReads.{yarn_laws}
use Rattle.applications.proofs.laws.yarn_laws_hold.Goals as goal

pub returns : goal.returns
returns c = yarn_laws
