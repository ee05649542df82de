use Rattle.protocol.proofs.Workings.{worked}
use Rattle.protocol.proofs.examples_hold.Goals as goal

pub returns : goal.returns
returns c = worked
