use Rattle.frames.proofs.Workings.{control_bytes}
use Rattle.frames.proofs.laws.examples_hold.Goals as goal

pub returns : goal.returns
returns c = control_bytes
