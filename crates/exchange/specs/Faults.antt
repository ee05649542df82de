-- The cause that each fault stands for.
use Rattle.activation.specs.Faults.{activation_cause}
use Rattle.frames.specs.Causes.{Cause}
use Rattle.frames.specs.Faults.{frame_cause, block_cause}
use Rattle.exchange.specs.declared.fault.SessionFault.{SessionFault}
use Rattle.exchange.specs.declared.fault.SessionFault.TheVariants.{Frame, Block, Activation}

abbrev pub session_cause : SessionFault → Cause
session_cause (Frame fault) = frame_cause fault
session_cause (Block fault) = block_cause fault
session_cause (Activation fault) = activation_cause fault
