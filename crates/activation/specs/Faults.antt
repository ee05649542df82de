-- Faults and causes.
use Rattle.frames.specs.Causes.{Cause}
use Rattle.frames.specs.Faults.{frame_cause}
use Rattle.activation.specs.declared.fault.ActivationFault.{ActivationFault}
use Rattle.activation.specs.declared.fault.ActivationFault.TheVariants.{Frame, Response, LengthByte, Reserved}
use Rattle.activation.specs.Ats.{length_byte_wrong, reserved}
use Rattle.activation.specs.Pps.{pps_answer_wrong}

-- the cause that each fault stands for
abbrev pub activation_cause : ActivationFault → Cause
activation_cause (Frame fault) = frame_cause fault
activation_cause Response = pps_answer_wrong
activation_cause LengthByte = length_byte_wrong
activation_cause (Reserved place) = reserved place
