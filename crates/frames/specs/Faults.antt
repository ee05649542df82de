-- The cause that each fault stands for.
use Rattle.std.specs.Prelude.{ℕ, List, codes}
use Rattle.frames.specs.declared.fault.Layer as coded
use Rattle.frames.specs.declared.fault.Layer.TheVariants as layers
use Rattle.frames.specs.declared.fault.Cause as held
use Rattle.frames.specs.declared.fault.FrameFault.{FrameFault}
use Rattle.frames.specs.declared.fault.FrameFault.TheVariants.{Silence, Short, Long, Check}
use Rattle.frames.specs.declared.fault.BlockFault.{BlockFault}
use Rattle.frames.specs.declared.fault.BlockFault.TheVariants.{Frame, Control, Length, Card, Multiplier}
use Rattle.frames.specs.Causes.{Layer, frame, activation, block, Cause, cause, silence, too_short, too_long, check_wrong, without_kind, length_wrong, card_wrong, multiplier_reserved}

abbrev pub layer_seen : coded.Layer → Layer
layer_seen layers.Frame = frame
layer_seen layers.Activation = activation
layer_seen layers.Block = block

-- the name of a layer, as it is printed
abbrev pub layer_name : coded.Layer → List ℕ
layer_name layers.Frame = codes "frame"
layer_name layers.Activation = codes "activation"
layer_name layers.Block = codes "block"

abbrev pub cause_seen : held.Cause → Cause
cause_seen c = cause c.number c.place (layer_seen c.layer)

abbrev pub frame_cause : FrameFault → Cause
frame_cause Silence = silence
frame_cause Short = too_short
frame_cause Long = too_long
frame_cause Check = check_wrong

abbrev pub block_cause : BlockFault → Cause
block_cause (Frame fault) = frame_cause fault
block_cause Control = without_kind
block_cause Length = length_wrong
block_cause Card = card_wrong
block_cause (Multiplier place) = multiplier_reserved place
