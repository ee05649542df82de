use Rattle.frames.proofs.FrameLaws.{two_more_law, begins_with_its_body, opens_to_its_body, opens_if_sealed, spoilt_is_noise, zeros_are_noise}
use Rattle.frames.proofs.laws.frames_hold.Goals as goal

pub returns : goal.returns
returns c = record { long = two_more_law; begins = begins_with_its_body; opens = opens_to_its_body; sealed = opens_if_sealed; spoilt = spoilt_is_noise; zeros = zeros_are_noise }
