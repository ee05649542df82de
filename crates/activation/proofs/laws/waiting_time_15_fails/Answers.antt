use Rattle.activation.proofs.Waiting15.{waiting_15_fails, waiting_15_frame_fails}
use Rattle.activation.proofs.laws.waiting_time_15_fails.Goals as goal

pub returns : goal.returns
returns c = record { body = waiting_15_fails; frame = waiting_15_frame_fails }
