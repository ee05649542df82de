use Rattle.activation.proofs.Hears.{hears_pps_answer}
use Rattle.activation.proofs.ReadsPps.{reads_pps_answer, takes_pps_answer}
use Rattle.activation.proofs.laws.pps_answer_is_read.Goals as goal

pub returns : goal.returns
returns c = record { read = takes_pps_answer; only = reads_pps_answer; heard = hears_pps_answer }
