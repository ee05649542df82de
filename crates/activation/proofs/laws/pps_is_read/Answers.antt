use Rattle.activation.proofs.Hears.{hears_pps}
use Rattle.activation.proofs.ReadsPps.{reads_pps, reads_only_pps}
use Rattle.activation.proofs.laws.pps_is_read.Goals as goal

pub returns : goal.returns
returns c = record { read = reads_pps; only = reads_only_pps; heard = hears_pps }
