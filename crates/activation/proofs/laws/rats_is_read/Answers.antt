use Rattle.activation.proofs.Hears.{hears_rats}
use Rattle.activation.proofs.ReadsRats.{reads_rats, reads_only_rats}
use Rattle.activation.proofs.laws.rats_is_read.Goals as goal

pub returns : goal.returns
returns c = record { read = reads_rats; only = reads_only_rats; heard = hears_rats }
