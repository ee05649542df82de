use Rattle.activation.proofs.Hears.{hears_ats}
use Rattle.activation.proofs.Judged.{good_is_valid}
use Rattle.activation.proofs.ReadsAts.{reads_ats}
use Rattle.activation.proofs.Whole.{good_is_whole}
use Rattle.activation.proofs.laws.ats_is_read.Goals as goal

pub returns : goal.returns
returns c = record { read = reads_ats; valid = good_is_valid; whole = good_is_whole; heard = hears_ats }
