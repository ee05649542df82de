use Rattle.frames.proofs.Exacts.{accepted_exactly, one_frame}
use Rattle.frames.proofs.Writable.{written_exactly}
use Rattle.frames.proofs.laws.blocks_are_exact.Goals as goal

pub returns : goal.returns
returns c = record { accepted = accepted_exactly; one = one_frame; writes = written_exactly }
