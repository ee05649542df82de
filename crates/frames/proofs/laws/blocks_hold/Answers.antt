use Rattle.frames.proofs.BlockLaws.{reads_its_frame, reads_only_its_frame, never_reads_noise, frames_differ}
use Rattle.frames.proofs.laws.blocks_hold.Goals as goal

pub returns : goal.returns
returns c =
    record { reads = reads_its_frame; only = reads_only_its_frame; noise = never_reads_noise; differ = frames_differ }
