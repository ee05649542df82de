-- The laws that the proofs rest on hold: each is proved in the crate that states it.
use Rattle.activation.proofs.ReadsAts.{reads_ats}
use Rattle.activation.proofs.ReadsPps.{reads_pps, reads_pps_answer, takes_pps_answer}
use Rattle.activation.proofs.ReadsRats.{reads_rats}
use Rattle.frames.proofs.BlockLaws.{reads_its_frame, never_reads_noise}
use Rattle.frames.proofs.FrameLaws.{two_more_law, begins_with_its_body, opens_to_its_body, opens_if_sealed}
use Rattle.protocol.proofs.Rests.{Laws}

pub laws : Laws
laws =
    record {
      two_more = two_more_law;
      begins = begins_with_its_body;
      opens = opens_to_its_body;
      sealed = opens_if_sealed;
      reads = reads_its_frame;
      never = never_reads_noise;
      rats = reads_rats;
      ats = reads_ats;
      pps = reads_pps;
      pps_answer_lem = reads_pps_answer;
      takes_answer = takes_pps_answer;
    }
