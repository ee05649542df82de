-- The worked cases hold.
use Rattle.std.proofs.Common.{true, false, refl, ap, arith}
use Rattle.activation.proofs.Waiting15.{waiting_15_fails}
use Rattle.frames.proofs.BlockLaws.{reads_its_frame}
use Rattle.frames.proofs.FrameLaws.{two_more_law}
use Rattle.frames.proofs.Workings.{control_bytes}
use Rattle.frames.specs.Blocks.{r_block, without, bytes_of}
use Rattle.frames.specs.Reading.{no_number, Reading}
use Rattle.protocol.specs.Examples.{Worked, after_silence, least_link}
use Rattle.protocol.specs.Reader.{on_reading}

pub worked : Worked
worked =
    record {
      control_bytes = control_bytes;
      waiting_time = waiting_15_fails;
      one_block = refl;
      two_blocks = refl;
      no_third = refl;
      asks_again = refl;
      ends_not_taken =
          ap (λ (r : Reading). (on_reading 1 0 least_link (after_silence 1).reader.exchange r).outcome)
          (reads_its_frame 16 no_number (r_block false true without) (tt, (let e = two_more_law (bytes_of (r_block false true without)) in omega arith), refl));
      in_doubt = refl;
    }
