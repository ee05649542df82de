-- What is accepted, exactly.
use Rattle.std.proofs.Common.{sym, ap, ◌∙◌}
use Rattle.frames.specs.Exactly.{AcceptedExactly, OneFrame}
use Rattle.frames.specs.Reading.{read_frame}
use Rattle.frames.proofs.BlockLaws.{reads_its_frame, reads_only_its_frame}

pub accepted_exactly : AcceptedExactly
accepted_exactly limit agreed f b small = (
  λ e. reads_only_its_frame limit agreed f b small e,
  λ h. ap (read_frame limit agreed) h.0 ∙ reads_its_frame limit agreed b h.1,
)

pub one_frame : OneFrame
one_frame limit limit' agreed agreed' f g b small small' e e' =
    (reads_only_its_frame limit agreed f b small e).0 ∙ sym (reads_only_its_frame limit' agreed' g b small' e').0
