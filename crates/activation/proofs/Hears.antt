-- What one end writes is heard by the other as it was written.
use Rattle.std.proofs.Common.{◌≡◌, ℕ, ◌+◌, ◌<◌, ◌≤◌, List, length, ap, ◌∙◌, arith}
use Rattle.frames.specs.Check.{seal, opened, open_frame}
use Rattle.frames.proofs.FrameLaws.{two_more_law, opens_to_its_body}
use Rattle.activation.specs.Ats.{ats_of, read_ats_opened}
use Rattle.activation.specs.Heard.{read_rats_opened, read_pps_opened, read_pps_answer_opened}
use Rattle.activation.specs.Laws.{HearsRats, HearsAts, HearsPps, HearsPpsAnswer}
use Rattle.activation.specs.Pps.{pps_of, pps_answer}
use Rattle.activation.specs.Rats.{rats_of}
use Rattle.activation.proofs.ReadsAts.{reads_ats}
use Rattle.activation.proofs.ReadsPps.{reads_pps, takes_pps_answer}
use Rattle.activation.proofs.ReadsRats.{reads_rats}

-- a body that the receiver's frame holds with its check
pub opens_to : (limit : ℕ) (body : List ℕ) → 0 < length body → length body + 2 ≤ limit → open_frame limit (seal body) ≡ opened body
opens_to limit body some fits = opens_to_its_body limit body some (omega (arith, two_more_law body))

pub hears_rats : HearsRats
hears_rats limit fsdi cid code card fits =
    ap read_rats_opened (opens_to limit (rats_of fsdi cid) (omega arith) fits) ∙ reads_rats fsdi cid code card

pub hears_ats : HearsAts
hears_ats fsd a v fits =
    ap (λ o. read_ats_opened fsd o) (opens_to fsd (ats_of a) (omega arith) (omega arith)) ∙ reads_ats fsd a v fits

pub hears_pps : HearsPps
hears_pps limit cid dsi dri from to fits =
    ap (λ o. read_pps_opened cid o) (opens_to limit (pps_of cid dsi dri) (omega arith) fits) ∙ reads_pps cid dsi dri from to

pub hears_pps_answer : HearsPpsAnswer
hears_pps_answer fsd cid fits =
    ap (λ o. read_pps_answer_opened cid o) (opens_to fsd (pps_answer cid) (omega arith) fits) ∙ rw (takes_pps_answer cid)
