-- What is in range is written, into any buffer that every frame fits.
use Rattle.std.specs.Prelude.{◌≡◌, ℕ, ◌+◌, ◌<◌, ◌≤◌, length, Ok}
use Rattle.frames.specs.Sizes.{greatest_frame, longest_body}
use Rattle.activation.specs.declared.request.Rats.{Rats}
use Rattle.activation.specs.declared.selection.Pps.{Pps}
use Rattle.activation.specs.Ats.{Ats}
use Rattle.activation.specs.Laws.{ValidAts}
use Rattle.activation.specs.Ranges.{RatsInRange, PpsFor}
use Rattle.activation.specs.Writing.{rats_frame, rats_writing, pps_frame, pps_writing, pps_answer_frame, pps_answer_writing, ats_frame, ats_writing}

abbrev pub WritesRats : Type 0
WritesRats =
    (r : Rats) (buffer : ℕ) → RatsInRange r → greatest_frame ≤ buffer → rats_writing r buffer ≡ Ok (length (rats_frame r))

-- an ATS that is no longer than the longest body
abbrev pub WritesAts : Type 0
WritesAts =
    (a : Ats) (buffer : ℕ)
    → ValidAts a
    → 5 + length a.historical ≤ longest_body
    → greatest_frame ≤ buffer
    → ats_writing a buffer ≡ Ok (length (ats_frame a))

abbrev pub WritesPps : Type 0
WritesPps =
    (p : Pps) (cid buffer : ℕ)
    → PpsFor cid p
    → cid < 15
    → greatest_frame ≤ buffer
    → pps_writing p buffer ≡ Ok (length (pps_frame p))

abbrev pub WritesPpsAnswer : Type 0
WritesPpsAnswer =
    (cid buffer : ℕ) → cid < 15 → greatest_frame ≤ buffer → pps_answer_writing cid buffer ≡ Ok (length (pps_answer_frame cid))
