-- The ATS 05 78 00 F0 02 fails, by computation.
use Rattle.std.proofs.Common.{◌-◌, ◌≤◌, ap, ◌∙◌, arith}
use Rattle.std.proofs.lemmas.Bool.{le-leb}
use Rattle.activation.specs.Ats.{read_ats_opened}
use Rattle.activation.specs.Examples.{waiting15, Waiting15Fails, Waiting15FrameFails}
use Rattle.activation.proofs.Hears.{opens_to}

pub waiting_15_fails : Waiting15Fails
waiting_15_fails fsd least =
    let held : 5 ≤ fsd - 2 = omega arith in
    rw (le-leb 5 (fsd - 2) held)

pub waiting_15_frame_fails : Waiting15FrameFails
waiting_15_frame_fails fsd least =
    ap (λ o. read_ats_opened fsd o) (opens_to fsd waiting15 (omega arith) (omega arith)) ∙ waiting_15_fails fsd least
