-- An ATS that the code has read has no reserved values.
use Rattle.std.proofs.Common.{◌≡◌, ℕ, List, IfOk, Ok, Err, Result, sym}
use Rattle.frames.specs.Laws.{Bytes}
use Rattle.activation.specs.declared.answer.Ats as heard
use Rattle.activation.specs.declared.fault.ActivationFault.{ActivationFault}
use Rattle.activation.specs.Ats.{read_ats}
use Rattle.activation.specs.Laws.{ValidAts}
use Rattle.activation.specs.Views.{said_by, ats_seen}
use Rattle.activation.proofs.Judged.{good_is_valid}

pub valid_seen : (fsd : ℕ) (body : List ℕ) (r : Result heard.Ats ActivationFault) → Bytes body → ats_seen r ≡ read_ats fsd body → IfOk r (λ a. ValidAts (said_by a))
valid_seen fsd body (Ok a) bytes e = good_is_valid fsd body (said_by a) bytes (sym e)
valid_seen fsd body (Err why) bytes e = tt
