use Rattle.activation.proofs.Writes.{writes_rats, writes_ats, writes_pps, writes_pps_answer}
use Rattle.activation.proofs.laws.formats_are_written.Goals as goal

pub returns : goal.returns
returns c = record { rats = writes_rats; ats = writes_ats; pps = writes_pps; answer = writes_pps_answer }
