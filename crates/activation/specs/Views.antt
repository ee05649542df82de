-- What the crate's results stand for.
use Rattle.std.specs.Prelude.{Some, None, Ok, Err, Option, Result}
use Rattle.activation.specs.declared.answer.Ats as heard
use Rattle.activation.specs.declared.fault.ActivationFault.{ActivationFault}
use Rattle.activation.specs.declared.request.Rats.{Rats}
use Rattle.activation.specs.declared.selection.Pps.{Pps}
use Rattle.activation.specs.Ats.{Ats, ats, AtsRead, good, bad}
use Rattle.activation.specs.Faults.{activation_cause}
use Rattle.activation.specs.Heard.{PpsAnswerRead, agreed, not_agreed}
use Rattle.activation.specs.Pps.{PpsRead, pps, no_pps}
use Rattle.activation.specs.Rats.{RatsRead, rats, no_rats}

-- a RATS, or none
abbrev pub rats_seen : Option Rats → RatsRead
rats_seen (Some r) = rats r.fsdi r.cid
rats_seen None = no_rats

-- the rates of a PPS, or none
abbrev pub pps_seen : Option Pps → PpsRead
pps_seen (Some p) = pps p.dsi p.dri
pps_seen None = no_pps

-- the response to a PPS, or a fault
abbrev pub pps_answer_seen : Result (Unit {0}) ActivationFault → PpsAnswerRead
pps_answer_seen (Ok u) = agreed
pps_answer_seen (Err why) = not_agreed (activation_cause why)

-- what an ATS says
abbrev pub said_by : heard.Ats → Ats
said_by a = ats a.fsci a.ta a.fwi a.sfgi a.tc a.historical.now

-- an ATS, or a fault
abbrev pub ats_seen : Result heard.Ats ActivationFault → AtsRead
ats_seen (Ok a) = good (said_by a)
ats_seen (Err why) = bad (activation_cause why)
