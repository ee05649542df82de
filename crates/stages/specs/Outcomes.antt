-- What an outcome stands for. What is held of an ATS is left open: said tells what the ATS says.
use Rattle.std.specs.Prelude.{◌≡◌, ℕ, List, take, Ok, Err, Result}
use Rattle.activation.specs.Ats.{Ats}
use Rattle.exchange.specs.Moves.{sent_seen}
use Rattle.exchange.specs.Views.{says_seen, totals_seen, ending_seen}
use Rattle.exchange.specs.declared.report.Ending as held
use Rattle.exchange.specs.declared.report.Report.{Report}
use Rattle.frames.specs.Refused.{refusal_number}
use Rattle.frames.specs.declared.refusal.Refusal.{Refusal}
use Rattle.protocol.specs.Reader.{Outcome, refused, wakes, active, answered, over, stopped, off, unanswered, fetched}
use Rattle.stages.specs.Calls.{Reply}
use Rattle.stages.specs.declared.outcome.Outcome as coded
use Rattle.stages.specs.declared.outcome.Outcome.TheVariants.{Wrote, Wakes, Active, Answered, Over, Stopped, Off, Unanswered, Fetched}

-- done, with an answer of this length
abbrev pub answered_by : ℕ → Report → Outcome
answered_by n report = answered n (says_seen report.says) (totals_seen report.totals)

-- ended against the reader's will
abbrev pub over_by : held.Ending → Report → Outcome
over_by ending report = over (ending_seen ending) (says_seen report.says) (totals_seen report.totals)

-- given up
abbrev pub stopped_by : Report → Outcome
stopped_by report = stopped (says_seen report.says) (totals_seen report.totals)

-- an outcome, with the buffer after the call: a frame written, or an answer fetched, stands at its front
abbrev pub outcome_seen : {A : Type 0} → (A → Ats) → coded.Outcome A → List ℕ → Outcome
outcome_seen said (Wrote sent) buffer = sent_seen sent buffer
outcome_seen said (Wakes ats) buffer = wakes (said ats)
outcome_seen said Active buffer = active
outcome_seen said (Answered n report) buffer = answered_by n report
outcome_seen said (Over ending report) buffer = over_by ending report
outcome_seen said (Stopped report) buffer = stopped_by report
outcome_seen said Off buffer = off
outcome_seen said Unanswered buffer = unanswered
outcome_seen said (Fetched n) buffer = fetched (take n buffer)

-- the length that an outcome tells
abbrev pub size_told : {A : Type 0} → coded.Outcome A → ℕ
size_told (Wrote sent) = sent.len
size_told (Wakes ats) = 0
size_told Active = 0
size_told (Answered n report) = 0
size_told (Over ending report) = 0
size_told (Stopped report) = 0
size_told Off = 0
size_told Unanswered = 0
size_told (Fetched n) = n

abbrev pub reply_seen : {A : Type 0} → (A → Ats) → coded.Outcome A → List ℕ → Reply
reply_seen said o buffer = record { outcome = outcome_seen said o buffer; size = size_told o }

-- a refusal
abbrev pub refused_by : Refusal → Reply
refused_by why = record { outcome = refused (refusal_number why); size = 0 }

-- what a call answers: an outcome, or a refusal
abbrev pub answer_seen : {A : Type 0} → (A → Ats) → Result (coded.Outcome A) Refusal → List ℕ → Reply
answer_seen said (Ok o) buffer = reply_seen said o buffer
answer_seen said (Err why) buffer = refused_by why

-- what holds of the ATS in an outcome, if there is one
abbrev pub IfWakes : {A : Type 0} → coded.Outcome A → (A → Type 0) → Type 0
IfWakes (Wrote sent) P = Unit {0}
IfWakes (Wakes ats) P = P ats
IfWakes Active P = Unit {0}
IfWakes (Answered n report) P = Unit {0}
IfWakes (Over ending report) P = Unit {0}
IfWakes (Stopped report) P = Unit {0}
IfWakes Off P = Unit {0}
IfWakes Unanswered P = Unit {0}
IfWakes (Fetched n) P = Unit {0}

-- the same outcome, with what R makes of the ATS
abbrev pub Maps : {A B : Type 0} → (A → B → Type 0) → coded.Outcome A → coded.Outcome B → Type 0
Maps R (Wrote sent) o = o ≡ Wrote sent
Maps {B = B} R (Wakes a) o = (b : B) × (R a b × (o ≡ Wakes b))
Maps R Active o = o ≡ Active
Maps R (Answered n report) o = o ≡ Answered n report
Maps R (Over ending report) o = o ≡ Over ending report
Maps R (Stopped report) o = o ≡ Stopped report
Maps R Off o = o ≡ Off
Maps R Unanswered o = o ≡ Unanswered
Maps R (Fetched n) o = o ≡ Fetched n
