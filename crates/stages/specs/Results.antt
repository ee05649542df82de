-- What the stages' calls answer stands for.
use Rattle.std.specs.Prelude.{ℕ, List, Ok, Err, Result}
use Rattle.activation.specs.Views.{said_by}
use Rattle.activation.specs.declared.answer.Ats as heard
use Rattle.exchange.specs.Moves.{sent_seen}
use Rattle.exchange.specs.declared.report.Report.{Report}
use Rattle.exchange.specs.declared.turn.Sent.{Sent}
use Rattle.frames.specs.declared.refusal.Refusal.{Refusal}
use Rattle.protocol.specs.Reader.{Reader, Outcome, active}
use Rattle.protocol.specs.Settings.{ReaderSettings}
use Rattle.stages.specs.Calls.{Reply, Told, told}
use Rattle.stages.specs.Outcomes.{stopped_by, reply_seen, refused_by}
use Rattle.stages.specs.Setups.{setup_seen}
use Rattle.stages.specs.Stages.{unwoken_seen, asking_seen, woken_seen, failed_seen, idle_seen, busy_seen, ended_seen, closing_seen, closed_seen}
use Rattle.stages.specs.declared.next.AfterRats.{AfterRats}
use Rattle.stages.specs.declared.next.AfterRats.TheVariants as after_rats
use Rattle.stages.specs.declared.next.AfterBlock.{AfterBlock}
use Rattle.stages.specs.declared.next.AfterBlock.TheVariants as after_block
use Rattle.stages.specs.declared.next.AfterDeselect.{AfterDeselect}
use Rattle.stages.specs.declared.next.AfterDeselect.TheVariants as after_deselect
use Rattle.stages.specs.declared.outcome.Outcome as coded
use Rattle.stages.specs.declared.stage.Unwoken.{Unwoken}
use Rattle.stages.specs.declared.stage.Asking.{Asking}
use Rattle.stages.specs.declared.stage.Idle.{Idle}
use Rattle.stages.specs.declared.stage.Ended.{Ended}
use Rattle.stages.specs.declared.stage.Closing.{Closing}
use Rattle.stages.specs.declared.stage.Busy.{Busy}

-- an answer that tells no length
abbrev pub plainly : Outcome → Reply
plainly o = record { outcome = o; size = 0 }

-- a frame written
abbrev pub sent_by : Sent → List ℕ → Reply
sent_by s buffer = record { outcome = sent_seen s buffer; size = s.len }

-- what an outcome says of an ATS that was heard
abbrev pub outcome_by : coded.Outcome heard.Ats → List ℕ → Reply
outcome_by o buffer = reply_seen said_by o buffer

-- a stage of these settings, which stands for this reader, has answered
abbrev pub at_stage : {S : Type 0} → (S → ReaderSettings) → (S → Reader) → S → Reply → Told
at_stage settings reader s p = told (settings s) (reader s) p

-- a call of a stage: it goes on to the next one, or is refused and stays
abbrev pub stepped : {N A S : Type 0} → (N → Reply → Told) → (A → List ℕ → Reply) → (S → Reply → Told) → Result (N × A) (S × Refusal) → List ℕ → Told
stepped next reply same (Ok p) buffer = next p.0 (reply p.1 buffer)
stepped next reply same (Err p) buffer = same p.0 (refused_by p.1)

-- a new session
abbrev pub made : Result Unwoken Refusal → Result ReaderSettings Refusal
made (Ok s) = Ok (setup_seen s.setup)
made (Err why) = Err why

-- ask
abbrev pub asked : Result (Asking × Sent) (Unwoken × Refusal) → List ℕ → Told
asked r buffer =
    stepped (λ s. told (setup_seen s.setup) (asking_seen s)) sent_by (λ s. told (setup_seen s.setup) (unwoken_seen s)) r buffer

-- start
abbrev pub started : Idle → Told
started s = told (setup_seen s.setup) (idle_seen s) (plainly active)

-- begin
abbrev pub began : Result (Busy × Sent) (Idle × Refusal) → List ℕ → Told
began r buffer =
    stepped (λ s. told (setup_seen s.setup) (busy_seen s)) sent_by (λ s. told (setup_seen s.setup) (idle_seen s)) r buffer

-- give up
abbrev pub gave_up : Ended × Report → Told
gave_up p = told (setup_seen p.0.setup) (ended_seen p.0) (plainly (stopped_by p.1))

-- close, from each stage that takes it
abbrev pub closed_by : {S : Type 0} → (S → ReaderSettings) → (S → Reader) → Result (Closing × Sent) (S × Refusal) → List ℕ → Told
closed_by settings reader r buffer =
    stepped (λ s. told (setup_seen s.setup) (closing_seen s)) sent_by (at_stage settings reader) r buffer

-- listening, from each stage that listens
abbrev pub heard_by : {N S : Type 0} → (N → Reply → Told) → (S → ReaderSettings) → (S → Reader) → Result (N × coded.Outcome heard.Ats) (S × Refusal) → List ℕ → Told
heard_by next settings reader r buffer = stepped next outcome_by (at_stage settings reader) r buffer

-- after RATS
abbrev pub at_rats : AfterRats → Reply → Told
at_rats (after_rats.Asking s) p = told (setup_seen s.setup) (asking_seen s) p
at_rats (after_rats.Woken s) p = told (setup_seen s.setup) (woken_seen s) p
at_rats (after_rats.Failed s) p = told (setup_seen s.asking.setup) (failed_seen s) p

-- after a block of an exchange
abbrev pub at_block : AfterBlock → Reply → Told
at_block (after_block.Busy s) p = told (setup_seen s.setup) (busy_seen s) p
at_block (after_block.Idle s) p = told (setup_seen s.setup) (idle_seen s) p
at_block (after_block.Ended s) p = told (setup_seen s.setup) (ended_seen s) p

-- after deselect
abbrev pub at_deselect : AfterDeselect → Reply → Told
at_deselect (after_deselect.Closing s) p = told (setup_seen s.setup) (closing_seen s) p
at_deselect (after_deselect.Closed s) p = told (setup_seen s.closing.setup) (closed_seen s) p
