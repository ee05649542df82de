-- What a session at any stage stands for.
use Rattle.std.specs.Prelude.{◌≡◌, ℕ, cond, List, Ok, Err, Result}
use Rattle.activation.specs.Views.{said_by}
use Rattle.activation.specs.declared.answer.Ats as heard
use Rattle.frames.specs.declared.refusal.Refusal.{Refusal}
use Rattle.frames.specs.declared.refusal.Refusal.TheVariants.{Setting}
use Rattle.protocol.specs.Reader.{Reader, new_reader}
use Rattle.protocol.specs.Settings.{ReaderSettings, reader_in_range}
use Rattle.stages.specs.Calls.{Reply, Told, told}
use Rattle.stages.specs.Outcomes.{answer_seen}
use Rattle.stages.specs.Setups.{setup_seen}
use Rattle.stages.specs.Stages.{unwoken_seen, asking_seen, woken_seen, failed_seen, idle_seen, busy_seen, ended_seen, closing_seen, closed_seen}
use Rattle.stages.specs.declared.outcome.Outcome as coded
use Rattle.reader.specs.declared.session.Session.{Session}
use Rattle.reader.specs.declared.session.Session.TheVariants.{Unwoken, Asking, Woken, Failed, Idle, Busy, Ended, Closing, Closed}

abbrev pub session_seen : Session → Reader
session_seen (Unwoken s) = unwoken_seen s
session_seen (Asking s) = asking_seen s
session_seen (Woken s) = woken_seen s
session_seen (Failed s) = failed_seen s
session_seen (Idle s) = idle_seen s
session_seen (Busy s) = busy_seen s
session_seen (Ended s) = ended_seen s
session_seen (Closing s) = closing_seen s
session_seen (Closed s) = closed_seen s

abbrev pub settings_of : Session → ReaderSettings
settings_of (Unwoken s) = setup_seen s.setup
settings_of (Asking s) = setup_seen s.setup
settings_of (Woken s) = setup_seen s.setup
settings_of (Failed s) = setup_seen s.asking.setup
settings_of (Idle s) = setup_seen s.setup
settings_of (Busy s) = setup_seen s.setup
settings_of (Ended s) = setup_seen s.setup
settings_of (Closing s) = setup_seen s.setup
settings_of (Closed s) = setup_seen s.closing.setup

-- a session that has answered
abbrev pub at_session : Session → Reply → Told
at_session s p = told (settings_of s) (session_seen s) p

-- what a call of a session answers
abbrev pub Answer : Type 0
Answer = Result (coded.Outcome heard.Ats) Refusal

-- a session after a call, with what it answered and the buffer
abbrev pub after_call : Session → Answer → List ℕ → Told
after_call s r buffer = at_session s (answer_seen said_by r buffer)

-- a session at this stage, which has these settings and stands for this reader
abbrev pub IsAt : {S : Type 0} → (S → ReaderSettings) → (S → Reader) → S → Session → Type 0
IsAt settings reader stage s = (settings_of s ≡ settings stage) × (session_seen s ≡ reader stage)

-- a new session: its settings, and the reader before anything was asked
abbrev pub new_seen : Result Session Refusal → Result (ReaderSettings × Reader) Refusal
new_seen (Ok s) = Ok (settings_of s, session_seen s)
new_seen (Err why) = Err why

-- settings in their ranges, or 1
abbrev pub new_for : ReaderSettings → Result (ReaderSettings × Reader) Refusal
new_for s = cond (reader_in_range s) (Ok (s, new_reader)) (Err Setting)
