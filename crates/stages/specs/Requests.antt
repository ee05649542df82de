-- What writing RATS or deselect comes to.
use Rattle.std.specs.Prelude.{◌≡◌, ℕ, ◌≤◌, cond, List, length, Ok, Err, Result, nat_lt}
use Rattle.activation.specs.Ats.{AtsRead, good, bad}
use Rattle.activation.specs.Views.{said_by}
use Rattle.activation.specs.declared.answer.Ats as heard
use Rattle.exchange.specs.Faults.{session_cause}
use Rattle.exchange.specs.Moves.{buffer_after, sent_seen}
use Rattle.exchange.specs.declared.fault.SessionFault.{SessionFault}
use Rattle.exchange.specs.declared.turn.Sent.{Sent}
use Rattle.frames.specs.Refusals.{buffer_refused}
use Rattle.frames.specs.Refused.{refusal_number}
use Rattle.frames.specs.Sizes.{greatest_frame}
use Rattle.frames.specs.declared.refusal.Refusal.{Refusal}
use Rattle.protocol.specs.Reader.{Outcome, refused, wrote, activation_time}

abbrev pub sent_or : Result Sent Refusal → List ℕ → Outcome
sent_or (Ok s) buffer = sent_seen s buffer
sent_or (Err why) buffer = refused (refusal_number why)

-- the length that is told of it
abbrev pub length_told : Result Sent Refusal → ℕ
length_told (Ok s) = s.len
length_told (Err why) = 0

-- the frame goes out into a buffer that every frame fits
abbrev pub sending : List ℕ → ℕ → Outcome
sending frame room = cond (nat_lt room greatest_frame) (refused buffer_refused) (wrote frame activation_time)

-- a frame is written to the front of the buffer, and the reader listens for the time of activation
pub record Writes (frame : List ℕ) (r : Result Sent Refusal) (old new : List ℕ) : Type 0 where
  pub answer : sent_or r new ≡ sending frame (length old)
  pub buffer : new ≡ buffer_after (sending frame (length old)) old
  pub within : length_told r ≤ length new

-- what was heard in place of an ATS
abbrev pub ats_seen : Result heard.Ats SessionFault → AtsRead
ats_seen (Ok a) = good (said_by a)
ats_seen (Err why) = bad (session_cause why)
