-- What the reader does at a call, as the pair keeps it.
use Rattle.std.specs.Prelude.{◌≡◌, ℕ, ◌≤◌, List, length, Result}
use Rattle.exchange.specs.Moves.{buffer_after}
use Rattle.protocol.specs.Reader.{Move}
use Rattle.protocol.specs.Settings.{ReaderSettings}
use Rattle.reader.specs.Sessions.{session_seen, settings_of}
use Rattle.reader.specs.declared.Session.{Session}
use Rattle.pair.specs.Answers.{answer_seen, size_in}
use Rattle.pair.specs.declared.outcome.Woken.{Woken}
use Rattle.frames.specs.declared.Refusal.{Refusal}
use Rattle.stages.specs.declared.Outcome.{Outcome}

-- The session keeps its settings and makes this move. The buffer holds the frame or the answer of the move at its front,
-- all of it, and every other byte is as it was.
pub record Reads (s : ReaderSettings) (m : Move) (after : Session) (r : Result (Outcome Woken) Refusal) (old new : List ℕ) : Type 0 where
  pub settings : settings_of after ≡ s
  pub reader : session_seen after ≡ m.reader
  pub outcome : answer_seen r new ≡ m.outcome
  pub bytes : new ≡ buffer_after m.outcome old
  pub within : size_in r ≤ length new
