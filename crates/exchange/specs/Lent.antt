-- What a call stands for that an exchange is lent to: what it answers, with the exchange and the buffer after it.
use Rattle.std.specs.Prelude.{◌≡◌, ◌≤◌, ℕ, List, length, Ok, Err, Result}
use Rattle.frames.specs.Refused.{refusal_number}
use Rattle.frames.specs.declared.refusal.Refusal.{Refusal}
use Rattle.protocol.specs.Reader.{Exchange as Talk, running, busy, idle, ended, answered, over as ends, Move, at, to, refuse}
use Rattle.exchange.specs.declared.exchange.Exchange.{Exchange}
use Rattle.exchange.specs.declared.turn.Sent.{Sent}
use Rattle.exchange.specs.declared.turn.Turn.{Turn}
use Rattle.exchange.specs.declared.turn.Turn.TheVariants.{Refused, Wrote, Answered, Over}
use Rattle.exchange.specs.Exchanges.{exchange_seen}
use Rattle.exchange.specs.Links.{link_seen}
use Rattle.exchange.specs.Moves.{buffer_after, sent_seen}
use Rattle.exchange.specs.Views.{says_seen, totals_seen, ending_seen}

-- the move of a busy reader
abbrev pub turn_seen : Exchange → Turn → List ℕ → Move
turn_seen x (Refused why) buffer = refuse (refusal_number why) (at busy (link_seen x.link) (exchange_seen x))
turn_seen x (Wrote s) buffer = to busy (link_seen x.link) (exchange_seen x) (sent_seen s buffer)
turn_seen x (Answered n report) buffer =
    to idle (link_seen x.link) (exchange_seen x) (answered n (says_seen report.says) (totals_seen report.totals))
turn_seen x (Over ending report) buffer =
    to ended (link_seen x.link) (exchange_seen x)
    (ends (ending_seen ending) (says_seen report.says) (totals_seen report.totals))

-- the move of an idle reader that is handed a command
abbrev pub begin_seen : Exchange → Result Sent Refusal → List ℕ → Move
begin_seen x (Ok s) buffer = to busy (link_seen x.link) (exchange_seen x) (sent_seen s buffer)
begin_seen x (Err why) buffer = refuse (refusal_number why) (at idle (link_seen x.link) (exchange_seen x))

-- an exchange that goes on is still running
abbrev pub GoesOn : Turn → Talk → Type 0
GoesOn (Refused why) x = Unit {0}
GoesOn (Wrote s) x = x.progress ≡ running
GoesOn (Answered n report) x = Unit {0}
GoesOn (Over ending report) x = Unit {0}

-- the frame stands in the buffer, all of it
abbrev pub Within : Turn → List ℕ → Type 0
Within (Refused why) buffer = Unit {0}
Within (Wrote s) buffer = s.len ≤ length buffer
Within (Answered n report) buffer = Unit {0}
Within (Over ending report) buffer = Unit {0}

-- a turn does what the reader's rules say: the exchange after it and what it answers, every byte of the buffer, the
-- frame's length, and that what goes on is running
pub record Hears (m : Move) (x : Exchange) (turn : Turn) (old new : List ℕ) : Type 0 where
  pub moves : turn_seen x turn new ≡ m
  pub bytes : new ≡ buffer_after m.outcome old
  pub within : Within turn new
  pub going : GoesOn turn (exchange_seen x)

-- a command that was taken is running
abbrev pub Begun : Result Sent Refusal → Talk → Type 0
Begun (Ok s) x = x.progress ≡ running
Begun (Err why) x = Unit {0}

abbrev pub BegunWithin : Result Sent Refusal → List ℕ → Type 0
BegunWithin (Ok s) buffer = s.len ≤ length buffer
BegunWithin (Err why) buffer = Unit {0}

-- the same of a command that is handed in
pub record Starts (m : Move) (x : Exchange) (r : Result Sent Refusal) (old new : List ℕ) : Type 0 where
  pub moves : begin_seen x r new ≡ m
  pub bytes : new ≡ buffer_after m.outcome old
  pub within : BegunWithin r new
  pub going : Begun r (exchange_seen x)

-- a call that is refused leaves the exchange as it was
abbrev pub Kept : Turn → Exchange → Exchange → Type 0
Kept (Refused why) old new = new ≡ old
Kept (Wrote s) old new = Unit {0}
Kept (Answered n report) old new = Unit {0}
Kept (Over ending report) old new = Unit {0}

-- what goes on is running, and nothing is refused
abbrev pub Going : Turn → Talk → Type 0
Going (Refused why) x = ⊥
Going (Wrote s) x = x.progress ≡ running
Going (Answered n report) x = Unit {0}
Going (Over ending report) x = Unit {0}

-- what a rule does: the exchange after it and what it answers, every byte of the buffer, and the frame's length
pub record Rules (m : Move) (x : Exchange) (turn : Turn) (old new : List ℕ) : Type 0 where
  pub moves : turn_seen x turn new ≡ m
  pub bytes : new ≡ buffer_after m.outcome old
  pub within : Within turn new

-- the same of a frame that is written
abbrev pub Sends : Move → Exchange → Sent → List ℕ → List ℕ → Type 0
Sends m x s old new = Rules m x (Wrote s) old new
