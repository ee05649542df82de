-- What a turn stands for, with the exchange and the buffer after it.
use Rattle.std.specs.Prelude.{◌≡◌, ℕ, ◌≤◌, Bool, true, false, cond, List, length, take, Ok, Err, Result, nat_lt}
use Rattle.buffers.specs.Over.{over}
use Rattle.frames.specs.Refused.{refusal_number}
use Rattle.frames.specs.Refusals.{length_refused, buffer_refused}
use Rattle.frames.specs.Sizes.{greatest_frame}
use Rattle.frames.specs.declared.refusal.Refusal.{Refusal}
use Rattle.protocol.specs.Reader.{Link, Exchange as Talk, Progress, no_command, running, finished, busy, idle, ended, Outcome, refused, wrote, wakes, active, answered, over as ends, stopped, off, unanswered, fetched, Move, at, to, refuse, guarded, begins, is_command, on_reading, read_as, agreed_of, Event}
use Rattle.exchange.specs.declared.exchange.Exchange.{Exchange}
use Rattle.exchange.specs.declared.exchange.running.Running.{Running}
use Rattle.exchange.specs.declared.turn.Limits.{Limits}
use Rattle.exchange.specs.declared.turn.Sent.{Sent}
use Rattle.exchange.specs.declared.turn.Next.{Next}
use Rattle.exchange.specs.declared.turn.Next.TheVariants.{Wrote, Answered, Over}
use Rattle.exchange.specs.Exchanges.{exchange_seen}
use Rattle.exchange.specs.Links.{link_seen}
use Rattle.exchange.specs.Runs.{run_link, run_seen}
use Rattle.exchange.specs.Views.{says_seen, totals_seen, ending_seen}

-- what the buffer holds after an outcome: a frame that was written stands at its front, and else it is as it was
abbrev pub buffer_after : Outcome → List ℕ → List ℕ
buffer_after (refused n) old = old
buffer_after (wrote f t) old = over f old
buffer_after (wakes a) old = old
buffer_after active old = old
buffer_after (answered n s t) old = old
buffer_after (ends e s t) old = old
buffer_after (stopped s t) old = old
buffer_after off old = old
buffer_after unanswered old = old
buffer_after (fetched a) old = over a old

-- a frame of this length at the front of the buffer, and how long to listen
abbrev pub sent_seen : Sent → List ℕ → Outcome
sent_seen s buffer = wrote (take s.len buffer) s.cycles

-- the move of a busy reader
abbrev pub turn_seen : Result Next (Running × Refusal) → List ℕ → Move
turn_seen (Err kept) buffer = refuse (refusal_number kept.1) (at busy (run_link kept.0) (run_seen kept.0))
turn_seen (Ok (Wrote r s)) buffer = to busy (run_link r) (run_seen r) (sent_seen s buffer)
turn_seen (Ok (Answered x n report)) buffer =
    to idle (link_seen x.link) (exchange_seen x) (answered n (says_seen report.says) (totals_seen report.totals))
turn_seen (Ok (Over x ending report)) buffer =
    to ended (link_seen x.link) (exchange_seen x)
    (ends (ending_seen ending) (says_seen report.says) (totals_seen report.totals))

-- the move of an idle reader that is handed a command
abbrev pub begin_seen : Result (Running × Sent) (Exchange × Refusal) → List ℕ → Move
begin_seen (Ok begun) buffer = to busy (run_link begun.0) (run_seen begun.0) (sent_seen begun.1 buffer)
begin_seen (Err kept) buffer = refuse (refusal_number kept.1) (at idle (link_seen kept.0.link) (exchange_seen kept.0))

-- what an idle reader does about a command: refused by 5 for the buffer, then by 3 for the command's length
abbrev pub beginning : Link → Talk → List ℕ → ℕ → Move
beginning l x command room =
    cond (nat_lt room greatest_frame) (refuse buffer_refused (at idle l x))
    (cond (is_command command) (begins (at idle l x) command) (refuse length_refused (at idle l x)))

abbrev pub is_running : Progress → Bool
is_running no_command = false
is_running running = true
is_running finished = false

-- what a busy reader does about an event: refused by 4 where no command runs, then by 5 for the buffer
abbrev pub hearing : Limits → Link → Talk → Event → ℕ → Move
hearing s l x e room =
    guarded (is_running x.progress) room greatest_frame (at busy l x)
    (on_reading s.repeats s.waits l x (read_as s.fsd (agreed_of l.cid) e))

-- the frame stands in the buffer, all of it
abbrev pub Within : Result Next (Running × Refusal) → List ℕ → Type 0
Within (Err kept) buffer = Unit {0}
Within (Ok (Wrote r s)) buffer = s.len ≤ length buffer
Within (Ok (Answered x n report)) buffer = Unit {0}
Within (Ok (Over x ending report)) buffer = Unit {0}

-- A turn does what the reader's rules say: the exchange after it and what it answers, every byte of the buffer, and the
-- frame's length. What goes on is a Running, whose command runs.
pub record Does (m : Move) (turn : Result Next (Running × Refusal)) (old new : List ℕ) : Type 0 where
  pub moves : turn_seen turn new ≡ m
  pub bytes : new ≡ buffer_after m.outcome old
  pub within : Within turn new

abbrev pub BegunWithin : Result (Running × Sent) (Exchange × Refusal) → List ℕ → Type 0
BegunWithin (Ok begun) buffer = begun.1.len ≤ length buffer
BegunWithin (Err kept) buffer = Unit {0}

-- the same of a command that is handed in
pub record Begins (m : Move) (r : Result (Running × Sent) (Exchange × Refusal)) (old new : List ℕ) : Type 0 where
  pub moves : begin_seen r new ≡ m
  pub bytes : new ≡ buffer_after m.outcome old
  pub within : BegunWithin r new
