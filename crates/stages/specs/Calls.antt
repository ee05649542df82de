-- What a call of a session has to show: that it does what the model's reader does.
use Rattle.std.specs.Prelude.{◌≡◌, ℕ, ◌≤◌, List, length}
use Rattle.exchange.specs.Moves.{buffer_after}
use Rattle.frames.specs.Sizes.{greatest_frame}
use Rattle.protocol.specs.Reader.{Reader, Outcome, Move, Call, Event, do_call, guarded, hear, listens}
use Rattle.protocol.specs.Settings.{ReaderSettings}

-- what a call answers: its outcome, and the length that it tells of a frame or an answer, 0 where there is none
pub record Reply : Type 0 where
  pub outcome : Outcome
  pub size : ℕ

-- what is seen of a session after a call: what it is set to, where it stands, and what was answered
pub record Told : Type 0 where
  pub settings : ReaderSettings
  pub move : Move
  pub size : ℕ

-- a session of these settings that stands for this reader has answered
abbrev pub told : ReaderSettings → Reader → Reply → Told
told s r p = record { settings = s; move = record { reader = r; outcome = p.outcome }; size = p.size }

-- The session keeps its settings and makes this move; the buffer holds the frame or the answer of the move at its front,
-- all of it, and every other byte is as it was.
pub record Makes (s : ReaderSettings) (m : Move) (t : Told) (old new : List ℕ) : Type 0 where
  pub settings : t.settings ≡ s
  pub move : t.move ≡ m
  pub buffer : new ≡ buffer_after m.outcome old
  pub within : t.size ≤ length new

-- a call that is handed a buffer
abbrev pub Does : ReaderSettings → Reader → (ℕ → Call) → Told → List ℕ → List ℕ → Type 0
Does s r call t old new = Makes s (do_call s r (call (length old))) t old new

-- a call without a buffer
abbrev pub Turns : ReaderSettings → Reader → Call → Told → Type 0
Turns s r call t = (t.settings ≡ s) × (t.move ≡ do_call s r call)

-- an event, whether bytes were heard or nothing
abbrev pub Hears : ReaderSettings → Reader → Event → Told → List ℕ → List ℕ → Type 0
Hears s r e t old new =
    Makes s (guarded (listens r) (length old) greatest_frame r (hear s r.stage r e)) t old new
