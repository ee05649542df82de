-- The frames of the latest exchange, as they were really written, and the turns that they took.
use Rattle.std.specs.Prelude.{ℕ, ◌+◌, ◌-◌, ◌/◌, ◌≤◌, Bool, true, false, cond, not, List, [], ◌∷◌, ◌==◌, slice_index}
use Rattle.frames.specs.Check.{both}
use Rattle.frames.specs.Reading.{Kind, i_kind, r_kind, deselect_kind, wait_kind, no_kind, kind_of, has}
use Rattle.protocol.specs.Card.{Reply, quiet, reply}
use Rattle.protocol.specs.Field.{Fate, whole, lost, spoilt, Setup, Step, after, accepted, move_of}
use Rattle.protocol.specs.Reader.{Call, ask, rate, start, begin, heard, silent, give_up, close, fetch, Outcome, refused, wrote, wakes, active, answered, over, stopped, off, unanswered, fetched, Totals, totalled, is_at, busy, Event, bytes, no_bytes}

-- a turn: a frame written in an exchange with its fate, what could then be heard of the card, and the event taken
pub record Turn : Type 0 where
  pub frame : List ℕ
  pub fate : Fate
  pub sent : Reply
  pub event : Event

-- a frame that waits for its event
pub data Out : Type 0 where
  no_frame : Out
  out : (frame : List ℕ) (fate : Fate) → Out

-- an exchange's turns, the latest first, and the frame that waits for its event
pub record Log : Type 0 where
  pub turns : List Turn
  pub waiting : Out

abbrev pub log_of : List Turn → Out → Log
log_of ts o = record { turns = ts; waiting = o }

abbrev pub out_in : Outcome → Fate → Out
out_in (refused n) fate = no_frame
out_in (wrote f t) fate = out f fate
out_in (wakes a) fate = no_frame
out_in active fate = no_frame
out_in (answered n s t) fate = no_frame
out_in (over e s t) fate = no_frame
out_in (stopped s t) fate = no_frame
out_in off fate = no_frame
out_in unanswered fate = no_frame
out_in (fetched a) fate = no_frame

abbrev pub turn_of : Out → Reply → Event → List Turn → List Turn
turn_of no_frame r e ts = ts
turn_of (out f fate) r e ts = record { frame = f; fate = fate; sent = r; event = e } ∷ ts

-- the event of a call that was taken in an open exchange ends a turn; an accepted begin opens a new log
abbrev pub logged : Bool → Call → Outcome → Fate → Reply → Log → Log
logged engaged (ask room) o fate r log = log
logged engaged (rate dsi dri room) o fate r log = log
logged engaged start o fate r log = log
logged engaged (begin c room) o fate r log = cond (accepted o) (log_of [] (out_in o fate)) log
logged engaged (heard f room) o fate r log =
    cond (both engaged (accepted o)) (log_of (turn_of log.waiting r (bytes f) log.turns) (out_in o fate)) log
logged engaged (silent room) o fate r log =
    cond (both engaged (accepted o)) (log_of (turn_of log.waiting r no_bytes log.turns) (out_in o fate)) log
logged engaged give_up o fate r log = log
logged engaged (close room) o fate r log = log
logged engaged (fetch room) o fate r log = log

abbrev pub log_in : {S : Type 0} → Setup S → S → List Step → Log
log_in u s [] = log_of [] no_frame
log_in u s (st ∷ run) =
    logged (is_at busy (after u s run).reader) st.call (move_of u (after u s run) st.call).outcome st.fate
    (after u s run).answer (log_in u s run)

-- the frames written, the latest first
abbrev pub frames_of : List Turn → List (List ℕ)
frames_of [] = []
frames_of (t ∷ ts) = t.frame ∷ frames_of ts

abbrev pub waiting_frame : Out → List (List ℕ) → List (List ℕ)
waiting_frame no_frame fs = fs
waiting_frame (out f fate) fs = f ∷ fs

abbrev pub written_in : Log → List (List ℕ)
written_in log = waiting_frame log.waiting (frames_of log.turns)

-- Each frame names itself: a wait by its control byte; fresh where it differs from the last fresh frame and is no R(NAK),
-- and the first one; any other is a repeat.

abbrev pub is_wait_kind : Kind → Bool
is_wait_kind i_kind = false
is_wait_kind r_kind = false
is_wait_kind deselect_kind = false
is_wait_kind wait_kind = true
is_wait_kind no_kind = false

abbrev pub is_rkind : Kind → Bool
is_rkind i_kind = false
is_rkind r_kind = true
is_rkind deselect_kind = false
is_rkind wait_kind = false
is_rkind no_kind = false

abbrev pub control_byte : List ℕ → ℕ
control_byte f = slice_index f 0

abbrev pub is_wait : List ℕ → Bool
is_wait f = is_wait_kind (kind_of (control_byte f))

abbrev pub is_nak : List ℕ → Bool
is_nak f = both (is_rkind (kind_of (control_byte f))) (has 0x10 (control_byte f))

abbrev pub same_bytes : List ℕ → List ℕ → Bool
same_bytes [] [] = true
same_bytes [] (y ∷ ys) = false
same_bytes (x ∷ xs) [] = false
same_bytes (x ∷ xs) (y ∷ ys) = both (x == y) (same_bytes xs ys)

-- against the frames before it, and the last fresh one among them
abbrev pub differs : List ℕ → List (List ℕ) → List ℕ → Bool
differs f [] last = true
differs f (g ∷ older) last = both (not (is_wait f)) (both (not (is_nak f)) (not (same_bytes f last)))

abbrev pub last_fresh : List (List ℕ) → List ℕ
last_fresh [] = []
last_fresh (f ∷ older) = cond (differs f older (last_fresh older)) f (last_fresh older)

abbrev pub is_fresh : List ℕ → List (List ℕ) → Bool
is_fresh f older = differs f older (last_fresh older)

abbrev pub counted : Bool → Bool → Totals → Totals
counted true new t = totalled t.fresh t.repeats (t.waits + 1)
counted false true t = totalled (t.fresh + 1) t.repeats t.waits
counted false false t = totalled t.fresh (t.repeats + 1) t.waits

-- how many frames there are of each name
abbrev pub tally : List (List ℕ) → Totals
tally [] = totalled 0 0 0
tally (f ∷ older) = counted (is_wait f) (is_fresh f older) (tally older)

-- A turn is bad if its frame did not arrive whole, or if what was heard is not what the card sent.

abbrev pub is_whole : Fate → Bool
is_whole whole = true
is_whole lost = false
is_whole spoilt = false

abbrev pub is_reply : Event → Reply → Bool
is_reply (bytes f) quiet = false
is_reply (bytes f) (reply g) = same_bytes f g
is_reply no_bytes quiet = true
is_reply no_bytes (reply g) = false

abbrev pub is_bad : Turn → Bool
is_bad t = not (both (is_whole t.fate) (is_reply t.event t.sent))

abbrev pub badness : Turn → ℕ
badness t = cond (is_bad t) 1 0

-- the bad turns that the last fresh frame has met: from its own turn on
abbrev pub bad_since : List Turn → ℕ
bad_since [] = 0
bad_since (t ∷ ts) = badness t + cond (is_fresh t.frame (frames_of ts)) 0 (bad_since ts)

-- all bad turns of the exchange
abbrev pub bad_turns : List Turn → ℕ
bad_turns [] = 0
bad_turns (t ∷ ts) = badness t + bad_turns ts

-- no fresh frame meets more bad turns than this
abbrev pub NoneWorse : ℕ → List Turn → Type 0
NoneWorse limit [] = Unit {0}
NoneWorse limit (t ∷ ts) = (bad_since (t ∷ ts) ≤ limit) × NoneWorse limit ts

-- into how many blocks with this much room so many bytes are cut
abbrev pub blocks_for : ℕ → ℕ → ℕ
blocks_for room n = (n + room - 1) / room
