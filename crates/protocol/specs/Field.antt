-- Reader and card over the field, and runs of them.
use Rattle.std.specs.Prelude.{◌≡◌, ℕ, Bool, true, false, cond, ◌⊎◌, List, [], ◌∷◌, ◌==◌}
use Rattle.applications.specs.App.{App}
use Rattle.frames.specs.Laws.{Noise}
use Rattle.protocol.specs.Card.{remains, Card, asleep, awake, halted, Reply, quiet, reply, Given, not_given, given, CardMove, garbled, takes}
use Rattle.protocol.specs.Reader.{Reader, Call, ask, rate, start, begin, heard, silent, give_up, close, fetch, Outcome, refused, wrote, wakes, active, answered, over, stopped, off, unanswered, fetched, Move, do_call, new_reader}
use Rattle.protocol.specs.Settings.{ReaderSettings, CardSettings}

-- a frame's way to the card: it arrives whole, is lost, or arrives spoilt
pub data Fate : Type 0 where
  whole : Fate
  lost : Fate
  spoilt : Fate

-- both ends of a run: their settings, and the application on the card
pub record Setup (S : Type 0) : Type 0 where
  pub reader : ReaderSettings
  pub card : CardSettings
  pub app : App S

-- a reader, a card with its application's state, and what can be heard of the card's reply to the reader's last frame
pub record World (S : Type 0) : Type 0 where
  pub reader : Reader
  pub card : Card
  pub state : S
  pub answer : Reply

abbrev pub world : {S : Type 0} → Reader → Card → S → Reply → World S
world r c s a = record { reader = r; card = c; state = s; answer = a }

-- nothing has been asked, and the card has not been woken
abbrev pub outset : {S : Type 0} → S → World S
outset s = world new_reader asleep s quiet

-- the code of the divisor at which a card listens, and of that at which it sends
abbrev pub hears_at : Card → ℕ
hears_at asleep = 0
hears_at (awake w) = w.dri
hears_at halted = 0

abbrev pub sends_at : Card → ℕ
sends_at asleep = 0
sends_at (awake w) = w.dsi
sends_at halted = 0

-- a step's two results: the world after it, and the command that it brought to the application, if any
pub record Crossing (S : Type 0) : Type 0 where
  pub after : World S
  pub command : Given

abbrev pub crossing : {S : Type 0} → World S → Given → Crossing S
crossing w g = record { after = w; command = g }

-- The card took a whole frame. Its reply can be heard only at the rate at which the reader listens; the response to a PPS
-- still goes at the old rate.
abbrev pub taken : {S : Type 0} → Reader → Card → CardMove S → Crossing S
taken r before m =
    crossing (world r m.card m.state (cond (r.link.dsi == sends_at before) m.answer quiet)) m.command

-- A frame on its way to the card. At another rate than the card listens at it arrives as a spoilt one does.
abbrev pub arrives : {S : Type 0} → Setup S → Reader → Card → S → List ℕ → Fate → Crossing S
arrives u r c s f whole =
    cond (r.link.dri == hears_at c) (taken r c (takes u.app u.card c s f))
    (crossing (world r (garbled c) s quiet) not_given)
arrives u r c s f lost = crossing (world r c s quiet) not_given
arrives u r c s f spoilt = crossing (world r (garbled c) s quiet) not_given

-- What a call's outcome does in the field: a frame is on its way; a refused call and fetch move nothing; after any other
-- call there is no more reply to hear.
abbrev pub crosses : {S : Type 0} → Setup S → World S → Reader → Outcome → Fate → Crossing S
crosses u w r (refused n) fate = crossing (world r w.card w.state w.answer) not_given
crosses u w r (wrote f t) fate = arrives u r w.card w.state f fate
crosses u w r (wakes a) fate = crossing (world r w.card w.state quiet) not_given
crosses u w r active fate = crossing (world r w.card w.state quiet) not_given
crosses u w r (answered n s t) fate = crossing (world r w.card w.state quiet) not_given
crosses u w r (over e s t) fate = crossing (world r w.card w.state quiet) not_given
crosses u w r (stopped s t) fate = crossing (world r w.card w.state quiet) not_given
crosses u w r off fate = crossing (world r w.card w.state quiet) not_given
crosses u w r unanswered fate = crossing (world r w.card w.state quiet) not_given
crosses u w r (fetched a) fate = crossing (world r w.card w.state w.answer) not_given

-- a call, and the fate of the frame that it writes, if it writes one
pub record Step : Type 0 where
  pub call : Call
  pub fate : Fate

abbrev pub move_of : {S : Type 0} → Setup S → World S → Call → Move
move_of u w c = do_call u.reader w.reader c

abbrev pub step_from : {S : Type 0} → Setup S → World S → Step → Crossing S
step_from u w st = crosses u w (move_of u w st.call).reader (move_of u w st.call).outcome st.fate

-- the world after a list of steps, the latest step first
abbrev pub after : {S : Type 0} → Setup S → S → List Step → World S
after u s [] = outset s
after u s (st ∷ run) = (step_from u (after u s run) st).after

-- bytes are heard only if they are the card's reply, or noise; silence may always come
abbrev pub CanCome : {S : Type 0} → World S → Call → Type 0
CanCome w (ask room) = Unit {0}
CanCome w (rate dsi dri room) = Unit {0}
CanCome w start = Unit {0}
CanCome w (begin c room) = Unit {0}
CanCome w (heard f room) = (w.answer ≡ reply f) ⊎ Noise f
CanCome w (silent room) = Unit {0}
CanCome w give_up = Unit {0}
CanCome w (close room) = Unit {0}
CanCome w (fetch room) = Unit {0}

-- a list of steps is a run from a start state: each step could come where it did
abbrev pub IsRun : {S : Type 0} → Setup S → S → List Step → Type 0
IsRun u s [] = Unit {0}
IsRun u s (st ∷ run) = CanCome (after u s run) st.call × IsRun u s run

-- Commands begun and given, the latest first.

abbrev pub accepted : Outcome → Bool
accepted (refused n) = false
accepted (wrote f t) = true
accepted (wakes a) = true
accepted active = true
accepted (answered n s t) = true
accepted (over e s t) = true
accepted (stopped s t) = true
accepted off = true
accepted unanswered = true
accepted (fetched a) = true

abbrev pub command_in : Call → Given
command_in (ask room) = not_given
command_in (rate dsi dri room) = not_given
command_in start = not_given
command_in (begin c room) = given c
command_in (heard f room) = not_given
command_in (silent room) = not_given
command_in give_up = not_given
command_in (close room) = not_given
command_in (fetch room) = not_given

abbrev pub noted : Given → List (List ℕ) → List (List ℕ)
noted not_given log = log
noted (given c) log = c ∷ log

-- the commands whose begin was accepted
abbrev pub begun_in : {S : Type 0} → Setup S → S → List Step → List (List ℕ)
begun_in u s [] = []
begun_in u s (st ∷ run) =
    cond (accepted (move_of u (after u s run) st.call).outcome) (noted (command_in st.call) (begun_in u s run))
    (begun_in u s run)

-- the commands that the application was given
abbrev pub given_in : {S : Type 0} → Setup S → S → List Step → List (List ℕ)
given_in u s [] = []
given_in u s (st ∷ run) = noted (step_from u (after u s run) st).command (given_in u s run)

-- an application's state after these commands, the latest first
abbrev pub moved : {S : Type 0} → App S → S → List (List ℕ) → S
moved a s [] = s
moved a s (c ∷ cs) = a.next (moved a s cs) c

-- The view: what the reader's side knows of a run.

-- a call as it was made, or, where it was refused, only which call it was
pub data Asked : Type 0 where
  made : Call → Asked
  turned_down : ℕ → Asked

abbrev pub call_number : Call → ℕ
call_number (ask room) = 0
call_number (rate dsi dri room) = 1
call_number start = 2
call_number (begin c room) = 3
call_number (heard f room) = 4
call_number (silent room) = 5
call_number give_up = 6
call_number (close room) = 7
call_number (fetch room) = 8

pub record Seen : Type 0 where
  pub asked : Asked
  pub outcome : Outcome

abbrev pub seen_of : Call → Outcome → Seen
seen_of c o = record { asked = cond (accepted o) (made c) (turned_down (call_number c)); outcome = o }

-- the calls with what they were handed and answered, the latest first
abbrev pub view_of : {S : Type 0} → Setup S → S → List Step → List Seen
view_of u s [] = []
view_of u s (st ∷ run) =
    seen_of st.call (move_of u (after u s run) st.call).outcome ∷ view_of u s run

-- Whatever bytes a spoilt frame arrives as, as long as they are noise, the card takes them as the field has it.
abbrev pub NoiseIsGarbled : Type 0 → Type 0
NoiseIsGarbled S =
    (app : App S) (set : CardSettings) (c : Card) (s : S) (f : List ℕ)
    → Noise f
    → takes app set c s f ≡ remains (garbled c) s quiet
