-- What holds after every run of a reader and a card, stopped anywhere.
use Rattle.std.specs.Prelude.{◌≡◌, ℕ, zero, suc, ◌+◌, ◌*◌, ◌/◌, ◌<◌, ◌≤◌, Bool, true, cond, not, ◌⊎◌, List, [], ◌∷◌, ◌++◌, length, ◌==◌}
use Rattle.applications.specs.App.{App, Keeps}
use Rattle.frames.specs.Blocks.{without, numbered}
use Rattle.frames.specs.Laws.{Noise}
use Rattle.frames.specs.Sizes.{size_of, greatest_frame}
use Rattle.protocol.specs.Card.{Card, asleep, awake, halted, Awake, Reply, quiet, reply}
use Rattle.protocol.specs.Field.{Setup, Step, Fate, after, IsRun, CanCome, begun_in, given_in, moved, view_of, move_of}
use Rattle.protocol.specs.Reader.{Link, Stage, unwoken, asking, woken, rating, failed, idle, busy, ended, closing, closed, Says, none, done, taken, not_taken, doubt, says, Totals, Outcome, refused, wrote, wakes, active, answered, over, stopped, off, unanswered, fetched, Ending, Call, heard, silent, is_at}
use Rattle.protocol.specs.Settings.{ReaderSettings, CardSettings, reader_in_range, card_in_range, room_of}
use Rattle.protocol.specs.Turns.{log_in, written_in, tally, bad_turns, NoneWorse, blocks_for}

-- (a) The parameters.

-- from the call that reported the session active until a close is accepted
abbrev pub InSession : Stage → Type 0
InSession unwoken = ⊥
InSession asking = ⊥
InSession woken = ⊥
InSession (rating dsi dri) = ⊥
InSession failed = ⊥
InSession idle = Unit {0}
InSession busy = Unit {0}
InSession ended = Unit {0}
InSession closing = ⊥
InSession closed = ⊥

-- both ends hold the same: the frame sizes, the rates of both directions, the waiting time, the card number, and whether
-- it is sent
pub record SameAtBoth (rs : ReaderSettings) (cs : CardSettings) (l : Link) (w : Awake) : Type 0 where
  pub fsd : size_of w.fsdi ≡ size_of rs.fsdi
  pub fsc : l.fsc ≡ size_of cs.fsci
  pub from_card : l.dsi ≡ w.dsi
  pub to_card : l.dri ≡ w.dri
  pub fwi : l.fwi ≡ cs.fwi
  pub number : w.cid ≡ rs.cid
  pub sent : l.cid ≡ cond cs.supports (numbered rs.cid 0) without

abbrev pub Agree : ReaderSettings → CardSettings → Link → Card → Type 0
Agree rs cs l asleep = ⊥
Agree rs cs l (awake w) = SameAtBoth rs cs l w
Agree rs cs l halted = ⊥

-- (b) The commands.

-- all that were begun were given, or all but the latest
abbrev pub Once : List (List ℕ) → List (List ℕ) → Type 0
Once begun given = (begun ≡ given) ⊎ ((latest : List ℕ) × (begun ≡ latest ∷ given))

-- the latest command begun was given
abbrev pub latest_given : {S : Type 0} → Setup S → S → List Step → Bool
latest_given u s run = length (begun_in u s run) == length (given_in u s run)

-- another run with the same view, in which the latest command's being given is the other way
abbrev pub OtherWay : {S : Type 0} → Setup S → S → List Step → List Step → Type 0
OtherWay u s run other =
    IsRun u s other × (view_of u s other ≡ view_of u s run) × (latest_given u s other ≡ not (latest_given u s run))

-- the application's answer to the latest command, in the state that it then had
abbrev pub latest_answer : {S : Type 0} → App S → S → List (List ℕ) → List ℕ
latest_answer a s [] = []
latest_answer a s (c ∷ cs) = a.answer (moved a s cs) c

-- the waits that the application asks for at the latest command
abbrev pub latest_waits : {S : Type 0} → App S → S → List (List ℕ) → ℕ
latest_waits a s [] = 0
latest_waits a s (c ∷ cs) = a.waits (moved a s cs) c

-- (c) The frames.

-- the totals that an outcome gives are the numbers of the frames written
abbrev pub TotalsTrue : Outcome → List (List ℕ) → Type 0
TotalsTrue (refused n) fs = Unit {0}
TotalsTrue (wrote f t) fs = Unit {0}
TotalsTrue (wakes a) fs = Unit {0}
TotalsTrue active fs = Unit {0}
TotalsTrue (answered n s t) fs = t ≡ tally fs
TotalsTrue (over e s t) fs = t ≡ tally fs
TotalsTrue (stopped s t) fs = t ≡ tally fs
TotalsTrue off fs = Unit {0}
TotalsTrue unanswered fs = Unit {0}
TotalsTrue (fetched a) fs = Unit {0}

-- when the promise to end done is owed: no fresh frame meets more bad turns than half its repeats, and all bad turns with
-- the application's waits are within the waits granted
abbrev pub Bearable : {S : Type 0} → Setup S → S → List Step → Type 0
Bearable u s run =
    NoneWorse (u.reader.repeats / 2) (log_in u s run).turns
    × (bad_turns (log_in u s run).turns + latest_waits u.app s (begun_in u s run) ≤ u.reader.waits)

-- the blocks of the latest command and of the answer to it
abbrev pub blocks_of : {S : Type 0} → App S → S → Link → ℕ → List (List ℕ) → ℕ
blocks_of a s l fsd [] = 0
blocks_of a s l fsd (c ∷ cs) =
    blocks_for (room_of l.fsc l.cid) (length c)
    + blocks_for (room_of fsd l.cid) (length (a.answer (moved a s cs) c))

-- the most frames that the latest exchange can take
abbrev pub most_frames : {S : Type 0} → Setup S → S → List Step → ℕ
most_frames u s run =
    blocks_of u.app s (after u s run).reader.link (size_of u.reader.fsdi) (begun_in u s run)
    * (u.reader.repeats + 1)
    + u.reader.waits

-- Everything that holds after a run.
pub record Agreement {S : Type 0} (u : Setup S) (s : S) (run : List Step) : Type 0 where
  -- while a session is active both ends hold the same parameters
  pub parameters : InSession (after u s run).reader.stage → Agree u.reader u.card (after u s run).reader.link (after u s run).card
  -- the application's state is the start state moved by the commands given, in their order, and by nothing else
  pub state : (after u s run).state ≡ moved u.app s (given_in u s run)
  -- each command begun was given once, whole and in order, the latest perhaps not at all
  pub commands : Once (begun_in u s run) (given_in u s run)
  -- done and taken: the latest command was given
  pub when_done : says (after u s run).reader ≡ done → begun_in u s run ≡ given_in u s run
  pub when_taken : says (after u s run).reader ≡ taken → begun_in u s run ≡ given_in u s run
  -- not taken: it was not
  pub when_not_taken : says (after u s run).reader ≡ not_taken → (latest : List ℕ) × (begun_in u s run ≡ latest ∷ given_in u s run)
  -- none: there was no command
  pub when_none : says (after u s run).reader ≡ none → begun_in u s run ≡ []
  -- in doubt: nobody on the reader's side can know, for there is another run with the same view in which it is the other way
  pub doubt_due : says (after u s run).reader ≡ doubt → (other : List Step) × OtherWay u s run other
  -- and only then
  pub doubt_only : (other : List Step) → OtherWay u s run other → says (after u s run).reader ≡ doubt
  -- the answer gathered is a front part of the application's own answer to the latest command, and all of it when done
  pub answer_front : (tail : List ℕ) × ((after u s run).reader.exchange.answer ++ tail ≡ latest_answer u.app s (begun_in u s run))
  pub answer_whole : says (after u s run).reader ≡ done → (after u s run).reader.exchange.answer ≡ latest_answer u.app s (begun_in u s run)
  -- the totals of a result are the numbers of the frames really written in the exchange
  pub totals : (c : Call) → CanCome (after u s run) c → TotalsTrue (move_of u (after u s run) c).outcome (written_in (log_in u s run))
  -- a fresh frame is repeated at most so often, and waits are granted at most so often
  pub repeats_few : (tally (written_in (log_in u s run))).repeats ≤ (tally (written_in (log_in u s run))).fresh * u.reader.repeats
  pub waits_few : (tally (written_in (log_in u s run))).waits ≤ u.reader.waits
  -- so the frames of an exchange are at most fresh × (repeats + 1) + waits
  pub frames_few : length (written_in (log_in u s run)) ≤ (tally (written_in (log_in u s run))).fresh * (u.reader.repeats + 1) + u.reader.waits
  -- an exchange that ends by 6, 7, 8 or 9 met more than is bearable
  pub ends_done : (c : Call) (fate : Fate) (e : Ending) (y : Says) (t : Totals)
      → CanCome (after u s run) c
      → is_at busy (after u s run).reader ≡ true
      → (move_of u (after u s run) c).outcome ≡ over e y t
      → Bearable u s (record { call = c; fate = fate } ∷ run)
      → ⊥
  -- an open exchange has taken fewer events than the most frames that it can take
  pub moves_on : is_at busy (after u s run).reader ≡ true → length (log_in u s run).turns < most_frames u s run

-- An exchange that is driven on: the field's choice at each turn, the fate of the next frame and what comes after this one.

pub data Comes : Type 0 where
  the_reply : Comes
  nothing : Comes
  noise : (bytes : List ℕ) → Comes

pub record Chance : Type 0 where
  pub fate : Fate
  pub comes : Comes

-- noise is noise
abbrev pub Fair : Comes → Type 0
Fair the_reply = Unit {0}
Fair nothing = Unit {0}
Fair (noise f) = Noise f

-- where there is no reply to hear, there is silence
abbrev pub hear_reply : Reply → Call
hear_reply quiet = silent greatest_frame
hear_reply (reply f) = heard f greatest_frame

abbrev pub event_for : Reply → Comes → Call
event_for a the_reply = hear_reply a
event_for a nothing = silent greatest_frame
event_for a (noise f) = heard f greatest_frame

-- the run with its open exchange driven on by so many chances
abbrev pub driven : {S : Type 0} → Setup S → S → List Step → (ℕ → Chance) → ℕ → List Step
driven u s run chances zero = run
driven u s run chances (suc k) =
    let so_far = driven u s run chances k in
    cond (is_at busy (after u s so_far).reader)
    (record { call = event_for (after u s so_far).answer (chances k).comes; fate = (chances k).fate } ∷ so_far) so_far

-- Whatever chances come, as long as they can be borne, there is a number of them after which the exchange is done.
abbrev pub EndsDone : {S : Type 0} → Setup S → S → List Step → Type 0
EndsDone u s run =
    is_at busy (after u s run).reader ≡ true
    → (chances : ℕ → Chance)
    → ((k : ℕ) → Fair (chances k).comes)
    → ((k : ℕ) → Bearable u s (driven u s run chances k))
    → (k : ℕ) × (says (after u s (driven u s run chances k)).reader ≡ done)

-- The agreement of reader and card: for any application that keeps within its bounds, any settings in range, any start
-- state, and any run.
abbrev pub AgreementHolds : Type 0 → Type 0
AgreementHolds S =
    (u : Setup S) (s : S) (run : List Step)
    → reader_in_range u.reader ≡ true
    → card_in_range u.card ≡ true
    → Keeps u.app
    → IsRun u s run
    → Agreement u s run × EndsDone u s run
