-- The card's rules: what it does at each frame, over any application.
use Rattle.std.specs.Prelude.{ℕ, ◌-◌, Bool, true, false, cond, not, List, [], ◌++◌, length, take, drop, ◌==◌, nat_le}
use Rattle.activation.specs.Ats.{ats_of}
use Rattle.activation.specs.Pps.{PpsRead, pps, no_pps, read_pps, offered, pps_answer}
use Rattle.activation.specs.Rats.{RatsRead, rats, no_rats, read_rats}
use Rattle.applications.specs.App.{App, longest_command}
use Rattle.frames.specs.Blocks.{Block, i_block, r_block, deselect, wait, Cid, without, numbered, frame_of}
use Rattle.frames.specs.Check.{seal, Opened, opened, unopened, open_frame}
use Rattle.frames.specs.Reading.{Agreed, no_number, number, zero_or_none, Reading, valid, invalid, read_frame}
use Rattle.frames.specs.Sizes.{size_of}
use Rattle.protocol.specs.Reader.{more, same}
use Rattle.protocol.specs.Settings.{CardSettings, ats_for, room_of}

-- What the card still owes its reader: nothing; waits, this many with the one that is out, and then the answer; or the rest
-- of the answer behind the block that is out, one byte or more.
pub data Owed : Type 0 where
  owes_nothing : Owed
  owes_waits : (left multiplier : ℕ) (answer : List ℕ) → Owed
  owes_rest : List ℕ → Owed

-- the last block, as it was sent
pub data Sent : Type 0 where
  unsent : Sent
  sent : Block → Sent

-- An awake card: the code of the reader's frame size and its own number, as RATS gave them; whether a PPS would be
-- answered; the codes of the divisors in use, from the card and to it; its block number; the command's bytes so far; what it
-- owes; and its last block.
pub record Awake : Type 0 where
  pub fsdi : ℕ
  pub cid : ℕ
  pub window : Bool
  pub dsi : ℕ
  pub dri : ℕ
  pub number : Bool
  pub gathered : List ℕ
  pub owes : Owed
  pub last : Sent

-- before RATS, awake, and after deselect
pub data Card : Type 0 where
  asleep : Card
  awake : Awake → Card
  halted : Card

-- what the card sends back to a frame
pub data Reply : Type 0 where
  quiet : Reply
  reply : (frame : List ℕ) → Reply

-- the command that the application was given at a frame
pub data Given : Type 0 where
  not_given : Given
  given : (command : List ℕ) → Given

-- the card and its application's state after a frame, with what was sent back and what was given
pub record CardMove (S : Type 0) : Type 0 where
  pub card : Card
  pub state : S
  pub answer : Reply
  pub command : Given

abbrev pub remains : {S : Type 0} → Card → S → Reply → CardMove S
remains c s r = record { card = c; state = s; answer = r; command = not_given }

abbrev pub shut : Awake → Awake
shut w =
    record {
      fsdi = w.fsdi;
      cid = w.cid;
      window = false;
      dsi = w.dsi;
      dri = w.dri;
      number = w.number;
      gathered = w.gathered;
      owes = w.owes;
      last = w.last;
    }

-- an awake card after a block: the same but for its number, what it has gathered, what it owes and what it sent last
abbrev pub turned : Awake → Bool → List ℕ → Owed → Sent → Awake
turned w n g o l =
    record {
      fsdi = w.fsdi;
      cid = w.cid;
      window = false;
      dsi = w.dsi;
      dri = w.dri;
      number = n;
      gathered = g;
      owes = o;
      last = l;
    }

-- A frame that arrives spoilt, or at another rate than the card listens at, closes the window for PPS and does nothing else.
abbrev pub garbled : Card → Card
garbled asleep = asleep
garbled (awake w) = awake (shut w)
garbled halted = halted

-- a reply has the card's number where the block had it, with power level 00
abbrev pub answer_cid : Cid → Cid
answer_cid without = without
answer_cid (numbered n p) = numbered n 0

-- the blocks that the card takes: without support those without number; with it those with its own, and if that is 0 also
-- those without
abbrev pub card_agreed : CardSettings → ℕ → Agreed
card_agreed s n = cond s.supports (cond (n == 0) zero_or_none (number n)) no_number

-- the card sends a block, and keeps it as its last one
abbrev pub sends : {S : Type 0} → Awake → S → Bool → List ℕ → Owed → Block → CardMove S
sends w s n g o b = remains (awake (turned w n g o (sent b))) s (reply (frame_of b))

-- what is owed behind a block that had this much room
abbrev pub owed_after : ℕ → List ℕ → Owed
owed_after room answer = cond (more (drop room answer)) (owes_rest (drop room answer)) owes_nothing

-- the answer's next block: as much as fits, chaining if there is more
abbrev pub answer_block : ℕ → Bool → Cid → List ℕ → Block
answer_block room n a answer = i_block (more (drop room answer)) n a (take room answer)

abbrev pub card_room : Awake → Cid → ℕ
card_room w a = room_of (size_of w.fsdi) a

abbrev pub sends_answer : {S : Type 0} → Awake → S → Bool → Cid → List ℕ → CardMove S
sends_answer w s n a answer =
    sends w s n [] (owed_after (card_room w a) answer) (answer_block (card_room w a) n a answer)

-- with this many waits to ask for: one wait, or the answer
abbrev pub asks_or_answers : {S : Type 0} → Awake → S → Bool → Cid → ℕ → ℕ → List ℕ → CardMove S
asks_or_answers w s n a left m answer =
    cond (left == 0) (sends_answer w s n a answer) (sends w s n [] (owes_waits left m answer) (wait m 0 a))

-- the application is given the command: it moves, and its waits and its answer are owed
abbrev pub gives : {S : Type 0} → App S → Awake → S → Bool → Cid → List ℕ → CardMove S
gives app w s n a command =
    let m = asks_or_answers w (app.next s command) n a (app.waits s command) (app.multiplier s command)
    (app.answer s command) in
    record { card = m.card; state = m.state; answer = m.answer; command = given command }

-- an I-block while nothing is owed: toggle, append, and acknowledge or give; past the longest command it is ignored
abbrev pub takes_i : {S : Type 0} → App S → Awake → S → Bool → Cid → List ℕ → CardMove S
takes_i app w s chaining a info =
    cond (nat_le (length (w.gathered ++ info)) longest_command)
    (cond chaining
    (sends w s (not w.number) (w.gathered ++ info) owes_nothing (r_block false (not w.number) (answer_cid a)))
    (gives app w s (not w.number) (answer_cid a) (w.gathered ++ info)))
    (remains (awake (shut w)) s quiet)

abbrev pub on_i : {S : Type 0} → App S → Awake → S → Owed → Bool → Cid → List ℕ → CardMove S
on_i app w s owes_nothing chaining a info = takes_i app w s chaining a info
on_i app w s (owes_waits k m answer) chaining a info = remains (awake (shut w)) s quiet
on_i app w s (owes_rest answer) chaining a info = remains (awake (shut w)) s quiet

-- a wait with the multiplier asked for ends one wait
abbrev pub on_wait : {S : Type 0} → Awake → S → Owed → ℕ → Cid → CardMove S
on_wait w s owes_nothing m a = remains (awake (shut w)) s quiet
on_wait w s (owes_waits k mine answer) m a =
    cond (m == mine) (asks_or_answers w s w.number (answer_cid a) (k - 1) mine answer) (remains (awake (shut w)) s quiet)
on_wait w s (owes_rest answer) m a = remains (awake (shut w)) s quiet

-- R of equal number: the last block again, as it was sent
abbrev pub sends_again : {S : Type 0} → Awake → S → Sent → CardMove S
sends_again w s unsent = remains (awake (shut w)) s quiet
sends_again w s (sent b) = remains (awake (shut w)) s (reply (frame_of b))

-- R(ACK) of the other number: the next block, if the answer is begun and unfinished
abbrev pub on_next : {S : Type 0} → Awake → S → Owed → Cid → CardMove S
on_next w s owes_nothing a = remains (awake (shut w)) s quiet
on_next w s (owes_waits k m answer) a = remains (awake (shut w)) s quiet
on_next w s (owes_rest answer) a = sends_answer w s (not w.number) (answer_cid a) answer

-- R(NAK) of the other number is answered with R(ACK) and the card's number
abbrev pub on_r : {S : Type 0} → Awake → S → Bool → Bool → Cid → CardMove S
on_r w s nak true a = sends_again w s w.last
on_r w s true false a =
    sends w s w.number w.gathered w.owes (r_block false w.number (answer_cid a))
on_r w s false false a = on_next w s w.owes a

-- every valid block by its kind; deselect is answered, and then there is silence for good
abbrev pub on_block : {S : Type 0} → App S → Awake → S → Block → CardMove S
on_block app w s (i_block chaining n a info) = on_i app w s w.owes chaining a info
on_block app w s (r_block nak n a) = on_r w s nak (same n w.number) a
on_block app w s (deselect a) = remains halted s (reply (frame_of (deselect (answer_cid a))))
on_block app w s (wait m p a) = on_wait w s w.owes m a

abbrev pub on_reading : {S : Type 0} → App S → Awake → S → Reading → CardMove S
on_reading app w s (valid b) = on_block app w s b
on_reading app w s (invalid c) = remains (awake (shut w)) s quiet

-- PPS, while its window is open: for this card's number, and offered
abbrev pub pps_in : CardSettings → Awake → Opened → PpsRead
pps_in s w (opened body) = cond w.window (read_pps w.cid body) no_pps
pps_in s w (unopened c) = no_pps

abbrev pub changed : Awake → ℕ → ℕ → Awake
changed w dsi dri =
    record {
      fsdi = w.fsdi;
      cid = w.cid;
      window = false;
      dsi = dsi;
      dri = dri;
      number = w.number;
      gathered = w.gathered;
      owes = w.owes;
      last = w.last;
    }

-- a PPS that is offered is answered, and then its rates hold; any other frame is read as a block
abbrev pub on_pps : {S : Type 0} → CardSettings → Awake → S → PpsRead → CardMove S → CardMove S
on_pps set w s (pps dsi dri) otherwise =
    cond (offered set.ta dsi dri) (remains (awake (changed w dsi dri)) s (reply (seal (pps_answer w.cid))))
    otherwise
on_pps set w s no_pps otherwise = otherwise

-- RATS wakes the card: its ATS is the answer
abbrev pub woken : ℕ → ℕ → Awake
woken fsdi cid =
    record {
      fsdi = fsdi;
      cid = cid;
      window = true;
      dsi = 0;
      dri = 0;
      number = true;
      gathered = [];
      owes = owes_nothing;
      last = unsent;
    }

abbrev pub on_rats : {S : Type 0} → CardSettings → S → RatsRead → CardMove S
on_rats set s (rats fsdi cid) = remains (awake (woken fsdi cid)) s (reply (seal (ats_of (ats_for set))))
on_rats set s no_rats = remains asleep s quiet

abbrev pub rats_in : Opened → RatsRead
rats_in (opened body) = read_rats body
rats_in (unopened c) = no_rats

-- every frame at every time
abbrev pub takes : {S : Type 0} → App S → CardSettings → Card → S → List ℕ → CardMove S
takes app set asleep s f = on_rats set s (rats_in (open_frame (size_of set.fsci) f))
takes app set (awake w) s f =
    on_pps set w s (pps_in set w (open_frame (size_of set.fsci) f))
    (on_reading app w s (read_frame (size_of set.fsci) (card_agreed set w.cid) f))
takes app set halted s f = remains halted s quiet
