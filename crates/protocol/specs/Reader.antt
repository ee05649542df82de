-- The reader's rules: its calls, what each answers, and what the reader says of its command.
use Rattle.std.specs.Prelude.{ℕ, ◌+◌, ◌*◌, ◌^◌, min, Bool, true, false, cond, not, List, [], ◌++◌, length, take, drop, ◌==◌, nat_le, nat_lt}
use Rattle.activation.specs.Ats.{Ats, AtsRead, good, bad, hear_ats, supports_cid}
use Rattle.activation.specs.Pps.{greatest_rate, offered, pps_of, is_pps_answer, pps_answer_wrong}
use Rattle.activation.specs.Rats.{rats_of}
use Rattle.applications.specs.App.{longest_command, longest_answer}
use Rattle.frames.specs.Blocks.{Block, i_block, r_block, deselect, wait, Cid, without, numbered, frame_of}
use Rattle.frames.specs.Causes.{Cause, cause, block, silence}
use Rattle.frames.specs.Check.{both, seal, Opened, opened, unopened, open_frame}
use Rattle.frames.specs.Reading.{Agreed, no_number, number, Reading, valid, invalid, read_frame}
use Rattle.frames.specs.Refusals.{setting_refused, rate_refused, length_refused, stage_refused, buffer_refused}
use Rattle.frames.specs.Sizes.{size_of, greatest_frame}
use Rattle.protocol.specs.Settings.{ReaderSettings, room_of}

-- What the reader says of its latest command: there is none; it was answered; it was given to the application; it was
-- not; or nobody on the reader's side can know.
pub data Says : Type 0 where
  none : Says
  done : Says
  taken : Says
  not_taken : Says
  doubt : Says

-- where a session stands; rating has the two codes that were asked for, from the card and to it
pub data Stage : Type 0 where
  unwoken : Stage
  asking : Stage
  woken : Stage
  rating : (dsi dri : ℕ) → Stage
  failed : Stage
  idle : Stage
  busy : Stage
  ended : Stage
  closing : Stage
  closed : Stage

-- what the reader holds of the card since its ATS: its frame size, FWI and TA, the card number in the reader's blocks, and
-- the codes of the divisors in use, from the card and to it
pub record Link : Type 0 where
  pub fsc : ℕ
  pub fwi : ℕ
  pub ta : ℕ
  pub cid : Cid
  pub dsi : ℕ
  pub dri : ℕ

-- the frames of an exchange, by what each was written for
pub record Totals : Type 0 where
  pub fresh : ℕ
  pub repeats : ℕ
  pub waits : ℕ

-- how far the latest command is
pub data Progress : Type 0 where
  no_command : Progress
  running : Progress
  finished : Progress

-- The latest exchange: the part of the command in the last block and the rest behind it, the answer gathered, the totals,
-- the repeats since the last fresh frame and the last cause since then, the multiplier of a wait that still holds (0:
-- none), whether an R(ACK) of the other number came after the latest writing of the last block, and whether a wait or an I
-- of equal number came after its first writing.
pub record Exchange : Type 0 where
  pub progress : Progress
  pub number : Bool
  pub part : List ℕ
  pub rest : List ℕ
  pub answer : List ℕ
  pub totals : Totals
  pub since : ℕ
  pub why : Cause
  pub stretch : ℕ
  pub other : Bool
  pub came : Bool

pub record Reader : Type 0 where
  pub stage : Stage
  pub link : Link
  pub exchange : Exchange

-- no cause since the last fresh frame
abbrev pub no_cause : Cause
no_cause = cause 0 0 block

abbrev pub more : List ℕ → Bool
more rest = nat_lt 0 (length rest)

abbrev pub or_else : Bool → Bool → Bool
or_else true b = true
or_else false b = b

-- The first that fits. The last block was never written while there is more of the command behind the part.
abbrev pub said : Bool → Bool → Bool → Says
said unwritten other came = cond (or_else unwritten other) not_taken (cond came taken doubt)

abbrev pub say_of : Progress → Exchange → Says
say_of no_command x = none
say_of running x = said (more x.rest) x.other x.came
say_of finished x = done

-- what the reader says
abbrev pub says : Reader → Says
says r = say_of r.exchange.progress r.exchange

-- Before anything was asked.

abbrev pub blank_link : Link
blank_link = record { fsc = 0; fwi = 0; ta = 0; cid = without; dsi = 0; dri = 0 }

abbrev pub totalled : ℕ → ℕ → ℕ → Totals
totalled f r w = record { fresh = f; repeats = r; waits = w }

abbrev pub blank_exchange : Exchange
blank_exchange =
    record {
      progress = no_command;
      number = false;
      part = [];
      rest = [];
      answer = [];
      totals = totalled 0 0 0;
      since = 0;
      why = no_cause;
      stretch = 0;
      other = false;
      came = false;
    }

abbrev pub new_reader : Reader
new_reader = record { stage = unwoken; link = blank_link; exchange = blank_exchange }

-- The calls. Each that may write a frame is handed a buffer, fetch too: room is its size.
pub data Call : Type 0 where
  ask : (room : ℕ) → Call
  rate : (dsi dri room : ℕ) → Call
  start : Call
  begin : (command : List ℕ) (room : ℕ) → Call
  heard : (bytes : List ℕ) (room : ℕ) → Call
  silent : (room : ℕ) → Call
  give_up : Call
  close : (room : ℕ) → Call
  fetch : (room : ℕ) → Call

-- why an exchange or a waking ended against the reader's will: repeats spent, with the last cause; a block that breaks the
-- rules; a wait too many; an answer too long
pub data Ending : Type 0 where
  spent : Cause → Ending
  broken : Ending
  waits_spent : Ending
  answer_long : Ending

abbrev pub ending_number : Ending → ℕ
ending_number (spent c) = 6
ending_number broken = 7
ending_number waits_spent = 8
ending_number answer_long = 9

-- what a call answers
pub data Outcome : Type 0 where
  refused : (number : ℕ) → Outcome
  wrote : (frame : List ℕ) (cycles : ℕ) → Outcome
  wakes : Ats → Outcome
  active : Outcome
  answered : (length : ℕ) → Says → Totals → Outcome
  over : Ending → Says → Totals → Outcome
  stopped : Says → Totals → Outcome
  off : Outcome
  unanswered : Outcome
  fetched : List ℕ → Outcome

-- an outcome's number: 0 where the session goes on
abbrev pub outcome_number : Outcome → ℕ
outcome_number (refused n) = n
outcome_number (wrote f t) = 0
outcome_number (wakes a) = 0
outcome_number active = 0
outcome_number (answered n s t) = 100
outcome_number (over e s t) = ending_number e
outcome_number (stopped s t) = 103
outcome_number off = 101
outcome_number unanswered = 102
outcome_number (fetched a) = 0

-- a call's outcome and the reader after it
pub record Move : Type 0 where
  pub reader : Reader
  pub outcome : Outcome

-- a refusal changes nothing
abbrev pub refuse : ℕ → Reader → Move
refuse n r = record { reader = r; outcome = refused n }

abbrev pub at : Stage → Link → Exchange → Reader
at s l x = record { stage = s; link = l; exchange = x }

abbrev pub to : Stage → Link → Exchange → Outcome → Move
to s l x o = record { reader = at s l x; outcome = o }

-- The waiting time, in carrier cycles.

abbrev pub activation_time : ℕ
activation_time = 65536

abbrev pub longest_time : ℕ
longest_time = 67108864

-- 4096 × 2^FWI, times the multiplier of a wait that holds
abbrev pub listening : Link → ℕ → ℕ
listening l stretch = min longest_time (4096 * 2 ^ l.fwi * cond (stretch == 0) 1 stretch)

-- The exchange after each event.

-- begin: the answer is emptied, and the first part goes out
abbrev pub begun : ℕ → Bool → List ℕ → Exchange
begun room n command =
    record {
      progress = running;
      number = n;
      part = take room command;
      rest = drop room command;
      answer = [];
      totals = totalled 1 0 0;
      since = 0;
      why = no_cause;
      stretch = 0;
      other = false;
      came = false;
    }

-- R(ACK) of equal number: the next part, fresh
abbrev pub next_part : ℕ → Exchange → Exchange
next_part room x =
    record {
      progress = running;
      number = not x.number;
      part = take room x.rest;
      rest = drop room x.rest;
      answer = x.answer;
      totals = totalled (x.totals.fresh + 1) x.totals.repeats x.totals.waits;
      since = 0;
      why = no_cause;
      stretch = 0;
      other = false;
      came = x.came;
    }

-- the same command and answer with other counts and marks
abbrev pub recounted : Exchange → Totals → ℕ → Cause → ℕ → Bool → Bool → Exchange
recounted x totals since why stretch other came =
    record {
      progress = running;
      number = x.number;
      part = x.part;
      rest = x.rest;
      answer = x.answer;
      totals = totals;
      since = since;
      why = why;
      stretch = stretch;
      other = other;
      came = came;
    }

-- silence or an invalid block: a repeat
abbrev pub repeated : Cause → Exchange → Exchange
repeated c x =
    recounted x (totalled x.totals.fresh (x.totals.repeats + 1) x.totals.waits) (x.since + 1) c x.stretch
    x.other x.came

-- R(ACK) of the other number: the part is written again, a repeat
abbrev pub rewritten : Exchange → Exchange
rewritten x =
    recounted x (totalled x.totals.fresh (x.totals.repeats + 1) x.totals.waits) (x.since + 1) x.why 0 false
    x.came

-- a wait is granted; it is neither fresh nor a repeat
abbrev pub granted : ℕ → Exchange → Exchange
granted m x =
    recounted x (totalled x.totals.fresh x.totals.repeats (x.totals.waits + 1)) x.since x.why m x.other
    (or_else x.came (not (more x.rest)))

-- a chaining I of equal number: its information is appended, and R(ACK) goes out, fresh
abbrev pub appended : List ℕ → Exchange → Exchange
appended info x =
    record {
      progress = running;
      number = not x.number;
      part = x.part;
      rest = x.rest;
      answer = x.answer ++ info;
      totals = totalled (x.totals.fresh + 1) x.totals.repeats x.totals.waits;
      since = 0;
      why = no_cause;
      stretch = 0;
      other = x.other;
      came = true;
    }

-- the last I: the answer is all there
abbrev pub completed : List ℕ → Exchange → Exchange
completed info x =
    record {
      progress = finished;
      number = not x.number;
      part = x.part;
      rest = x.rest;
      answer = x.answer ++ info;
      totals = x.totals;
      since = x.since;
      why = x.why;
      stretch = 0;
      other = x.other;
      came = true;
    }

-- the exchange ends here, with what the last block showed of the command
abbrev pub shown : Bool → Bool → Exchange → Exchange
shown other came x =
    recounted x x.totals x.since x.why x.stretch (or_else other x.other) (or_else came x.came)

-- The reader's blocks.

abbrev pub part_block : Link → Exchange → Block
part_block l x = i_block (more x.rest) x.number l.cid x.part

-- asks for what was missed: R(NAK), or R(ACK) once the answer's first block is in
abbrev pub ask_again : Link → Exchange → Block
ask_again l x = r_block (not (more x.answer)) x.number l.cid

abbrev pub ack_block : Link → Exchange → Block
ack_block l x = r_block false x.number l.cid

-- power level 00
abbrev pub wait_block : Link → ℕ → Block
wait_block l m = wait m 0 l.cid

-- an exchange goes on with this block
abbrev pub writes : Link → Exchange → Block → Move
writes l x b = to busy l x (wrote (frame_of b) (listening l x.stretch))

-- an exchange ends against the reader's will: only close is left
abbrev pub ends : Link → Exchange → Ending → Move
ends l x e = to ended l x (over e (say_of running x) x.totals)

-- What is heard in an exchange: repeats is the limit on the repeats of a fresh frame, waits that of an exchange's waits.
module _ (repeats waits : ℕ) (l : Link) (x : Exchange) where
  -- silence, or an invalid block: ask again
  abbrev pub on_invalid : Cause → Move
  on_invalid c =
      cond (nat_lt x.since repeats) (writes l (repeated c x) (ask_again l x)) (ends l x (spent c))

  -- R(ACK) of equal number: the next part, if there is one
  abbrev pub on_equal : Bool → Move
  on_equal true = writes l (next_part (room_of l.fsc l.cid) x) (part_block l (next_part (room_of l.fsc l.cid) x))
  on_equal false = ends l x broken

  -- R(ACK) of the other number: the part again, unless the answer has begun
  abbrev pub on_other : Bool → Move
  on_other true = ends l (shown true false x) broken
  on_other false =
      cond (nat_lt x.since repeats) (writes l (rewritten x) (part_block l x)) (ends l (shown true false x) (spent x.why))

  abbrev pub on_ack : Bool → Move
  on_ack true = on_equal (more x.rest)
  on_ack false = on_other (more x.answer)

  -- a wait is answered with its multiplier, up to the limit
  abbrev pub on_wait : ℕ → Move
  on_wait m =
      cond (nat_lt x.totals.waits waits) (writes l (granted m x) (wait_block l m))
      (ends l (shown false (not (more x.rest)) x) waits_spent)

  -- the answer's next block, chaining or last
  abbrev pub on_answer : Bool → List ℕ → Move
  on_answer true info = writes l (appended info x) (ack_block l (appended info x))
  on_answer false info =
      to idle l (completed info x) (answered (length (x.answer ++ info)) done x.totals)

  -- an I of equal number with the command all sent, unless it makes the answer too long
  abbrev pub on_information : Bool → Bool → List ℕ → Move
  on_information true chaining info =
      cond (nat_le (length (x.answer ++ info)) longest_answer) (on_answer chaining info)
      (ends l (shown false true x) answer_long)
  on_information false chaining info = ends l x broken

abbrev pub same : Bool → Bool → Bool
same true b = b
same false b = not b

-- every valid block by its kind
abbrev pub on_block : ℕ → ℕ → Link → Exchange → Block → Move
on_block repeats waits l x (i_block chaining n a info) =
    on_information repeats waits l x (both (same n x.number) (not (more x.rest))) chaining info
on_block repeats waits l x (r_block true n a) = ends l x broken
on_block repeats waits l x (r_block false n a) = on_ack repeats waits l x (same n x.number)
on_block repeats waits l x (deselect a) = ends l x broken
on_block repeats waits l x (wait m p a) = on_wait repeats waits l x m

abbrev pub on_reading : ℕ → ℕ → Link → Exchange → Reading → Move
on_reading repeats waits l x (valid b) = on_block repeats waits l x b
on_reading repeats waits l x (invalid c) = on_invalid repeats waits l x c

-- Outside an exchange a frame that failed is repeated as it was.

-- the repeats of RATS, PPS or deselect, and the last cause
abbrev pub tried : ℕ → Cause → Exchange → Exchange
tried n c x =
    record {
      progress = x.progress;
      number = x.number;
      part = x.part;
      rest = x.rest;
      answer = x.answer;
      totals = x.totals;
      since = n;
      why = c;
      stretch = x.stretch;
      other = x.other;
      came = x.came;
    }

-- one more try of this body, while there are repeats left
abbrev pub try_again : ℕ → Stage → Link → Exchange → List ℕ → Cause → Move → Move
try_again repeats s l x body c end =
    cond (nat_lt x.since repeats) (to s l (tried (x.since + 1) c x) (wrote (seal body) activation_time)) end

-- waking failed: only close is left
abbrev pub fails : Link → Exchange → Cause → Move
fails l x c = to failed l x (over (spent c) (say_of x.progress x) x.totals)

-- what is agreed on card numbers
abbrev pub agreed_of : Cid → Agreed
agreed_of without = no_number
agreed_of (numbered n p) = number n

-- the link that an ATS gives
abbrev pub link_of : ReaderSettings → Ats → Link
link_of s a =
    record {
      fsc = size_of a.fsci;
      fwi = a.fwi;
      ta = a.ta;
      cid = cond (supports_cid a) (numbered s.cid 0) without;
      dsi = 0;
      dri = 0;
    }

-- the link at other rates
abbrev pub at_rates : ℕ → ℕ → Link → Link
at_rates dsi dri l =
    record { fsc = l.fsc; fwi = l.fwi; ta = l.ta; cid = l.cid; dsi = dsi; dri = dri }

-- after RATS: a good ATS, or RATS again
abbrev pub on_ats : ReaderSettings → Link → Exchange → AtsRead → Move
on_ats s l x (good a) = to woken (link_of s a) (tried 0 no_cause x) (wakes a)
on_ats s l x (bad c) = try_again s.repeats asking l x (rats_of s.fsdi s.cid) c (fails l x c)

-- after PPS: its response, or PPS again
abbrev pub on_pps_answer : ReaderSettings → ℕ → ℕ → Link → Exchange → Bool → Cause → Move
on_pps_answer s dsi dri l x true c = to idle (at_rates dsi dri l) (tried 0 no_cause x) active
on_pps_answer s dsi dri l x false c =
    try_again s.repeats (rating dsi dri) l x (pps_of s.cid dsi dri) c (fails l x c)

abbrev pub on_pps : ReaderSettings → ℕ → ℕ → Link → Exchange → Opened → Move
on_pps s dsi dri l x (opened body) = on_pps_answer s dsi dri l x (is_pps_answer s.cid body) pps_answer_wrong
on_pps s dsi dri l x (unopened c) = on_pps_answer s dsi dri l x false c

-- after deselect: its response, or deselect again, or off all the same
abbrev pub on_deselect : ReaderSettings → Link → Exchange → Bool → Move
on_deselect s l x true = to closed l x off
on_deselect s l x false =
    cond (nat_lt x.since s.repeats)
    (to closing l (tried (x.since + 1) no_cause x) (wrote (frame_of (deselect l.cid)) activation_time))
    (to closed l x unanswered)

abbrev pub is_deselect : Reading → Bool
is_deselect (valid (i_block c n a info)) = false
is_deselect (valid (r_block k n a)) = false
is_deselect (valid (deselect a)) = true
is_deselect (valid (wait m p a)) = false
is_deselect (invalid c) = false

-- what came after a frame: bytes or nothing
pub data Event : Type 0 where
  bytes : List ℕ → Event
  no_bytes : Event

abbrev pub read_as : ℕ → Agreed → Event → Reading
read_as limit agreed (bytes f) = read_frame limit agreed f
read_as limit agreed no_bytes = invalid silence

abbrev pub ats_in : ℕ → Event → AtsRead
ats_in fsd (bytes f) = hear_ats fsd f
ats_in fsd no_bytes = bad silence

abbrev pub open_in : ℕ → Event → Opened
open_in limit (bytes f) = open_frame limit f
open_in limit no_bytes = unopened silence

-- an event, by the stage; elsewhere nobody listens
abbrev pub hear : ReaderSettings → Stage → Reader → Event → Move
hear s unwoken r e = refuse stage_refused r
hear s asking r e = on_ats s r.link r.exchange (ats_in (size_of s.fsdi) e)
hear s woken r e = refuse stage_refused r
hear s (rating dsi dri) r e = on_pps s dsi dri r.link r.exchange (open_in (size_of s.fsdi) e)
hear s failed r e = refuse stage_refused r
hear s idle r e = refuse stage_refused r
hear s busy r e =
    on_reading s.repeats s.waits r.link r.exchange
    (read_as (size_of s.fsdi) (agreed_of r.link.cid) e)
hear s ended r e = refuse stage_refused r
hear s closing r e =
    on_deselect s r.link r.exchange (is_deselect (read_as (size_of s.fsdi) (agreed_of r.link.cid) e))
hear s closed r e = refuse stage_refused r

-- Which stage takes which call. Refusals come in the order setting, stage, buffer, length, rate.

abbrev pub stage_number : Stage → ℕ
stage_number unwoken = 0
stage_number asking = 1
stage_number woken = 2
stage_number (rating dsi dri) = 3
stage_number failed = 4
stage_number idle = 5
stage_number busy = 6
stage_number ended = 7
stage_number closing = 8
stage_number closed = 9

abbrev pub is_at : Stage → Reader → Bool
is_at s r = stage_number r.stage == stage_number s

-- a frame is out and its event is awaited
abbrev pub listens : Reader → Bool
listens r = or_else (is_at asking r) (or_else (is_at (rating 0 0) r) (or_else (is_at busy r) (is_at closing r)))

-- a card may be awake, and no exchange is open
abbrev pub may_close : Reader → Bool
may_close r = or_else (is_at woken r) (or_else (is_at failed r) (or_else (is_at idle r) (is_at ended r)))

-- the call is taken in its stage, with a buffer of at least this size; else 4, then 5
abbrev pub guarded : Bool → ℕ → ℕ → Reader → Move → Move
guarded in_stage room least r m =
    cond in_stage (cond (nat_lt room least) (refuse buffer_refused r) m) (refuse stage_refused r)

abbrev pub is_command : List ℕ → Bool
is_command c = both (nat_lt 0 (length c)) (nat_le (length c) longest_command)

-- what each call does once it is taken

abbrev pub asks : ReaderSettings → Reader → Move
asks s r =
    to asking r.link (tried 0 no_cause r.exchange) (wrote (seal (rats_of s.fsdi s.cid)) activation_time)

abbrev pub rates : ReaderSettings → Reader → ℕ → ℕ → Move
rates s r dsi dri =
    to (rating dsi dri) r.link (tried 0 no_cause r.exchange) (wrote (seal (pps_of s.cid dsi dri)) activation_time)

abbrev pub begins : Reader → List ℕ → Move
begins r command =
    let x = begun (room_of r.link.fsc r.link.cid) r.exchange.number command in
    writes r.link x (part_block r.link x)

abbrev pub stops : Reader → Move
stops r = to ended r.link r.exchange (stopped (says r) r.exchange.totals)

abbrev pub closes : Reader → Move
closes r =
    to closing r.link (tried 0 no_cause r.exchange) (wrote (frame_of (deselect r.link.cid)) activation_time)

-- every call
abbrev pub do_call : ReaderSettings → Reader → Call → Move
do_call s r (ask room) = guarded (is_at unwoken r) room greatest_frame r (asks s r)
do_call s r (rate dsi dri room) =
    cond (both (nat_le dsi greatest_rate) (nat_le dri greatest_rate))
    (guarded (is_at woken r) room greatest_frame r
    (cond (offered r.link.ta dsi dri) (rates s r dsi dri) (refuse rate_refused r))) (refuse setting_refused r)
do_call s r start = cond (is_at woken r) (to idle r.link r.exchange active) (refuse stage_refused r)
do_call s r (begin command room) =
    guarded (is_at idle r) room greatest_frame r
    (cond (is_command command) (begins r command) (refuse length_refused r))
do_call s r (heard f room) = guarded (listens r) room greatest_frame r (hear s r.stage r (bytes f))
do_call s r (silent room) = guarded (listens r) room greatest_frame r (hear s r.stage r no_bytes)
do_call s r give_up = cond (is_at busy r) (stops r) (refuse stage_refused r)
do_call s r (close room) = guarded (may_close r) room greatest_frame r (closes r)
do_call s r (fetch room) =
    guarded (not (is_at closed r)) room longest_answer r
    (record { reader = r; outcome = fetched r.exchange.answer })
