-- What holds at each stage of a session.
use Rattle.std.proofs.Common.{◌≡◌, ℕ, ◌*◌, ◌≤◌, Bool, true, false, not, List, [], ◌∷◌, refl, arith}
use Rattle.activation.specs.Ats.{ats_of}
use Rattle.activation.specs.Pps.{pps_answer, offered, greatest_rate}
use Rattle.frames.specs.Causes.{Cause}
use Rattle.frames.specs.Check.{seal}
use Rattle.protocol.specs.Card.{Card, asleep, awake, halted, Owed, owes_nothing, Sent, unsent, Reply, quiet, reply}
use Rattle.protocol.specs.Field.{Setup, World, world, moved}
use Rattle.protocol.specs.Reader.{Stage, unwoken, asking, woken, rating, failed, idle, busy, ended, closing, closed, Link, Exchange, at, tried, blank_link, blank_exchange, new_reader}
use Rattle.protocol.specs.Settings.{ats_for}
use Rattle.protocol.specs.Turns.{Log, log_of, no_frame, written_in, frames_of, tally, Turn}
use Rattle.protocol.proofs.Past.{Past}
use Rattle.protocol.proofs.Phases.{link_at, up, Count, BusyInv, in_phase}
use Rattle.protocol.proofs.Saying.{Told, told_phase, no_command_lem}

-- a frame may be there to hear
pub data Maybe (f : List ℕ) : Reply → Type 0 where
  there : Maybe f (reply f)
  gone : Maybe f quiet

abbrev pub past : {S : Type 0} → World S → List (List ℕ) → List (List ℕ) → Log → Past S
past w b g l = record { now = w; begun = b; given = g; log = l }

abbrev pub no_log : Log
no_log = log_of [] no_frame

module _ {S : Type 0} (u : Setup S) (s₀ : S) where
  -- a card as RATS left it, but for the window and the rates
  abbrev pub rested : Bool → ℕ → ℕ → Card
  rested win dsi dri = awake (up u s₀ win dsi dri true [] owes_nothing unsent)

  pub data UnwokenInv : Past S → Type 0 where
    at_start : UnwokenInv (past (world new_reader asleep s₀ quiet) [] [] no_log)

  -- the card sleeps, or it woke and its ATS may be there to hear
  pub data AskingInv : Past S → Type 0 where
    sleeps : (n : ℕ) (c : Cause) → AskingInv (past (world (at asking blank_link (tried n c blank_exchange)) asleep s₀ quiet) [] [] no_log)
    woke : (n : ℕ) (c : Cause) (win : Bool) {a : Reply} → Maybe (seal (ats_of (ats_for u.card))) a → AskingInv (past (world (at asking blank_link (tried n c blank_exchange)) (rested win 0 0) s₀ a) [] [] no_log)

  pub data WokenInv : Past S → Type 0 where
    is_woken : (win : Bool) → WokenInv (past (world (at woken (link_at u s₀ 0 0) blank_exchange) (rested win 0 0) s₀ quiet) [] [] no_log)

  -- the card has not taken the PPS, or it has and its response may be there to hear
  pub data RatingInv (dsi dri : ℕ) : Past S → Type 0 where
    as_before : (n : ℕ) (c : Cause) (win : Bool) → dsi ≤ greatest_rate → dri ≤ greatest_rate → offered u.card.ta dsi dri ≡ true → RatingInv dsi dri (past (world (at (rating dsi dri) (link_at u s₀ 0 0) (tried n c blank_exchange)) (rested win 0 0) s₀ quiet) [] [] no_log)
    changed : (n : ℕ) (c : Cause) {a : Reply} → Maybe (seal (pps_answer u.reader.cid)) a → RatingInv dsi dri (past (world (at (rating dsi dri) (link_at u s₀ 0 0) (tried n c blank_exchange)) (rested false dsi dri) s₀ a) [] [] no_log)

  -- a card that was woken by this reader, at these rates, or is off
  pub data Up (dsi dri : ℕ) : Card → Type 0 where
    stands : {win m : Bool} {g : List ℕ} {o : Owed} {l : Sent} → Up dsi dri (awake (up u s₀ win dsi dri m g o l))
    is_off : Up dsi dri halted

  -- waking failed before an ATS was heard, or after
  pub data FailedInv (st : Stage) : Past S → Type 0 where
    unheard_of : (n : ℕ) (c : Cause) {k : Card} {a : Reply} → FailedInv st (past (world (at st blank_link (tried n c blank_exchange)) k s₀ a) [] [] no_log)
    heard_of : (n : ℕ) (c : Cause) (dsi dri : ℕ) {k : Card} {a : Reply} → Up dsi dri k → FailedInv st (past (world (at st (link_at u s₀ 0 0) (tried n c blank_exchange)) k s₀ a) [] [] no_log)

  -- between exchanges the card is one block ahead
  pub data IdleInv : Past S → Type 0 where
    rests : {dsi dri : ℕ} {x : Exchange} {win m : Bool} {l : Sent} {given : List (List ℕ)} {log : Log} → x.number ≡ not m → IdleInv (past (world (at idle (link_at u s₀ dsi dri) x) (awake (up u s₀ win dsi dri m [] owes_nothing l)) (moved u.app s₀ given) quiet) given given log)

  pub data EndedInv : Past S → Type 0 where
    is_ended : {dsi dri : ℕ} {x : Exchange} {win m : Bool} {g : List ℕ} {o : Owed} {l : Sent} {begun given : List (List ℕ)} {log : Log} → EndedInv (past (world (at ended (link_at u s₀ dsi dri) x) (awake (up u s₀ win dsi dri m g o l)) (moved u.app s₀ given) quiet) begun given log)

  pub data ClosingInv : Past S → Type 0 where
    after_session : {dsi dri : ℕ} {x : Exchange} {k : Card} {a : Reply} {begun given : List (List ℕ)} {log : Log} → Up dsi dri k
        → Told u s₀ x begun given → ClosingInv (past (world (at closing (link_at u s₀ dsi dri) x) k (moved u.app s₀ given) a) begun given log)
    after_failure : {p : Past S} → FailedInv closing p → ClosingInv p

  pub data ClosedInv : Past S → Type 0 where
    is_closed : {l : Link} {x : Exchange} {k : Card} {a : Reply} {begun given : List (List ℕ)} {log : Log} → ClosedInv (past (world (at closed l x) k (moved u.app s₀ given) a) begun given log)

  abbrev pub InvAt : Stage → Past S → Type 0
  InvAt unwoken p = UnwokenInv p
  InvAt asking p = AskingInv p
  InvAt woken p = WokenInv p
  InvAt (rating dsi dri) p = RatingInv dsi dri p
  InvAt failed p = FailedInv failed p
  InvAt idle p = IdleInv p
  InvAt busy p = BusyInv u s₀ p
  InvAt ended p = EndedInv p
  InvAt closing p = ClosingInv p
  InvAt closed p = ClosedInv p

  -- the frames written keep within the limits
  pub record LogOk (log : Log) : Type 0 where
    pub repeats_few : (tally (written_in log)).repeats ≤ (tally (written_in log)).fresh * u.reader.repeats
    pub waits_few : (tally (written_in log)).waits ≤ u.reader.waits

  pub record Inv (p : Past S) : Type 0 where
    pub stage : InvAt p.now.reader.stage p
    pub told : Told u s₀ p.now.reader.exchange p.begun p.given
    pub log : LogOk p.log

  pub no_log_lem : LogOk no_log
  no_log_lem = record { repeats_few = omega arith; waits_few = omega arith }

  pub log_ok : (x : Exchange) (ts : List Turn) (f : List ℕ) (q : Bool) (begun : List (List ℕ)) (o : Log) → written_in o ≡ f ∷ frames_of ts → Count u s₀ x ts f q begun → LogOk o
  log_ok x ts f q begun o e C =
      record {
        repeats_few = rw (e, C.tallied) (let h = C.repeats_most in let k = C.since_most in omega arith);
        waits_few = rw (e, C.tallied) C.waits_most;
      }

  -- an open exchange has all of it
  pub busy_inv : (p : Past S) → BusyInv u s₀ p → Inv p
  busy_inv p (in_phase {x = x} {q = q} {ts = ts} {f = f} {begun = begun} ph C) =
      record { stage = in_phase ph C; told = told_phase u s₀ ph; log = log_ok x ts f q begun _ refl C }

  pub closing_all : {p : Past S} → ClosingInv p → LogOk p.log → Inv p
  closing_all (after_session a T) L = record { stage = after_session a T; told = T; log = L }
  closing_all (after_failure (unheard_of n c)) L =
      record { stage = after_failure (unheard_of n c); told = no_command_lem u s₀ _ refl refl; log = L }
  closing_all (after_failure (heard_of n c dsi dri a)) L =
      record { stage = after_failure (heard_of n c dsi dri a); told = no_command_lem u s₀ _ refl refl; log = L }
