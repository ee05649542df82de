-- A run's world with its logs as one value that each step moves.
use Rattle.std.proofs.Common.{◌≡◌, ℕ, Bool, cond, List, ◌∷◌, refl}
use Rattle.protocol.specs.Card.{Reply}
use Rattle.protocol.specs.Field.{Setup, World, Fate, Step, Crossing, crosses, accepted, noted, command_in, after, begun_in, given_in}
use Rattle.protocol.specs.Reader.{Call, ask, rate, start, begin, heard, silent, give_up, close, fetch, Outcome, refused, Move, refuse, do_call, is_at, busy}
use Rattle.protocol.specs.Turns.{Log, logged, log_in}
use Rattle.protocol.proofs.Basics.{both_false}

pub record Past (S : Type 0) : Type 0 where
  pub now : World S
  pub begun : List (List ℕ)
  pub given : List (List ℕ)
  pub log : Log

log-refused : (e : Bool) (c : Call) (n : ℕ) (fate : Fate) (r : Reply) (log : Log) → logged e c (refused n) fate r log ≡ log
log-refused e (ask room) n fate r log = refl
log-refused e (rate dsi dri room) n fate r log = refl
log-refused e start n fate r log = refl
log-refused e (begin c room) n fate r log = refl
log-refused e (heard f room) n fate r log = rw (both_false e)
log-refused e (silent room) n fate r log = rw (both_false e)
log-refused e give_up n fate r log = refl
log-refused e (close room) n fate r log = refl
log-refused e (fetch room) n fate r log = refl

module _ {S : Type 0} where
  abbrev pub past_over : Past S → Call → Fate → Outcome → Crossing S → Past S
  past_over p c fate o x =
      record {
        now = x.after;
        begun = cond (accepted o) (noted (command_in c) p.begun) p.begun;
        given = noted x.command p.given;
        log = logged (is_at busy p.now.reader) c o fate p.now.answer p.log;
      }

  abbrev pub past_of : Setup S → Past S → Step → Move → Past S
  past_of u p st m =
      past_over p st.call st.fate m.outcome (crosses u p.now m.reader m.outcome st.fate)

  -- the past after one more step
  abbrev pub past_step : Setup S → Past S → Step → Past S
  past_step u p st = past_of u p st (do_call u.reader p.now.reader st.call)

  abbrev pub past_in : Setup S → S → List Step → Past S
  past_in u s run =
      record { now = after u s run; begun = begun_in u s run; given = given_in u s run; log = log_in u s run }

  pub past_step_lem : (u : Setup S) (s : S) (st : Step) (run : List Step) → past_in u s (st ∷ run) ≡ past_step u (past_in u s run) st
  past_step_lem u s st run = refl

  -- a refused call leaves the past as it was
  pub refused_same : (u : Setup S) (p : Past S) (st : Step) (n : ℕ) → past_of u p st (refuse n p.now.reader) ≡ p
  refused_same u p st n =
      λ i. record {
        now = p.now;
        begun = p.begun;
        given = p.given;
        log = log-refused (is_at busy p.now.reader) st.call n st.fate p.now.answer p.log i;
      }
