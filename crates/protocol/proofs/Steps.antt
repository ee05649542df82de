-- Every step of a run keeps what holds.
use Rattle.std.proofs.Common.{◌≡◌, ℕ, ◌-◌, ◌≤◌, Bool, true, false, cond, not, eqb, ltb, leb, List, [], ◌∷◌, length, take, drop, sym, refl, ap, subst, arith, take-append-drop}
use Rattle.std.proofs.lemmas.List.{length-drop, take-append-drop}
use Rattle.std.proofs.lemmas.Bool.{false≢true, leb-true, ltb-true}
use Rattle.activation.specs.Pps.{offered, greatest_rate}
use Rattle.applications.specs.App.{Keeps, IsCommand, longest_answer}
use Rattle.frames.specs.Blocks.{i_block, frame_of}
use Rattle.frames.specs.Check.{both}
use Rattle.frames.specs.Refusals.{setting_refused, rate_refused, length_refused, stage_refused}
use Rattle.frames.specs.Sizes.{greatest_frame}
use Rattle.protocol.specs.Card.{quiet, Awake, awake, Reply, Owed, owes_nothing, Sent}
use Rattle.protocol.specs.Field.{arrives, Setup, world, Fate, Step, crosses, accepted, noted, CanCome, moved}
use Rattle.protocol.specs.Reader.{part_block, totalled, closes, stops, begins, rates, active, asks, Stage, unwoken, asking, woken, rating, failed, idle, busy, ended, closing, closed, stage_number, is_at, listens, may_close, or_else, guarded, is_command, Exchange, Call, ask, rate, start, begin, heard, silent, give_up, close, fetch, Event, bytes, no_bytes, Move, refuse, hear, at, to, begun, no_cause, tried, more}
use Rattle.protocol.specs.Turns.{counted, out_in, turn_of, log_of, out, Turn, blocks_for}
use Rattle.protocol.proofs.Arrival.{past_at}
use Rattle.protocol.proofs.Asleep.{rating_all, asking_all, asking_turn, rating_turn, rats_to_asleep, pps_to_rested}
use Rattle.protocol.proofs.Basics.{both_left, both_right, take_pos, take_few}
use Rattle.protocol.proofs.Closing.{closing_turn, closes_session, closes_heard, closes_unheard}
use Rattle.protocol.proofs.Exchanging.{turn_inv, blocks_less}
use Rattle.protocol.proofs.Ground.{Ground}
use Rattle.protocol.proofs.Hearing.{CanHear}
use Rattle.protocol.proofs.Invariant.{changed, woke, as_before, sleeps, log_ok, no_log_lem, past, InvAt, Inv, LogOk, UnwokenInv, at_start, AskingInv, WokenInv, is_woken, RatingInv, unheard_of, heard_of, IdleInv, rests, is_ended, after_failure, stands, busy_inv, closing_all}
use Rattle.protocol.proofs.Naming.{wait_i}
use Rattle.protocol.proofs.Onward.{past_by, part_goes}
use Rattle.protocol.proofs.Past.{Past, past_of, past_step, refused_same}
use Rattle.protocol.proofs.Phases.{answer_to, answering, ack_missed, waiting, part_taken, behind, link_at, up, cid, room_to, room_from, Phase, Count, BusyInv, in_phase}
use Rattle.protocol.proofs.Rests.{Laws}
use Rattle.protocol.proofs.Saying.{Told, told_phase, told_tried, no_command_lem}
use Rattle.protocol.proofs.Turning.{Turned, turns, again, spends, rewrites, leaves, advances, grants, tires, appends, completes}

-- a call that takes an event
pub data Takes : Call → Event → Type 0 where
  by_bytes : (f : List ℕ) (room : ℕ) → Takes (heard f room) (bytes f)
  by_silence : (room : ℕ) → Takes (silent room) no_bytes

pub cond_same : {A : Type 0} (b : Bool) (x : A) → cond b x x ≡ x
cond_same true x = refl
cond_same false x = refl

module _ {S : Type 0} (u : Setup S) where
  -- an event outside an exchange leaves the logs but for what is given
  pub event_past : {c : Call} {e : Event} → Takes c e → (p : Past S) (fate : Fate) (m : Move) → is_at busy p.now.reader ≡ false
      → past_of u p (record { call = c; fate = fate }) m ≡ past (crosses u p.now m.reader m.outcome fate).after p.begun (noted (crosses u p.now m.reader m.outcome fate).command p.given) p.log
  event_past (by_bytes f room) p fate m e =
      λ i. record {
        now = (crosses u p.now m.reader m.outcome fate).after;
        begun = cond_same (accepted m.outcome) p.begun i;
        given = noted (crosses u p.now m.reader m.outcome fate).command p.given;
        log = cond (both (e i) (accepted m.outcome)) (log_of (turn_of p.log.waiting p.now.answer (bytes f) p.log.turns) (out_in m.outcome fate)) p.log;
      }
  event_past (by_silence room) p fate m e =
      λ i. record {
        now = (crosses u p.now m.reader m.outcome fate).after;
        begun = cond_same (accepted m.outcome) p.begun i;
        given = noted (crosses u p.now m.reader m.outcome fate).command p.given;
        log = cond (both (e i) (accepted m.outcome)) (log_of (turn_of p.log.waiting p.now.answer no_bytes p.log.turns) (out_in m.outcome fate)) p.log;
      }

  -- an event of an exchange that is taken ends a turn
  pub turn_past : {c : Call} {e : Event} → Takes c e → (p : Past S) (fate : Fate) (m : Move) → is_at busy p.now.reader ≡ true → accepted m.outcome ≡ true
      → past_of u p (record { call = c; fate = fate }) m ≡ past_at p e m.outcome fate (crosses u p.now m.reader m.outcome fate)
  turn_past (by_bytes f room) p fate m e t =
      λ i. record {
        now = (crosses u p.now m.reader m.outcome fate).after;
        begun = cond_same (accepted m.outcome) p.begun i;
        given = noted (crosses u p.now m.reader m.outcome fate).command p.given;
        log = cond (both (e i) (t i)) (log_of (turn_of p.log.waiting p.now.answer (bytes f) p.log.turns) (out_in m.outcome fate)) p.log;
      }
  turn_past (by_silence room) p fate m e t =
      λ i. record {
        now = (crosses u p.now m.reader m.outcome fate).after;
        begun = cond_same (accepted m.outcome) p.begun i;
        given = noted (crosses u p.now m.reader m.outcome fate).command p.given;
        log = cond (both (e i) (t i)) (log_of (turn_of p.log.waiting p.now.answer no_bytes p.log.turns) (out_in m.outcome fate)) p.log;
      }

  -- no turn is refused
  pub turn_accepted : (s₀ : S) {dsi dri : ℕ} {ts : List Turn} {f : List ℕ} {x : Exchange} {w : Awake} {a : Reply} {fate : Fate} {q : Bool} {b g : List (List ℕ)} {e : Event} {m : Move} → Turned u s₀ dsi dri ts f x w a fate q b g e m → accepted m.outcome ≡ true
  turn_accepted s₀ (again ph c ng bad room) = refl
  turn_accepted s₀ (spends ph c ng bad room) = refl
  turn_accepted s₀ (rewrites cut ok lo hi room) = refl
  turn_accepted s₀ (leaves room) = refl
  turn_accepted s₀ (advances cut ok mr) = refl
  turn_accepted s₀ (grants ok nr lo one₁ top few room) = refl
  turn_accepted s₀ (tires nr lo few room) = refl
  turn_accepted s₀ (appends ahead ok nr cut mr) = refl
  turn_accepted s₀ (completes ahead ok cut mr) = refl

module _ {S : Type 0} (u : Setup S) (s₀ : S) where
  -- a call that its stage or its buffer may refuse
  pub guard : (p : Past S) (st : Step) → Inv u s₀ p → (in_stage : Bool) (room least : ℕ) (m : Move) → (in_stage ≡ true → Inv u s₀ (past_of u p st m)) → Inv u s₀ (past_of u p st (guarded in_stage room least p.now.reader m))
  guard p st i true room least m h = go (ltb room least)
    where
      go : (b : Bool) → Inv u s₀ (past_of u p st (cond b (refuse 5 p.now.reader) m))
      go true = subst (λ (v : Past S). Inv u s₀ v) (sym (refused_same u p st 5)) i
      go false = h refl
  guard p st i false room least m h = subst (λ (v : Past S). Inv u s₀ v) (sym (refused_same u p st 4)) i

  -- a test that may refuse
  pub guard_test : (p : Past S) (st : Step) → Inv u s₀ p → (b : Bool) (n : ℕ) (m : Move) → (b ≡ true → Inv u s₀ (past_of u p st m)) → Inv u s₀ (past_of u p st (cond b m (refuse n p.now.reader)))
  guard_test p st i true n m h = h refl
  guard_test p st i false n m h = subst (λ (v : Past S). Inv u s₀ v) (sym (refused_same u p st n)) i

  -- what holds at a stage, by the stage's number
  pub un_of : (st : Stage) (p : Past S) → InvAt u s₀ st p → eqb (stage_number st) 0 ≡ true → UnwokenInv u s₀ p
  un_of unwoken p i e = i
  un_of asking p i e = absurd (false≢true e)
  un_of woken p i e = absurd (false≢true e)
  un_of (rating a b) p i e = absurd (false≢true e)
  un_of failed p i e = absurd (false≢true e)
  un_of idle p i e = absurd (false≢true e)
  un_of busy p i e = absurd (false≢true e)
  un_of ended p i e = absurd (false≢true e)
  un_of closing p i e = absurd (false≢true e)
  un_of closed p i e = absurd (false≢true e)

  pub woken_of : (st : Stage) (p : Past S) → InvAt u s₀ st p → eqb (stage_number st) 2 ≡ true → WokenInv u s₀ p
  woken_of unwoken p i e = absurd (false≢true e)
  woken_of asking p i e = absurd (false≢true e)
  woken_of woken p i e = i
  woken_of (rating a b) p i e = absurd (false≢true e)
  woken_of failed p i e = absurd (false≢true e)
  woken_of idle p i e = absurd (false≢true e)
  woken_of busy p i e = absurd (false≢true e)
  woken_of ended p i e = absurd (false≢true e)
  woken_of closing p i e = absurd (false≢true e)
  woken_of closed p i e = absurd (false≢true e)

  pub idle_of : (st : Stage) (p : Past S) → InvAt u s₀ st p → eqb (stage_number st) 5 ≡ true → IdleInv u s₀ p
  idle_of unwoken p i e = absurd (false≢true e)
  idle_of asking p i e = absurd (false≢true e)
  idle_of woken p i e = absurd (false≢true e)
  idle_of (rating a b) p i e = absurd (false≢true e)
  idle_of failed p i e = absurd (false≢true e)
  idle_of idle p i e = i
  idle_of busy p i e = absurd (false≢true e)
  idle_of ended p i e = absurd (false≢true e)
  idle_of closing p i e = absurd (false≢true e)
  idle_of closed p i e = absurd (false≢true e)

  pub busy_of : (st : Stage) (p : Past S) → InvAt u s₀ st p → eqb (stage_number st) 6 ≡ true → BusyInv u s₀ p
  busy_of unwoken p i e = absurd (false≢true e)
  busy_of asking p i e = absurd (false≢true e)
  busy_of woken p i e = absurd (false≢true e)
  busy_of (rating a b) p i e = absurd (false≢true e)
  busy_of failed p i e = absurd (false≢true e)
  busy_of idle p i e = absurd (false≢true e)
  busy_of busy p i e = i
  busy_of ended p i e = absurd (false≢true e)
  busy_of closing p i e = absurd (false≢true e)
  busy_of closed p i e = absurd (false≢true e)

-- a card of a session is awake
pub data IsUp {S : Type 0} (u : Setup S) (s₀ : S) (dsi dri : ℕ) : Awake → Type 0 where
  is_up : {win m : Bool} {g : List ℕ} {o : Owed} {l : Sent} → IsUp u s₀ dsi dri (up u s₀ win dsi dri m g o l)

pub up_of : {S : Type 0} (u : Setup S) (s₀ : S) {dsi dri : ℕ} {x : Exchange} {w : Awake} {a : Reply} {fate : Fate} {q : Bool} {bad : ℕ} {b g : List (List ℕ)} → Phase u s₀ dsi dri x w a fate q bad b g → IsUp u s₀ dsi dri w
up_of u s₀ (behind cut ok lo hi b) = is_up
up_of u s₀ (part_taken cut ok mr ec) = is_up
up_of u s₀ (waiting ok nr lo one₁ top few ec) = is_up
up_of u s₀ (answering ahead ok nr cut pos ec) = is_up
up_of u s₀ (ack_missed ok nr cut pos ma m) = is_up

module _ (laws : Laws) {S : Type 0} (u : Setup S) (s₀ : S) (G : Ground u.reader u.card) (keeps : Keeps u.app) where
  -- ask, from a reader that has asked nothing
  ask_ok : {p : Past S} → UnwokenInv u s₀ p → (room : ℕ) (fate : Fate) → Inv u s₀ (past_of u p (record { call = ask room; fate = fate }) (asks u.reader p.now.reader))
  ask_ok at_start room fate = asking_all laws u s₀ G (rats_to_asleep laws u s₀ G 0 no_cause fate)

  -- start, from a woken card
  start_ok : {p : Past S} → WokenInv u s₀ p → (fate : Fate) → Inv u s₀ (past_of u p (record { call = start; fate = fate }) (to idle p.now.reader.link p.now.reader.exchange active))
  start_ok (is_woken win) fate = record { stage = rests refl; told = no_command_lem u s₀ _ refl refl; log = no_log_lem u s₀ }

  -- rate, from a woken card
  rate_ok : {p : Past S} → WokenInv u s₀ p → (dsi dri room : ℕ) (fate : Fate) → dsi ≤ greatest_rate → dri ≤ greatest_rate → offered p.now.reader.link.ta dsi dri ≡ true → Inv u s₀ (past_of u p (record { call = rate dsi dri room; fate = fate }) (rates u.reader p.now.reader dsi dri))
  rate_ok (is_woken win) dsi dri room fate lo hi ok = rating_all laws u s₀ G (pps_to_rested laws u s₀ G dsi dri 0 no_cause win lo hi ok fate)

  -- the counts of an exchange that begins
  begin_count : (m : Bool) (c : List ℕ) (cs : List (List ℕ)) → IsCommand c → Count u s₀ (begun (room_to u s₀) (not m) c) [] (frame_of (i_block (more (drop (room_to u s₀) c)) (not m) (cid u s₀) (take (room_to u s₀) c))) false (c ∷ cs)
  begin_count m c cs ok =
      record {
        tallied = ap (λ b. counted b true (totalled 0 0 0)) (wait_i laws (more (drop (room_to u s₀) c)) (not m) (cid u s₀) (take (room_to u s₀) c));
        fresh_is = refl;
        since_most = omega arith;
        repeats_most = omega arith;
        since_bad = omega arith;
        waits_most = omega arith;
        blocks_left =
            let b = blocks_less (room_to u s₀) (length c) (G.fitting.room_pos _ G.fsc_least) ok.0 in
            let e : blocks_for (room_to u s₀) (length (drop (room_to u s₀) c)) ≡ blocks_for (room_to u s₀) (length c - room_to u s₀) = ap (blocks_for (room_to u s₀)) (length-drop (room_to u s₀) c) in
            let d : blocks_for (room_from u s₀) (length (answer_to u s₀ c cs) - 0) ≡ blocks_for (room_from u s₀) (length (answer_to u s₀ c cs)) = ap (blocks_for (room_from u s₀)) (omega arith) in
            omega arith;
      }

  -- begin, from an idle session
  begin_ok : {p : Past S} → IdleInv u s₀ p → (c : List ℕ) (room : ℕ) (fate : Fate) → IsCommand c → Inv u s₀ (past_of u p (record { call = begin c room; fate = fate }) (begins p.now.reader c))
  begin_ok (rests {dsi} {dri} {x} {win} {m} {l} {given} {log} e) c room fate ok =
      subst (λ (n : Bool). Inv u s₀ (past_by (c ∷ given) given [] (frame_of (part_block (link_at u s₀ dsi dri) (begun (room_to u s₀) n c))) fate (arrives u (at busy (link_at u s₀ dsi dri) (begun (room_to u s₀) n c)) (awake (up u s₀ win dsi dri m [] owes_nothing l)) (moved u.app s₀ given) (frame_of (part_block (link_at u s₀ dsi dri) (begun (room_to u s₀) n c))) fate))) (sym e)
      (busy_inv u s₀ _
      (part_goes laws u s₀ G keeps dsi dri win m [] (take (room_to u s₀) c) (drop (room_to u s₀) c) l 1 0 0 0 no_cause c given []
      (take-append-drop (room_to u s₀) c) ok (take_pos (room_to u s₀) c (G.fitting.room_pos _ G.fsc_least) ok.0) (take_few (room_to u s₀) c)
      (begin_count m c given ok) fate))

  -- give up, from an open exchange
  stop_ok : {p : Past S} → BusyInv u s₀ p → (fate : Fate) → Inv u s₀ (past_of u p (record { call = give_up; fate = fate }) (stops p.now.reader))
  stop_ok (in_phase {dsi} {dri} {x} {w} {a} {fate = f₁} {q} {ts} {f} {begun = b} {given = g} ph C) fate = go (up_of u s₀ ph)
    where
      go : {w : Awake} → IsUp u s₀ dsi dri w → Inv u s₀ (past (world (at ended (link_at u s₀ dsi dri) x) (awake w) (moved u.app s₀ g) quiet) b g (log_of ts (out f f₁)))
      go is_up = record { stage = is_ended; told = told_phase u s₀ ph; log = log_ok u s₀ x ts f q b (log_of ts (out f f₁)) refl C }

  -- close, from each stage that takes it
  close_ok : (st : Stage) (p : Past S) → InvAt u s₀ st p → Told u s₀ p.now.reader.exchange p.begun p.given → LogOk u s₀ p.log
      → or_else (eqb (stage_number st) 2) (or_else (eqb (stage_number st) 4) (or_else (eqb (stage_number st) 5) (eqb (stage_number st) 7))) ≡ true
      → (room : ℕ) (fate : Fate) → Inv u s₀ (past_of u p (record { call = close room; fate = fate }) (closes p.now.reader))
  close_ok unwoken p i T L e room fate = absurd (false≢true e)
  close_ok asking p i T L e room fate = absurd (false≢true e)
  close_ok woken p (is_woken win) T L e room fate = closing_all u s₀ (after_failure (closes_heard laws u s₀ G 0 no_cause 0 0 _ stands fate)) L
  close_ok (rating a b) p i T L e room fate = absurd (false≢true e)
  close_ok failed p (unheard_of n c {k}) T L e room fate = closing_all u s₀ (after_failure (closes_unheard laws u s₀ G 0 no_cause k fate)) L
  close_ok failed p (heard_of n c dsi dri {k} up₁) T L e room fate = closing_all u s₀ (after_failure (closes_heard laws u s₀ G 0 no_cause dsi dri k up₁ fate)) L
  close_ok idle p (rests {dsi} {dri} {x} {given = g} {log} n) T L e room fate = closing_all u s₀ (closes_session laws u s₀ G dsi dri (tried 0 no_cause x) _ g g log stands (told_tried u s₀ 0 no_cause T) fate) L
  close_ok busy p i T L e room fate = absurd (false≢true e)
  close_ok ended p (is_ended {dsi} {dri} {x} {begun = b} {given = g} {log}) T L e room fate = closing_all u s₀ (closes_session laws u s₀ G dsi dri (tried 0 no_cause x) _ b g log stands (told_tried u s₀ 0 no_cause T) fate) L
  close_ok closing p i T L e room fate = absurd (false≢true e)
  close_ok closed p i T L e room fate = absurd (false≢true e)

  -- an event of an open exchange
  busy_ok : {p : Past S} {c : Call} {e : Event} → BusyInv u s₀ p → Takes c e → CanHear p.now.answer e → (fate : Fate) → Inv u s₀ (past_of u p (record { call = c; fate = fate }) (hear u.reader busy p.now.reader e))
  busy_ok {p} {e = e} (in_phase {dsi} {dri} {x} {w} {a} {fate = f₁} {q} {ts} {f} {begun = b} {given = g} ph C) t can fate =
      let tu = turns u s₀ laws G keeps dsi dri ts f ph e can in
      subst (λ (v : Past S). Inv u s₀ v) (sym (turn_past u t p fate _ refl (turn_accepted u s₀ tu)))
      (turn_inv laws u s₀ G keeps dsi dri ts f tu C (told_phase u s₀ ph) fate)

  asking_ok : {p : Past S} {c : Call} {e : Event} → AskingInv u s₀ p → Takes c e → CanHear p.now.answer e → (fate : Fate) → Inv u s₀ (past_of u p (record { call = c; fate = fate }) (hear u.reader asking p.now.reader e))
  asking_ok {p} {e = e} (sleeps n c) t can fate = subst (λ (v : Past S). Inv u s₀ v) (sym (event_past u t p fate _ refl)) (asking_turn laws u s₀ G (sleeps n c) e can fate)
  asking_ok {p} {e = e} (woke n c win m) t can fate = subst (λ (v : Past S). Inv u s₀ v) (sym (event_past u t p fate _ refl)) (asking_turn laws u s₀ G (woke n c win m) e can fate)

  rating-ok : {dsi dri : ℕ} {p : Past S} {c : Call} {e : Event} → RatingInv u s₀ dsi dri p → Takes c e → CanHear p.now.answer e → (fate : Fate) → Inv u s₀ (past_of u p (record { call = c; fate = fate }) (hear u.reader (rating dsi dri) p.now.reader e))
  rating-ok {p = p} {e = e} (as_before n c win lo hi ok) t can fate = subst (λ (v : Past S). Inv u s₀ v) (sym (event_past u t p fate _ refl)) (rating_turn laws u s₀ G (as_before n c win lo hi ok) e can fate)
  rating-ok {p = p} {e = e} (changed n c m) t can fate = subst (λ (v : Past S). Inv u s₀ v) (sym (event_past u t p fate _ refl)) (rating_turn laws u s₀ G (changed n c m) e can fate)

  -- an event at every stage
  hear_ok : (st : Stage) (p : Past S) {c : Call} {e : Event} → p.now.reader.stage ≡ st → InvAt u s₀ st p → Inv u s₀ p → Takes c e → CanHear p.now.answer e → (fate : Fate) → Inv u s₀ (past_of u p (record { call = c; fate = fate }) (hear u.reader st p.now.reader e))
  hear_ok unwoken p q i I t can fate = subst (λ (v : Past S). Inv u s₀ v) (sym (refused_same u p _ 4)) I
  hear_ok asking p q i I t can fate = asking_ok i t can fate
  hear_ok woken p q i I t can fate = subst (λ (v : Past S). Inv u s₀ v) (sym (refused_same u p _ 4)) I
  hear_ok (rating dsi dri) p q i I t can fate = rating-ok i t can fate
  hear_ok failed p q i I t can fate = subst (λ (v : Past S). Inv u s₀ v) (sym (refused_same u p _ 4)) I
  hear_ok idle p q i I t can fate = subst (λ (v : Past S). Inv u s₀ v) (sym (refused_same u p _ 4)) I
  hear_ok busy p q i I t can fate = busy_ok i t can fate
  hear_ok ended p q i I t can fate = subst (λ (v : Past S). Inv u s₀ v) (sym (refused_same u p _ 4)) I
  hear_ok closing p q i I t can fate = subst (λ (v : Past S). Inv u s₀ v) (sym (event_past u t p fate _ (ap (λ (k : Stage). eqb (stage_number k) 6) q))) (closing_turn laws u s₀ G i I.log _ fate)
  hear_ok closed p q i I t can fate = subst (λ (v : Past S). Inv u s₀ v) (sym (refused_same u p _ 4)) I

  -- every step
  pub step_inv : (p : Past S) → Inv u s₀ p → (st : Step) → CanCome p.now st.call → Inv u s₀ (past_step u p st)
  step_inv p I st can = go st.call st.fate can
    where
      go : (c : Call) (fate : Fate) → CanCome p.now c → Inv u s₀ (past_step u p (record { call = c; fate = fate }))
      go (ask room) fate h = guard u s₀ p (record { call = ask room; fate = fate }) I (is_at unwoken p.now.reader) room greatest_frame _ (λ e. ask_ok (un_of u s₀ _ p I.stage e) room fate)
      go (rate dsi dri room) fate h =
          guard_test u s₀ p (record { call = rate dsi dri room; fate = fate }) I (both (leb dsi greatest_rate) (leb dri greatest_rate)) setting_refused _
          (λ e.
          guard u s₀ p (record { call = rate dsi dri room; fate = fate }) I (is_at woken p.now.reader) room greatest_frame _
          (λ w.
          guard_test u s₀ p (record { call = rate dsi dri room; fate = fate }) I (offered p.now.reader.link.ta dsi dri) rate_refused _
          (λ o. rate_ok (woken_of u s₀ _ p I.stage w) dsi dri room fate (leb-true _ _ (both_left _ _ e)) (leb-true _ _ (both_right (leb dsi greatest_rate) _ e)) o)))
      go start fate h = guard_test u s₀ p (record { call = start; fate = fate }) I (is_at woken p.now.reader) stage_refused _ (λ e. start_ok (woken_of u s₀ _ p I.stage e) fate)
      go (begin c room) fate h =
          guard u s₀ p (record { call = begin c room; fate = fate }) I (is_at idle p.now.reader) room greatest_frame _
          (λ e.
          guard_test u s₀ p (record { call = begin c room; fate = fate }) I (is_command c) length_refused _
          (λ k. begin_ok (idle_of u s₀ _ p I.stage e) c room fate (ltb-true _ _ (both_left _ _ k), leb-true _ _ (both_right (ltb 0 (length c)) _ k))))
      go (heard f room) fate h = guard u s₀ p (record { call = heard f room; fate = fate }) I (listens p.now.reader) room greatest_frame _ (λ e. hear_ok p.now.reader.stage p refl I.stage I (by_bytes f room) h fate)
      go (silent room) fate h = guard u s₀ p (record { call = silent room; fate = fate }) I (listens p.now.reader) room greatest_frame _ (λ e. hear_ok p.now.reader.stage p refl I.stage I (by_silence room) tt fate)
      go give_up fate h = guard_test u s₀ p (record { call = give_up; fate = fate }) I (is_at busy p.now.reader) stage_refused _ (λ e. stop_ok (busy_of u s₀ _ p I.stage e) fate)
      go (close room) fate h = guard u s₀ p (record { call = close room; fate = fate }) I (may_close p.now.reader) room greatest_frame _ (λ e. close_ok _ p I.stage I.told I.log e room fate)
      go (fetch room) fate h = guard u s₀ p (record { call = fetch room; fate = fate }) I (not (is_at closed p.now.reader)) room longest_answer _ (λ e. I)
