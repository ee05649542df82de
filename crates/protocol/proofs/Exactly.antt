-- The reader is in doubt exactly where its view leaves it open.
use Rattle.std.proofs.Common.{◌≡◌, ℕ, suc, ◌+◌, Bool, true, false, cond, not, eqb, ltb, leb, ◌⊎◌, List, [], ◌∷◌, length, take, drop, sym, refl, ap, ◌∙◌, subst, inl, inr, ⊎_elim, arith}
use Rattle.std.proofs.lemmas.List.{length-take}
use Rattle.std.proofs.lemmas.Bool.{false≢true, leb-true, ltb-true}
use Rattle.activation.specs.Ats.{AtsRead, good, bad}
use Rattle.activation.specs.Pps.{offered, greatest_rate}
use Rattle.applications.specs.App.{Keeps, IsCommand, longest_answer}
use Rattle.frames.specs.Blocks.{i_block, frame_of, deselect}
use Rattle.frames.specs.Causes.{Cause}
use Rattle.frames.specs.Check.{both, Opened, opened, unopened}
use Rattle.frames.specs.Refusals.{setting_refused, rate_refused, length_refused, stage_refused}
use Rattle.frames.specs.Sizes.{size_of, greatest_frame}
use Rattle.protocol.specs.Card.{Card, awake, Reply, quiet, Given, not_given, given, owes_nothing}
use Rattle.protocol.specs.Field.{world, Setup, World, crosses, arrives, Fate, whole, lost, Step, after, accepted, move_of, command_in, CanCome, IsRun, moved, noted, seen_of}
use Rattle.protocol.specs.Reader.{unanswered, or_else, wrote, activation_time, Reader, Stage, unwoken, asking, woken, rating, failed, idle, busy, ended, closing, closed, stage_number, at, to, Link, Exchange, Call, ask, rate, start, begin, heard, silent, give_up, close, fetch, Event, bytes, no_bytes, fetched, active, Move, refuse, guarded, do_call, hear, is_at, listens, may_close, is_command, asks, rates, begins, stops, closes, begun, more, says, say_of, doubt, none, on_ats, on_pps, on_pps_answer, on_deselect, ats_in, open_in, tried, no_cause}
use Rattle.protocol.specs.Turns.{Log}
use Rattle.protocol.proofs.Basics.{both_left, both_right, take_pos, take_few, eqb_self}
use Rattle.protocol.proofs.Doubt.{given_of, is_halted, Twin, Twins, suc_apart, truth_kept, guarded_taken, test_taken, extend, extend_lost, extend_refused, opens, part_given, byes, bye_answer, bye_halted, alike_along}
use Rattle.protocol.proofs.Doubting.{After, stays, opens_now, turn_doubt, turn_elsewhere}
use Rattle.protocol.proofs.Ground.{Ground}
use Rattle.protocol.proofs.Hearing.{CanHear, NoGood}
use Rattle.protocol.proofs.Invariant.{Inv, InvAt, UnwokenInv, at_start, AskingInv, sleeps, woke, WokenInv, is_woken, RatingInv, as_before, changed, unheard_of, heard_of, IdleInv, rests, is_ended, ClosingInv, after_session, after_failure, Up, stands}
use Rattle.protocol.proofs.Past.{Past, past_of, past_step, past_in}
use Rattle.protocol.proofs.Phases.{in_phase, BusyInv, link_at, up, cid, room_to}
use Rattle.protocol.proofs.Rests.{Laws}
use Rattle.protocol.proofs.Runs.{run_inv}
use Rattle.protocol.proofs.Saying.{none-doubt, doubt_parts, say_tried}
use Rattle.protocol.proofs.Steps.{Takes, by_bytes, by_silence, un_of, woken_of, idle_of, busy_of}
use Rattle.protocol.proofs.Turning.{turns}
use Rattle.protocol.proofs.Views.{kept_call, same_reader, crosses-reader, listens_at}

either_says : (b : Bool) (m n : Move) → says m.reader ≡ none → says n.reader ≡ none → says (cond b m n).reader ≡ none
either_says true m n h k = h
either_says false m n h k = k

module _ (laws : Laws) {S : Type 0} (u : Setup S) (s₀ : S) (G : Ground u.reader u.card) (keeps : Keeps u.app) where
  -- before any command nothing is in doubt

  ask_none : {p : Past S} → UnwokenInv u s₀ p → says (asks u.reader p.now.reader).reader ≡ none
  ask_none at_start = refl

  rate_none : {p : Past S} (dsi dri : ℕ) → WokenInv u s₀ p → says (rates u.reader p.now.reader dsi dri).reader ≡ none
  rate_none dsi dri (is_woken win) = refl

  start_none : {p : Past S} → WokenInv u s₀ p → says (to idle p.now.reader.link p.now.reader.exchange active).reader ≡ none
  start_none (is_woken win) = refl

  asking_none : {p : Past S} → AskingInv u s₀ p → (r : AtsRead) → says (on_ats u.reader p.now.reader.link p.now.reader.exchange r).reader ≡ none
  asking_none (sleeps n c) (good a) = refl
  asking_none (woke n c win m) (good a) = refl
  asking_none (sleeps n c) (bad y) = either_says (ltb n u.reader.repeats) _ _ refl refl
  asking_none (woke n c win m) (bad y) = either_says (ltb n u.reader.repeats) _ _ refl refl

  answer_none : {dsi dri : ℕ} {p : Past S} → RatingInv u s₀ dsi dri p → (b : Bool) (y : Cause) → says (on_pps_answer u.reader dsi dri p.now.reader.link p.now.reader.exchange b y).reader ≡ none
  answer_none (as_before n c win lo hi ok) true y = refl
  answer_none (changed n c m) true y = refl
  answer_none (as_before n c win lo hi ok) false y = either_says (ltb n u.reader.repeats) _ _ refl refl
  answer_none (changed n c m) false y = either_says (ltb n u.reader.repeats) _ _ refl refl

  rating_none : {dsi dri : ℕ} {p : Past S} → RatingInv u s₀ dsi dri p → (o : Opened) → says (on_pps u.reader dsi dri p.now.reader.link p.now.reader.exchange o).reader ≡ none
  rating_none i (opened b) = answer_none i _ _
  rating_none i (unopened c) = answer_none i false c

  -- a command that begins with its last part opens the doubt
  begin_truth : {p : Past S} → IdleInv u s₀ p → (c : List ℕ) (room : ℕ) → IsCommand c → says (begins p.now.reader c).reader ≡ doubt
      → (given_of (past_of u p (record { call = begin c room; fate = lost }) (begins p.now.reader c)) ≡ false)
      × (given_of (past_of u p (record { call = begin c room; fate = whole }) (begins p.now.reader c)) ≡ true)
  begin_truth (rests {dsi} {dri} {x} {win} {m} {l} {given = g} {log} e) c room ok d = (
    suc_apart (length g),
    ap (λ (v : Given). eqb (suc (length g)) (length (noted v g)))
        (subst (λ (n : Bool). (arrives u (at busy (link_at u s₀ dsi dri) (begun (room_to u s₀) n c)) (awake (up u s₀ win dsi dri m [] owes_nothing l)) (moved u.app s₀ g) (frame_of (i_block (more (drop (room_to u s₀) c)) n (cid u s₀) (take (room_to u s₀) c))) whole).command ≡ given (take (room_to u s₀) c)) (sym e)
        (part_given laws u s₀ G (begun (room_to u s₀) (not m) c) win dsi dri m [] (take (room_to u s₀) c) (drop (room_to u s₀) c) l (moved u.app s₀ g)
        (take_pos (room_to u s₀) c (G.fitting.room_pos _ G.fsc_least) ok.0) (take_few (room_to u s₀) c) (let t = length-take (room_to u s₀) c in let h = ok.1 in omega arith) (doubt_parts (more (drop (room_to u s₀) c)) false false d).0))
        ∙ eqb_self (suc (length g)),
  )

  -- what close and its repeats do to cards that stand alike
  pub record Byes (p : Past S) (m : Move) : Type 0 where
    pub gives_none : (fate : Fate) → (crosses u p.now m.reader m.outcome fate).command ≡ not_given
    pub answers : is_at closing m.reader ≡ true → (fate : Fate) → (crosses u p.now m.reader m.outcome fate).after.answer ≡ bye_answer laws u s₀ G (is_halted p.now.card) fate
    pub halts : is_at closing m.reader ≡ true → (fate : Fate) → is_halted (crosses u p.now m.reader m.outcome fate).after.card ≡ bye_halted laws u s₀ G (is_halted p.now.card) fate

  byes_of : (dsi dri : ℕ) (x : Exchange) (k : Card) (s : S) (a : Reply) (b g : List (List ℕ)) (log : Log) (r : Reader) → Up u s₀ dsi dri k → Byes (record { now = world r k s a; begun = b; given = g; log = log }) (to closing (link_at u s₀ dsi dri) x (wrote (frame_of (deselect (cid u s₀))) activation_time))
  byes_of dsi dri x k s a b g log r up₁ =
      record {
        gives_none = λ fate. (byes laws u s₀ G dsi dri x k s up₁ fate).gives_none;
        answers = λ h fate. (byes laws u s₀ G dsi dri x k s up₁ fate).answer_is;
        halts = λ h fate. (byes laws u s₀ G dsi dri x k s up₁ fate).halted_is;
      }

  -- a session's close
  close_byes : (st : Stage) (p : Past S) → InvAt u s₀ st p → or_else (eqb (stage_number st) 5) (eqb (stage_number st) 7) ≡ true → Byes p (closes p.now.reader) × (is_halted p.now.card ≡ false)
  close_byes unwoken p i h = absurd (false≢true h)
  close_byes asking p i h = absurd (false≢true h)
  close_byes woken p i h = absurd (false≢true h)
  close_byes (rating a b) p i h = absurd (false≢true h)
  close_byes failed p i h = absurd (false≢true h)
  close_byes idle p (rests {dsi} {dri} {x} {given = g} {log} e) h = (byes_of dsi dri (tried 0 no_cause x) _ (moved u.app s₀ g) quiet g g log _ stands, refl)
  close_byes busy p i h = absurd (false≢true h)
  close_byes ended p (is_ended {dsi} {dri} {x} {begun = b} {given = g} {log}) h = (byes_of dsi dri (tried 0 no_cause x) _ (moved u.app s₀ g) quiet b g log _ stands, refl)
  close_byes closing p i h = absurd (false≢true h)
  close_byes closed p i h = absurd (false≢true h)

  -- its repeats
  closing_byes : {p : Past S} → ClosingInv u s₀ p → (b : Bool) → says p.now.reader ≡ doubt → Byes p (on_deselect u.reader p.now.reader.link p.now.reader.exchange b)
  closing_byes (after_session a T) true d = record { gives_none = λ fate. refl; answers = λ h. absurd (false≢true h); halts = λ h. absurd (false≢true h) }
  closing_byes (after_session {dsi} {dri} {x} {k} {a} {begun = b} {given = g} {log} up₁ T) false d = go (ltb x.since u.reader.repeats)
    where
      go : (t : Bool) → Byes (record { now = world (at closing (link_at u s₀ dsi dri) x) k (moved u.app s₀ g) a; begun = b; given = g; log = log }) (cond t (to closing (link_at u s₀ dsi dri) (tried (x.since + 1) no_cause x) (wrote (frame_of (deselect (cid u s₀))) activation_time)) (to closed (link_at u s₀ dsi dri) x unanswered))
      go true = byes_of dsi dri (tried (x.since + 1) no_cause x) k (moved u.app s₀ g) a b g log _ up₁
      go false = record { gives_none = λ fate. refl; answers = λ h. absurd (false≢true h); halts = λ h. absurd (false≢true h) }
  closing_byes (after_failure (unheard_of n c)) b d = absurd (none-doubt d)
  closing_byes (after_failure (heard_of n c dsi dri k)) b d = absurd (none-doubt d)

  -- a twin goes on through close and its repeats
  extend_bye : {run : List Step} {truth : Bool} (st : Step) (T : Twin u s₀ run truth)
      → CanCome (after u s₀ T.other) st.call
      → command_in st.call ≡ not_given
      → Byes (past_in u s₀ run) (move_of u (after u s₀ run) st.call)
      → Byes (past_in u s₀ T.other) (move_of u (after u s₀ T.other) st.call)
      → is_halted (after u s₀ run).card ≡ is_halted (after u s₀ T.other).card
      → Twin u s₀ (st ∷ run) truth
  extend_bye {run} st T can nb B B' halted-same =
      let r = same_reader u s₀ run T.other T.view in
      extend laws u s₀ st T st.call st.fate can
      (ap (λ (k : Reader). seen_of st.call (do_call u.reader k st.call).outcome) r)
      (truth_kept u (past_in u s₀ T.other) st nb (B'.gives_none st.fate))
      (λ h.
      let c : is_at closing (move_of u (after u s₀ run) st.call).reader ≡ true = sym (ap (is_at closing) (crosses-reader u (after u s₀ run) (move_of u (after u s₀ run) st.call).reader (move_of u (after u s₀ run) st.call).outcome st.fate)) ∙ h in
      let c' : is_at closing (move_of u (after u s₀ T.other) st.call).reader ≡ true = ap (λ (k : Reader). is_at closing (do_call u.reader k st.call).reader) r ∙ c in (
        B.answers c st.fate ∙ (ap (λ b. bye_answer laws u s₀ G b st.fate) halted-same ∙ sym (B'.answers c' st.fate)),
        B.halts c st.fate ∙ (ap (λ b. bye_halted laws u s₀ G b st.fate) halted-same ∙ sym (B'.halts c' st.fate)),
      ))

  closing_of : (st : Stage) (p : Past S) → InvAt u s₀ st p → eqb (stage_number st) 8 ≡ true → ClosingInv u s₀ p
  closing_of unwoken p i h = absurd (false≢true h)
  closing_of asking p i h = absurd (false≢true h)
  closing_of woken p i h = absurd (false≢true h)
  closing_of (rating a b) p i h = absurd (false≢true h)
  closing_of failed p i h = absurd (false≢true h)
  closing_of idle p i h = absurd (false≢true h)
  closing_of busy p i h = absurd (false≢true h)
  closing_of ended p i h = absurd (false≢true h)
  closing_of closing p i h = i
  closing_of closed p i h = absurd (false≢true h)

  -- an event after which there is doubt came in an exchange or while closing
  where_doubt : (st : Stage) (p : Past S) (e : Event) → InvAt u s₀ st p → listens_at u.reader st ≡ true → says (hear u.reader st p.now.reader e).reader ≡ doubt → (st ≡ busy) ⊎ (st ≡ closing)
  where_doubt unwoken p e i h d = absurd (false≢true h)
  where_doubt asking p e i h d = absurd (none-doubt (sym (asking_none i (ats_in (size_of u.reader.fsdi) e)) ∙ d))
  where_doubt woken p e i h d = absurd (false≢true h)
  where_doubt (rating a b) p e i h d = absurd (none-doubt (sym (rating_none i (open_in (size_of u.reader.fsdi) e)) ∙ d))
  where_doubt failed p e i h d = absurd (false≢true h)
  where_doubt idle p e i h d = absurd (false≢true h)
  where_doubt busy p e i h d = inl refl
  where_doubt ended p e i h d = absurd (false≢true h)
  where_doubt closing p e i h d = inr refl
  where_doubt closed p e i h d = absurd (false≢true h)

  -- a close after which there is doubt came after a session
  close_where : (st : Stage) (p : Past S) → InvAt u s₀ st p → or_else (eqb (stage_number st) 2) (or_else (eqb (stage_number st) 4) (or_else (eqb (stage_number st) 5) (eqb (stage_number st) 7))) ≡ true → says p.now.reader ≡ doubt → or_else (eqb (stage_number st) 5) (eqb (stage_number st) 7) ≡ true
  close_where unwoken p i h d = h
  close_where asking p i h d = h
  close_where woken p (is_woken win) h d = absurd (none-doubt d)
  close_where (rating a b) p i h d = h
  close_where failed p (unheard_of n c) h d = absurd (none-doubt d)
  close_where failed p (heard_of n c dsi dri k) h d = absurd (none-doubt d)
  close_where idle p i h d = refl
  close_where busy p i h d = h
  close_where ended p i h d = refl
  close_where closing p i h d = h
  close_where closed p i h d = h

  deselect_says : (l : Link) (x : Exchange) (b : Bool) → says (on_deselect u.reader l x b).reader ≡ say_of x.progress x
  deselect_says l x true = refl
  deselect_says l x false = go (ltb x.since u.reader.repeats)
    where
      go : (t : Bool) → says (cond t (to closing l (tried (x.since + 1) no_cause x) (wrote (frame_of (deselect l.cid)) activation_time)) (to closed l x unanswered)).reader ≡ say_of x.progress x
      go true = say_tried x.progress (x.since + 1) no_cause x
      go false = refl

  -- the doubt after a turn
  busy_after : {p : Past S} {c : Call} {e : Event} → BusyInv u s₀ p → Takes c e → CanHear p.now.answer e → says (hear u.reader busy p.now.reader e).reader ≡ doubt
      → After u s₀ p c e (hear u.reader busy p.now.reader e) × (is_at closing (hear u.reader busy p.now.reader e).reader ≡ false)
  busy_after {e = e} (in_phase {dsi} {dri} {ts = ts} {f = f} ph C) t can d =
      let tu = turns u s₀ laws G keeps dsi dri ts f ph e can in
      (turn_doubt u s₀ laws G keeps dsi dri ts f tu t d, turn_elsewhere u s₀ tu)

  pub can_hear : {c : Call} {e : Event} (w : World S) → Takes c e → CanCome w c → CanHear w.answer e
  can_hear w (by_bytes f room) can = can
  can_hear w (by_silence room) can = tt

  no_good_comes : {c : Call} {e : Event} (w : World S) → Takes c e → NoGood e → CanCome w c
  no_good_comes w (by_bytes f room) n = inr n
  no_good_comes w (by_silence room) n = tt

  event_command : {c : Call} {e : Event} → Takes c e → command_in c ≡ not_given
  event_command (by_bytes f room) = refl
  event_command (by_silence room) = refl

  same_comes : {c : Call} {e : Event} (w v : World S) → Takes c e → w.answer ≡ v.answer → CanCome w c → CanCome v c
  same_comes w v (by_bytes f room) e can = ⊎_elim (λ h. inl (sym e ∙ h)) (λ n. inr n) can
  same_comes w v (by_silence room) e can = tt

  -- a call that takes an event is heard by its stage
  pub event_move : {c : Call} {e : Event} (r : Reader) → Takes c e → accepted (do_call u.reader r c).outcome ≡ true → (listens r ≡ true) × (do_call u.reader r c ≡ hear u.reader r.stage r e)
  event_move r (by_bytes f room) a = guarded_taken (listens r) room greatest_frame r (hear u.reader r.stage r (bytes f)) a
  event_move r (by_silence room) a = guarded_taken (listens r) room greatest_frame r (hear u.reader r.stage r no_bytes) a

  -- both twins at once
  both_twins : {run run' : List Step} → Twins u s₀ run → ((truth : Bool) → Twin u s₀ run truth → Twin u s₀ run' truth) → Twins u s₀ run'
  both_twins t f = (f false t.0, f true t.1)

  module _ (run : List Step) (r : IsRun u s₀ run) (before : says (after u s₀ run).reader ≡ doubt → Twins u s₀ run) where
    abbrev now : World S
    now = after u s₀ run

    here : Inv u s₀ (past_in u s₀ run)
    here = run_inv laws u s₀ G keeps run r

    -- in an exchange
    busy-doubt : {c : Call} {e : Event} (fate : Fate) → Takes c e → CanCome now c → now.reader.stage ≡ busy → do_call u.reader now.reader c ≡ hear u.reader busy now.reader e → says (hear u.reader busy now.reader e).reader ≡ doubt → Twins u s₀ (record { call = c; fate = fate } ∷ run)
    busy-doubt {c} {e} fate t can st m d =
        let i : BusyInv u s₀ (past_in u s₀ run) = busy_of u s₀ now.reader.stage (past_in u s₀ run) here.stage (ap (λ (k : Stage). eqb (stage_number k) 6) st) in
        let a = busy_after i t (can_hear now t can) d in
        let nc : is_at closing (do_call u.reader now.reader c).reader ≡ false = ap (λ (k : Move). is_at closing k.reader) m ∙ a.1 in
        go a.0 nc
      where
        go : After u s₀ (past_in u s₀ run) c e (hear u.reader busy now.reader e) → is_at closing (do_call u.reader now.reader c).reader ≡ false → Twins u s₀ (record { call = c; fate = fate } ∷ run)
        go (stays ng w) nc =
            both_twins (before w) (λ truth T. extend_lost laws u s₀ (record { call = c; fate = fate }) T (no_good_comes (after u s₀ T.other) t ng) (event_command t) nc)
        go (opens_now a b) nc =
            opens laws u s₀ (record { call = c; fate = fate }) r can nc
            (ap (λ (k : Move). given_of (past_of u (past_in u s₀ run) (record { call = c; fate = lost }) k)) m ∙ a)
            (ap (λ (k : Move). given_of (past_of u (past_in u s₀ run) (record { call = c; fate = whole }) k)) m ∙ b)

    -- what a run of the same view has at the same call while closing
    closing_at : {c : Call} {e : Event} (other : List Step) → IsRun u s₀ other → (after u s₀ other).reader ≡ now.reader → Takes c e → accepted (do_call u.reader now.reader c).outcome ≡ true → now.reader.stage ≡ closing → says now.reader ≡ doubt → Byes (past_in u s₀ other) (move_of u (after u s₀ other) c)
    closing_at {c} {e} other io same t acc st d =
        let I = run_inv laws u s₀ G keeps other io in
        let w = after u s₀ other in
        let acc' : accepted (do_call u.reader w.reader c).outcome ≡ true = ap (λ (k : Reader). accepted (do_call u.reader k c).outcome) same ∙ acc in
        let st' : w.reader.stage ≡ closing = ap (λ (k : Reader). k.stage) same ∙ st in
        let m = (event_move w.reader t acc').1 in
        let i : ClosingInv u s₀ (past_in u s₀ other) = closing_of w.reader.stage (past_in u s₀ other) I.stage (ap (λ (k : Stage). eqb (stage_number k) 8) st') in
        subst (λ (k : Move). Byes (past_in u s₀ other) k) (sym (m ∙ ap (λ (k : Stage). hear u.reader k w.reader e) st'))
        (closing_byes i _ (ap says same ∙ d))

    -- while closing
    closing-doubt : {c : Call} {e : Event} (fate : Fate) → Takes c e → CanCome now c → accepted (do_call u.reader now.reader c).outcome ≡ true → now.reader.stage ≡ closing → says (hear u.reader closing now.reader e).reader ≡ doubt → Twins u s₀ (record { call = c; fate = fate } ∷ run)
    closing-doubt {c} {e} fate t can acc st d =
        let w : says now.reader ≡ doubt = sym (deselect_says now.reader.link now.reader.exchange _) ∙ d in
        let is : is_at closing now.reader ≡ true = ap (λ (k : Stage). eqb (stage_number k) 8) st in
        both_twins (before w)
        (λ truth T.
        extend_bye (record { call = c; fate = fate }) T (same_comes now (after u s₀ T.other) t (T.alike is).0 can) (event_command t)
        (closing_at run r refl t acc st w) (closing_at T.other T.is_run (same_reader u s₀ run T.other T.view) t acc st w) (T.alike is).1)

    -- an event
    event_doubt : {c : Call} {e : Event} (fate : Fate) → Takes c e → CanCome now c → accepted (do_call u.reader now.reader c).outcome ≡ true → says (do_call u.reader now.reader c).reader ≡ doubt → Twins u s₀ (record { call = c; fate = fate } ∷ run)
    event_doubt {c} {e} fate t can acc d =
        let m = event_move now.reader t acc in
        let d' : says (hear u.reader now.reader.stage now.reader e).reader ≡ doubt = sym (ap (λ (k : Move). says k.reader) m.1) ∙ d in
        ⊎_elim
        (λ st.
        busy-doubt fate t can st (m.1 ∙ ap (λ (k : Stage). hear u.reader k now.reader e) st)
        (subst (λ (k : Stage). says (hear u.reader k now.reader e).reader ≡ doubt) st d'))
        (λ st. closing-doubt fate t can acc st (subst (λ (k : Stage). says (hear u.reader k now.reader e).reader ≡ doubt) st d'))
        (where_doubt now.reader.stage (past_in u s₀ run) e here.stage m.0 d')

    -- close
    close_at : (room : ℕ) (other : List Step) → IsRun u s₀ other → (after u s₀ other).reader ≡ now.reader → accepted (do_call u.reader now.reader (close room)).outcome ≡ true → says now.reader ≡ doubt → Byes (past_in u s₀ other) (move_of u (after u s₀ other) (close room)) × (is_halted (after u s₀ other).card ≡ false)
    close_at room other io same acc d =
        let I = run_inv laws u s₀ G keeps other io in
        let w = after u s₀ other in
        let acc' : accepted (do_call u.reader w.reader (close room)).outcome ≡ true = ap (λ (k : Reader). accepted (do_call u.reader k (close room)).outcome) same ∙ acc in
        let g = guarded_taken (may_close w.reader) room greatest_frame w.reader (closes w.reader) acc' in
        let b = close_byes w.reader.stage (past_in u s₀ other) I.stage (close_where w.reader.stage (past_in u s₀ other) I.stage g.0 (ap says same ∙ d)) in
        (subst (λ (k : Move). Byes (past_in u s₀ other) k) (sym g.1) b.0, b.1)

    close-doubt : (room : ℕ) (fate : Fate) → accepted (do_call u.reader now.reader (close room)).outcome ≡ true → says (do_call u.reader now.reader (close room)).reader ≡ doubt → Twins u s₀ (record { call = close room; fate = fate } ∷ run)
    close-doubt room fate acc d =
        let g = guarded_taken (may_close now.reader) room greatest_frame now.reader (closes now.reader) acc in
        let w : says now.reader ≡ doubt = sym (say_tried now.reader.exchange.progress 0 no_cause now.reader.exchange) ∙ (sym (ap (λ (k : Move). says k.reader) g.1) ∙ d) in
        let mine = close_at room run r refl acc w in
        both_twins (before w)
        (λ truth T.
        let theirs = close_at room T.other T.is_run (same_reader u s₀ run T.other T.view) acc w in
        extend_bye (record { call = close room; fate = fate }) T tt refl mine.0 theirs.0 (mine.1 ∙ sym theirs.1))

    -- fetch moves nothing
    fetch_past : (room : ℕ) (fate : Fate) (p : Past S) → accepted (do_call u.reader p.now.reader (fetch room)).outcome ≡ true → past_step u p (record { call = fetch room; fate = fate }) ≡ p
    fetch_past room fate p acc =
        ap (past_of u p (record { call = fetch room; fate = fate }))
        (guarded_taken (not (is_at closed p.now.reader)) room longest_answer p.now.reader (record { reader = p.now.reader; outcome = fetched p.now.reader.exchange.answer }) acc).1

    fetch-doubt : (room : ℕ) (fate : Fate) → accepted (do_call u.reader now.reader (fetch room)).outcome ≡ true → says (do_call u.reader now.reader (fetch room)).reader ≡ doubt → Twins u s₀ (record { call = fetch room; fate = fate } ∷ run)
    fetch-doubt room fate acc d =
        let g = guarded_taken (not (is_at closed now.reader)) room longest_answer now.reader (record { reader = now.reader; outcome = fetched now.reader.exchange.answer }) acc in
        let w : says now.reader ≡ doubt = sym (ap (λ (k : Move). says k.reader) g.1) ∙ d in
        both_twins (before w)
        (λ truth T.
        let same = same_reader u s₀ run T.other T.view in
        let acc' : accepted (do_call u.reader (after u s₀ T.other).reader (fetch room)).outcome ≡ true = ap (λ (k : Reader). accepted (do_call u.reader k (fetch room)).outcome) same ∙ acc in
        let e = fetch_past room fate (past_in u s₀ run) acc in
        let e' = fetch_past room lost (past_in u s₀ T.other) acc' in
        extend laws u s₀ (record { call = fetch room; fate = fate }) T (fetch room) lost tt
        (ap (λ (k : Reader). seen_of (fetch room) (do_call u.reader k (fetch room)).outcome) same) (ap given_of e')
        (alike_along (past_in u s₀ run) _ (past_in u s₀ T.other) _ (sym e) (sym e') T.alike))

    -- give up
    stop_doubt : (fate : Fate) → accepted (do_call u.reader now.reader give_up).outcome ≡ true → says (do_call u.reader now.reader give_up).reader ≡ doubt → Twins u s₀ (record { call = give_up; fate = fate } ∷ run)
    stop_doubt fate acc d =
        let g = test_taken (is_at busy now.reader) stage_refused now.reader (stops now.reader) acc in
        let w : says now.reader ≡ doubt = sym (ap (λ (k : Move). says k.reader) g.1) ∙ d in
        both_twins (before w)
        (λ truth T. extend_lost laws u s₀ (record { call = give_up; fate = fate }) T tt refl (ap (λ (k : Move). is_at closing k.reader) g.1))

    -- begin
    begin-doubt : (c : List ℕ) (room : ℕ) (fate : Fate) → accepted (do_call u.reader now.reader (begin c room)).outcome ≡ true → says (do_call u.reader now.reader (begin c room)).reader ≡ doubt → Twins u s₀ (record { call = begin c room; fate = fate } ∷ run)
    begin-doubt c room fate acc d =
        let g = guarded_taken (is_at idle now.reader) room greatest_frame now.reader (cond (is_command c) (begins now.reader c) (refuse length_refused now.reader)) acc in
        let h = test_taken (is_command c) length_refused now.reader (begins now.reader c) (sym (ap (λ (k : Move). accepted k.outcome) g.1) ∙ acc) in
        let m : do_call u.reader now.reader (begin c room) ≡ begins now.reader c = g.1 ∙ h.1 in
        let t =
        begin_truth (idle_of u s₀ now.reader.stage (past_in u s₀ run) here.stage g.0) c room
        (ltb-true _ _ (both_left _ _ h.0), leb-true _ _ (both_right (ltb 0 (length c)) _ h.0)) (sym (ap (λ (k : Move). says k.reader) m) ∙ d) in
        opens laws u s₀ (record { call = begin c room; fate = fate }) r tt (ap (λ (k : Move). is_at closing k.reader) m)
        (ap (λ (k : Move). given_of (past_of u (past_in u s₀ run) (record { call = begin c room; fate = lost }) k)) m ∙ t.0)
        (ap (λ (k : Move). given_of (past_of u (past_in u s₀ run) (record { call = begin c room; fate = whole }) k)) m ∙ t.1)

    -- every call
    call-doubt : (c : Call) (fate : Fate) → CanCome now c → accepted (do_call u.reader now.reader c).outcome ≡ true → says (do_call u.reader now.reader c).reader ≡ doubt → Twins u s₀ (record { call = c; fate = fate } ∷ run)
    call-doubt (ask room) fate can acc d =
        let g = guarded_taken (is_at unwoken now.reader) room greatest_frame now.reader (asks u.reader now.reader) acc in
        absurd (none-doubt (sym (ask_none (un_of u s₀ now.reader.stage (past_in u s₀ run) here.stage g.0)) ∙ (sym (ap (λ (k : Move). says k.reader) g.1) ∙ d)))
    call-doubt (rate dsi dri room) fate can acc d =
        let a = test_taken (both (leb dsi greatest_rate) (leb dri greatest_rate)) setting_refused now.reader (guarded (is_at woken now.reader) room greatest_frame now.reader (cond (offered now.reader.link.ta dsi dri) (rates u.reader now.reader dsi dri) (refuse rate_refused now.reader))) acc in
        let g = guarded_taken (is_at woken now.reader) room greatest_frame now.reader (cond (offered now.reader.link.ta dsi dri) (rates u.reader now.reader dsi dri) (refuse rate_refused now.reader)) (sym (ap (λ (k : Move). accepted k.outcome) a.1) ∙ acc) in
        let h = test_taken (offered now.reader.link.ta dsi dri) rate_refused now.reader (rates u.reader now.reader dsi dri) (sym (ap (λ (k : Move). accepted k.outcome) (a.1 ∙ g.1)) ∙ acc) in
        absurd (none-doubt (sym (rate_none dsi dri (woken_of u s₀ now.reader.stage (past_in u s₀ run) here.stage g.0)) ∙ (sym (ap (λ (k : Move). says k.reader) (a.1 ∙ (g.1 ∙ h.1))) ∙ d)))
    call-doubt start fate can acc d =
        let g = test_taken (is_at woken now.reader) stage_refused now.reader (to idle now.reader.link now.reader.exchange active) acc in
        absurd (none-doubt (sym (start_none (woken_of u s₀ now.reader.stage (past_in u s₀ run) here.stage g.0)) ∙ (sym (ap (λ (k : Move). says k.reader) g.1) ∙ d)))
    call-doubt (begin c room) fate can acc d = begin-doubt c room fate acc d
    call-doubt (heard f room) fate can acc d = event_doubt fate (by_bytes f room) can acc d
    call-doubt (silent room) fate can acc d = event_doubt fate (by_silence room) can acc d
    call-doubt give_up fate can acc d = stop_doubt fate acc d
    call-doubt (close room) fate can acc d = close-doubt room fate acc d
    call-doubt (fetch room) fate can acc d = fetch-doubt room fate acc d

    step_doubt : (st : Step) → CanCome now st.call → says (after u s₀ (st ∷ run)).reader ≡ doubt → Twins u s₀ (st ∷ run)
    step_doubt st can d = go (accepted (move_of u now st.call).outcome) refl
      where
        d' : says (move_of u now st.call).reader ≡ doubt
        d' = sym (ap says (crosses-reader u now (move_of u now st.call).reader (move_of u now st.call).outcome st.fate)) ∙ d

        go : (b : Bool) → accepted (move_of u now st.call).outcome ≡ b → Twins u s₀ (st ∷ run)
        go true e = call-doubt st.call st.fate can e d'
        go false e =
            both_twins (before (sym (ap says (kept_call u.reader now.reader st.call e)) ∙ d')) (λ truth T. extend_refused laws u s₀ st T e)

  -- in doubt: there are two runs of the same view
  pub twins : (run : List Step) → IsRun u s₀ run → says (after u s₀ run).reader ≡ doubt → Twins u s₀ run
  twins [] r d = absurd (none-doubt d)
  twins (st ∷ run) r d = step_doubt run r.1 (twins run r.1) st r.0 d
