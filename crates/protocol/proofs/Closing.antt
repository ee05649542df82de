-- The steps of close keep what holds.
use Rattle.std.proofs.Common.{◌≡◌, ℕ, ◌+◌, ◌≤◌, Bool, true, false, cond, eqb, ltb, List, [], sym, refl, subst, arith, lit≤}
use Rattle.activation.specs.Pps.{no_pps}
use Rattle.applications.specs.App.{App}
use Rattle.frames.specs.Blocks.{deselect, without, frame_of, bytes_of}
use Rattle.frames.specs.Causes.{Cause, card_wrong}
use Rattle.frames.specs.Check.{Opened, opened, open_frame}
use Rattle.frames.specs.Reading.{Agreed, agrees, Reading, valid, invalid, read_frame}
use Rattle.frames.specs.Sizes.{size_of}
use Rattle.protocol.specs.Card.{Card, asleep, awake, halted, Awake, CardMove, quiet, garbled, takes, remains, on_rats, rats_in, on_pps, pps_in, on_reading, card_agreed, not_given}
use Rattle.protocol.specs.Field.{Setup, world, Crossing, crossing, arrives, taken, crosses, hears_at, Fate, whole, lost, spoilt, noted, moved}
use Rattle.protocol.specs.Reader.{closing, closed, at, to, Exchange, Move, wrote, unanswered, on_deselect, tried, no_cause, activation_time, blank_link, blank_exchange}
use Rattle.protocol.specs.Settings.{CardSettings}
use Rattle.protocol.specs.Turns.{Log}
use Rattle.protocol.proofs.Arrival.{arrive_whole, to_deselect}
use Rattle.protocol.proofs.Delivery.{takes_block}
use Rattle.protocol.proofs.Ground.{Ground}
use Rattle.protocol.proofs.Invariant.{closing_all, past, no_log, Up, stands, is_off, FailedInv, unheard_of, heard_of, ClosingInv, after_session, after_failure, is_closed, Inv, LogOk}
use Rattle.protocol.proofs.Past.{Past}
use Rattle.protocol.proofs.Phases.{link_at, up, cid}
use Rattle.protocol.proofs.Rests.{Laws}
use Rattle.protocol.proofs.Saying.{no_command_lem, Told, told_tried}
use Rattle.protocol.proofs.Waking.{read_opened_lem}

-- what crossed gave no command and left the state
pub record Harmless {S : Type 0} (s : S) (m : CardMove S) : Type 0 where
  pub state_same : m.state ≡ s
  pub none_given : m.command ≡ not_given

module _ (laws : Laws) {S : Type 0} (app : App S) (cs : CardSettings) (big : 16 ≤ size_of cs.fsci) where
  bare_opens : open_frame (size_of cs.fsci) (frame_of (deselect without)) ≡ opened (bytes_of (deselect without))
  bare_opens =
      laws.opens (size_of cs.fsci) (bytes_of (deselect without)) (lit≤ tt)
      (let e = laws.two_more (bytes_of (deselect without)) in omega arith)

  bare_read : (agreed : Agreed) → read_frame (size_of cs.fsci) agreed (frame_of (deselect without)) ≡ cond (agrees agreed without) (valid (deselect without)) (invalid card_wrong)
  bare_read agreed = read_opened_lem laws (size_of cs.fsci) agreed (frame_of (deselect without)) _ bare_opens

  bare_block : (w : Awake) (s : S) (b : Bool) → Harmless s (on_reading app w s (cond b (valid (deselect without)) (invalid card_wrong)))
  bare_block w s true = record { state_same = refl; none_given = refl }
  bare_block w s false = record { state_same = refl; none_given = refl }

  bare_pps : (w : Awake) (s : S) (win : Bool) (m : CardMove S) → Harmless s m → Harmless s (on_pps cs w s (cond win no_pps no_pps) m)
  bare_pps w s true m h = h
  bare_pps w s false m h = h

  -- a deselect without card number does no harm to any card
  pub bare_deselect : (k : Card) (s : S) → Harmless s (takes app cs k s (frame_of (deselect without)))
  bare_deselect asleep s =
      subst (λ (o : Opened). Harmless s (on_rats cs s (rats_in o))) (sym bare_opens) (record { state_same = refl; none_given = refl })
  bare_deselect (awake w) s =
      subst (λ (o : Opened). Harmless s (on_pps cs w s (pps_in cs w o) (on_reading app w s (read_frame (size_of cs.fsci) (card_agreed cs w.cid) (frame_of (deselect without)))))) (sym bare_opens)
      (bare_pps w s w.window _
      (subst (λ (r : Reading). Harmless s (on_reading app w s r)) (sym (bare_read (card_agreed cs w.cid)))
      (bare_block w s (agrees (card_agreed cs w.cid) without))))
  bare_deselect halted s = record { state_same = refl; none_given = refl }

module _ (laws : Laws) {S : Type 0} (u : Setup S) (s₀ : S) (G : Ground u.reader u.card) where
  abbrev pub crossed_past : List (List ℕ) → List (List ℕ) → Log → Crossing S → Past S
  crossed_past begun given log x = past x.after begun (noted x.command given) log

  abbrev bye : List ℕ
  bye = frame_of (deselect (cid u s₀))

  -- deselect goes out to the card of the session
  pub closes_session : (dsi dri : ℕ) (x : Exchange) (k : Card) (begun given : List (List ℕ)) (log : Log) → Up u s₀ dsi dri k → Told u s₀ x begun given → (fate : Fate)
      → ClosingInv u s₀ (crossed_past begun given log (arrives u (at closing (link_at u s₀ dsi dri) x) k (moved u.app s₀ given) bye fate))
  closes_session dsi dri x k begun given log a T lost = after_session a T
  closes_session dsi dri x k begun given log stands T spoilt = after_session stands T
  closes_session dsi dri x k begun given log is_off T spoilt = after_session is_off T
  closes_session dsi dri x k begun given log (stands {win} {m} {g} {o} {l}) T whole =
      subst (λ (y : Crossing S). ClosingInv u s₀ (crossed_past begun given log y))
      (sym (arrive_whole laws u s₀ G closing x win dsi dri m g o l (moved u.app s₀ given) (deselect (cid u s₀)) (to_deselect laws u s₀ G)))
      (after_session {dsi = dsi} {dri = dri} is_off T)
  closes_session dsi dri x k begun given log is_off T whole = go (eqb dri 0)
    where
      go : (b : Bool) → ClosingInv u s₀ (crossed_past begun given log (cond b (taken (at closing (link_at u s₀ dsi dri) x) halted (remains halted (moved u.app s₀ given) quiet)) (crossing (world (at closing (link_at u s₀ dsi dri) x) halted (moved u.app s₀ given) quiet) not_given)))
      go true = after_session {dsi = dsi} {dri = dri} is_off T
      go false = after_session {dsi = dsi} {dri = dri} is_off T

  -- deselect goes out after a waking that came as far as an ATS
  pub closes_heard : (n : ℕ) (c : Cause) (dsi dri : ℕ) (k : Card) → Up u s₀ dsi dri k → (fate : Fate)
      → FailedInv u s₀ closing (crossed_past [] [] no_log (arrives u (at closing (link_at u s₀ 0 0) (tried n c blank_exchange)) k s₀ bye fate))
  closes_heard n c dsi dri k a lost = heard_of n c dsi dri a
  closes_heard n c dsi dri k stands spoilt = heard_of n c dsi dri stands
  closes_heard n c dsi dri k is_off spoilt = heard_of n c dsi dri is_off
  closes_heard n c dsi dri k (stands {win} {m} {g} {o} {l}) whole = go (eqb 0 dri)
    where
      go : (b : Bool) → FailedInv u s₀ closing (crossed_past [] [] no_log (cond b (taken (at closing (link_at u s₀ 0 0) (tried n c blank_exchange)) (awake (up u s₀ win dsi dri m g o l)) (takes u.app u.card (awake (up u s₀ win dsi dri m g o l)) s₀ bye)) (crossing (world (at closing (link_at u s₀ 0 0) (tried n c blank_exchange)) (awake (up u s₀ false dsi dri m g o l)) s₀ quiet) not_given)))
      go true =
          subst (λ (v : CardMove S). FailedInv u s₀ closing (crossed_past [] [] no_log (taken (at closing (link_at u s₀ 0 0) (tried n c blank_exchange)) (awake (up u s₀ win dsi dri m g o l)) v)))
          (sym (takes_block laws u.app u.card (up u s₀ win dsi dri m g o l) s₀ (deselect (cid u s₀)) G.number_most (to_deselect laws u s₀ G)))
          (heard_of n c dsi dri is_off)
      go false = heard_of n c dsi dri stands
  closes_heard n c dsi dri k is_off whole = heard_of n c dsi dri is_off

  -- deselect goes out after a waking without an ATS
  pub closes_unheard : (n : ℕ) (c : Cause) (k : Card) (fate : Fate)
      → FailedInv u s₀ closing (crossed_past [] [] no_log (arrives u (at closing blank_link (tried n c blank_exchange)) k s₀ (frame_of (deselect without)) fate))
  closes_unheard n c k lost = unheard_of n c
  closes_unheard n c k spoilt = unheard_of n c
  closes_unheard n c k whole = go (eqb 0 (hears_at k))
    where
      h : Harmless s₀ (takes u.app u.card k s₀ (frame_of (deselect without)))
      h = bare_deselect laws u.app u.card G.fsc_least k s₀

      go : (b : Bool) → FailedInv u s₀ closing (crossed_past [] [] no_log (cond b (taken (at closing blank_link (tried n c blank_exchange)) k (takes u.app u.card k s₀ (frame_of (deselect without)))) (crossing (world (at closing blank_link (tried n c blank_exchange)) (garbled k) s₀ quiet) not_given)))
      go true =
          subst (λ (v : CardMove S). FailedInv u s₀ closing (crossed_past [] [] no_log (taken (at closing blank_link (tried n c blank_exchange)) k v)))
          (λ i. record {
            card = (takes u.app u.card k s₀ (frame_of (deselect without))).card;
            state = sym h.state_same i;
            answer = (takes u.app u.card k s₀ (frame_of (deselect without))).answer;
            command = sym h.none_given i;
          })
          (unheard_of n c)
      go false = unheard_of n c

  -- what a move does while closing
  abbrev pub closing_move : Past S → Move → Fate → Past S
  closing_move p m fate = crossed_past p.begun p.given p.log (crosses u p.now m.reader m.outcome fate)

  -- every event while the reader closes: it is off, or deselect goes out again
  pub closing_turn : {p : Past S} → ClosingInv u s₀ p → LogOk u s₀ p.log → (b : Bool) (fate : Fate)
      → Inv u s₀ (closing_move p (on_deselect u.reader p.now.reader.link p.now.reader.exchange b) fate)
  closing_turn (after_session a T) L true fate = record { stage = is_closed; told = T; log = L }
  closing_turn (after_failure (unheard_of n c)) L true fate = record { stage = is_closed; told = no_command_lem u s₀ _ refl refl; log = L }
  closing_turn (after_failure (heard_of n c dsi dri a)) L true fate = record { stage = is_closed; told = no_command_lem u s₀ _ refl refl; log = L }
  closing_turn (after_session {dsi} {dri} {x} {k} {a} {begun} {given} {log} up₁ T) L false fate = go (ltb x.since u.reader.repeats)
    where
      go : (b : Bool) → Inv u s₀ (closing_move (past (world (at closing (link_at u s₀ dsi dri) x) k (moved u.app s₀ given) a) begun given log) (cond b (to closing (link_at u s₀ dsi dri) (tried (x.since + 1) no_cause x) (wrote bye activation_time)) (to closed (link_at u s₀ dsi dri) x unanswered)) fate)
      go true = closing_all u s₀ (closes_session dsi dri (tried (x.since + 1) no_cause x) k begun given log up₁ (told_tried u s₀ (x.since + 1) no_cause T) fate) L
      go false = record { stage = is_closed; told = T; log = L }
  closing_turn (after_failure (unheard_of n c {k} {a})) L false fate = go (ltb n u.reader.repeats)
    where
      go : (b : Bool) → Inv u s₀ (closing_move (past (world (at closing blank_link (tried n c blank_exchange)) k s₀ a) [] [] no_log) (cond b (to closing blank_link (tried (n + 1) no_cause (tried n c blank_exchange)) (wrote (frame_of (deselect without)) activation_time)) (to closed blank_link (tried n c blank_exchange) unanswered)) fate)
      go true = closing_all u s₀ (after_failure (closes_unheard (n + 1) no_cause k fate)) L
      go false = record { stage = is_closed; told = no_command_lem u s₀ _ refl refl; log = L }
  closing_turn (after_failure (heard_of n c dsi dri {k} {a} up₁)) L false fate = go (ltb n u.reader.repeats)
    where
      go : (b : Bool) → Inv u s₀ (closing_move (past (world (at closing (link_at u s₀ 0 0) (tried n c blank_exchange)) k s₀ a) [] [] no_log) (cond b (to closing (link_at u s₀ 0 0) (tried (n + 1) no_cause (tried n c blank_exchange)) (wrote bye activation_time)) (to closed (link_at u s₀ 0 0) (tried n c blank_exchange) unanswered)) fate)
      go true = closing_all u s₀ (after_failure (closes_heard (n + 1) no_cause dsi dri k up₁ fate)) L
      go false = record { stage = is_closed; told = no_command_lem u s₀ _ refl refl; log = L }
