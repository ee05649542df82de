-- The steps of ask and rate keep what holds.
use Rattle.std.proofs.Common.{◌≡◌, ℕ, ◌+◌, ◌≤◌, Bool, true, false, cond, eqb, ltb, List, [], sym, refl, subst, ⊎_elim}
use Rattle.activation.specs.Ats.{AtsRead, good, bad, ats_of, read_ats_opened}
use Rattle.activation.specs.Pps.{pps_of, pps_answer, offered, greatest_rate, pps_answer_wrong}
use Rattle.activation.specs.Rats.{rats_of}
use Rattle.frames.specs.Causes.{Cause}
use Rattle.frames.specs.Check.{seal, Opened}
use Rattle.frames.specs.Laws.{Noise}
use Rattle.frames.specs.Sizes.{size_of}
use Rattle.protocol.specs.Card.{unsent, owes_nothing, asleep, CardMove, Reply, quiet, reply, garbled, takes, not_given}
use Rattle.protocol.specs.Field.{Setup, World, world, Crossing, crossing, arrives, taken, crosses, Fate, whole, lost, spoilt, noted}
use Rattle.protocol.specs.Reader.{asking, woken, rating, failed, at, to, Link, Event, bytes, no_bytes, wrote, Move, on_ats, on_pps, on_pps_answer, ats_in, open_in, tried, blank_link, blank_exchange, activation_time, fails}
use Rattle.protocol.specs.Settings.{ats_for}
use Rattle.protocol.proofs.Ground.{Ground}
use Rattle.protocol.proofs.Hearing.{CanHear, quiet-reply, reply_inj}
use Rattle.protocol.proofs.Invariant.{there, gone, past, no_log, rested, AskingInv, sleeps, woke, WokenInv, is_woken, RatingInv, as_before, changed, stands, FailedInv, unheard_of, heard_of, rests, Inv, no_log_lem}
use Rattle.protocol.proofs.Past.{Past}
use Rattle.protocol.proofs.Phases.{link_at, up}
use Rattle.protocol.proofs.Rests.{Laws}
use Rattle.protocol.proofs.Saying.{no_command_lem}
use Rattle.protocol.proofs.Waking.{noise_unopened, rats_wakes, rats_ignored, pps_ignored, pps_taken, ats_heard, link_is, pps_heard}

module _ (laws : Laws) {S : Type 0} (u : Setup S) (s₀ : S) (G : Ground u.reader u.card) where
  -- the past before any command
  abbrev pub early : Crossing S → Past S
  early x = past x.after [] (noted x.command []) no_log

  pub asking_all : {p : Past S} → AskingInv u s₀ p → Inv u s₀ p
  asking_all (sleeps n c) = record { stage = sleeps n c; told = no_command_lem u s₀ _ refl refl; log = no_log_lem u s₀ }
  asking_all (woke n c win m) = record { stage = woke n c win m; told = no_command_lem u s₀ _ refl refl; log = no_log_lem u s₀ }

  pub woken_all : {p : Past S} → WokenInv u s₀ p → Inv u s₀ p
  woken_all (is_woken win) = record { stage = is_woken win; told = no_command_lem u s₀ _ refl refl; log = no_log_lem u s₀ }

  pub rating_all : {dsi dri : ℕ} {p : Past S} → RatingInv u s₀ dsi dri p → Inv u s₀ p
  rating_all (as_before n c win lo hi ok) = record { stage = as_before n c win lo hi ok; told = no_command_lem u s₀ _ refl refl; log = no_log_lem u s₀ }
  rating_all (changed n c m) = record { stage = changed n c m; told = no_command_lem u s₀ _ refl refl; log = no_log_lem u s₀ }

  failed_all : {p : Past S} → FailedInv u s₀ failed p → Inv u s₀ p
  failed_all (unheard_of n c) = record { stage = unheard_of n c; told = no_command_lem u s₀ _ refl refl; log = no_log_lem u s₀ }
  failed_all (heard_of n c dsi dri k) = record { stage = heard_of n c dsi dri k; told = no_command_lem u s₀ _ refl refl; log = no_log_lem u s₀ }

  -- RATS goes out to a sleeping card
  pub rats_to_asleep : (n : ℕ) (c : Cause) (fate : Fate) → AskingInv u s₀ (early (arrives u (at asking blank_link (tried n c blank_exchange)) asleep s₀ (seal (rats_of u.reader.fsdi u.reader.cid)) fate))
  rats_to_asleep n c lost = sleeps n c
  rats_to_asleep n c spoilt = sleeps n c
  rats_to_asleep n c whole =
      subst (λ (v : CardMove S). AskingInv u s₀ (early (taken (at asking blank_link (tried n c blank_exchange)) asleep v)))
      (sym (rats_wakes laws u.app u.card G.fsc_least u.reader.fsdi u.reader.cid s₀ G.fsdi_most G.number_most))
      (woke n c true there)

  -- RATS goes out to a card that is awake
  pub rats_to_awake : (n : ℕ) (c : Cause) (win : Bool) (fate : Fate) → AskingInv u s₀ (early (arrives u (at asking blank_link (tried n c blank_exchange)) (rested u s₀ win 0 0) s₀ (seal (rats_of u.reader.fsdi u.reader.cid)) fate))
  rats_to_awake n c win lost = woke n c win gone
  rats_to_awake n c win spoilt = woke n c false gone
  rats_to_awake n c win whole =
      subst (λ (v : CardMove S). AskingInv u s₀ (early (taken (at asking blank_link (tried n c blank_exchange)) (rested u s₀ win 0 0) v)))
      (sym (rats_ignored laws u.app u.card G.fsc_least _ s₀ u.reader.fsdi u.reader.cid))
      (woke n c false gone)

  -- what a move does before any command
  abbrev pub early_move : World S → Move → Fate → Past S
  early_move w m fate = early (crosses u w m.reader m.outcome fate)

  -- no ATS was heard: RATS again, or failed
  asking_bad : {p : Past S} → AskingInv u s₀ p → (why : Cause) (fate : Fate) → Inv u s₀ (early_move p.now (on_ats u.reader blank_link p.now.reader.exchange (bad why)) fate)
  asking_bad (sleeps n c) why fate = go (ltb n u.reader.repeats)
    where
      go : (b : Bool) → Inv u s₀ (early_move (world (at asking blank_link (tried n c blank_exchange)) asleep s₀ quiet) (cond b (to asking blank_link (tried (n + 1) why (tried n c blank_exchange)) (wrote (seal (rats_of u.reader.fsdi u.reader.cid)) activation_time)) (fails blank_link (tried n c blank_exchange) why)) fate)
      go true = asking_all (rats_to_asleep (n + 1) why fate)
      go false = failed_all (unheard_of n c)
  asking_bad (woke n c win {a} m) why fate = go (ltb n u.reader.repeats)
    where
      go : (b : Bool) → Inv u s₀ (early_move (world (at asking blank_link (tried n c blank_exchange)) (rested u s₀ win 0 0) s₀ a) (cond b (to asking blank_link (tried (n + 1) why (tried n c blank_exchange)) (wrote (seal (rats_of u.reader.fsdi u.reader.cid)) activation_time)) (fails blank_link (tried n c blank_exchange) why)) fate)
      go true = asking_all (rats_to_awake (n + 1) why win fate)
      go false = failed_all (unheard_of n c)

  -- the ATS was heard
  asking-good : (n : ℕ) (c : Cause) (win : Bool) (a : Reply) (fate : Fate) → Inv u s₀ (early_move (world (at asking blank_link (tried n c blank_exchange)) (rested u s₀ win 0 0) s₀ a) (on_ats u.reader blank_link (tried n c blank_exchange) (good (ats_for u.card))) fate)
  asking-good n c win a fate =
      subst (λ (l : Link). Inv u s₀ (past (world (at woken l blank_exchange) (rested u s₀ win 0 0) s₀ quiet) [] [] no_log)) (sym (link_is laws u s₀ G))
      (woken_all (is_woken win))

  noise_bad : {p : Past S} → AskingInv u s₀ p → (g : List ℕ) → Noise g → (fate : Fate) → Inv u s₀ (early_move p.now (on_ats u.reader blank_link p.now.reader.exchange (ats_in (size_of u.reader.fsdi) (bytes g))) fate)
  noise_bad {p} i g n fate =
      let h = noise_unopened laws (size_of u.reader.fsdi) g n in
      subst (λ (o : Opened). Inv u s₀ (early_move p.now (on_ats u.reader blank_link p.now.reader.exchange (read_ats_opened (size_of u.reader.fsdi) o)) fate)) (sym h.1)
      (asking_bad i h.0 fate)

  -- every event while the reader asks
  pub asking_turn : {p : Past S} → AskingInv u s₀ p → (e : Event) → CanHear p.now.answer e → (fate : Fate) → Inv u s₀ (early_move p.now (on_ats u.reader blank_link p.now.reader.exchange (ats_in (size_of u.reader.fsdi) e)) fate)
  asking_turn i no_bytes can fate = asking_bad i _ fate
  asking_turn (sleeps n c) (bytes g) can fate =
      noise_bad (sleeps n c) g (⊎_elim (λ e. absurd (quiet-reply g e)) (λ k. k) can) fate
  asking_turn (woke n c win gone) (bytes g) can fate =
      noise_bad (woke n c win gone) g (⊎_elim (λ e. absurd (quiet-reply g e)) (λ k. k) can) fate
  asking_turn (woke n c win there) (bytes g) can fate =
      ⊎_elim
      (λ e.
      subst (λ (f : List ℕ). Inv u s₀ (early_move (world (at asking blank_link (tried n c blank_exchange)) (rested u s₀ win 0 0) s₀ (reply (seal (ats_of (ats_for u.card))))) (on_ats u.reader blank_link (tried n c blank_exchange) (ats_in (size_of u.reader.fsdi) (bytes f))) fate)) (reply_inj _ g e)
      (subst (λ (r : AtsRead). Inv u s₀ (early_move (world (at asking blank_link (tried n c blank_exchange)) (rested u s₀ win 0 0) s₀ (reply (seal (ats_of (ats_for u.card))))) (on_ats u.reader blank_link (tried n c blank_exchange) r) fate)) (sym (ats_heard laws u s₀ G))
      (asking-good n c win (reply (seal (ats_of (ats_for u.card)))) fate)))
      (λ k. noise_bad (woke n c win there) g k fate) can

  -- PPS goes out to a card that has not taken one
  pub pps_to_rested : (dsi dri n : ℕ) (c : Cause) (win : Bool) → dsi ≤ greatest_rate → dri ≤ greatest_rate → offered u.card.ta dsi dri ≡ true → (fate : Fate) → RatingInv u s₀ dsi dri (early (arrives u (at (rating dsi dri) (link_at u s₀ 0 0) (tried n c blank_exchange)) (rested u s₀ win 0 0) s₀ (seal (pps_of u.reader.cid dsi dri)) fate))
  pps_to_rested dsi dri n c win lo hi ok lost = as_before n c win lo hi ok
  pps_to_rested dsi dri n c win lo hi ok spoilt = as_before n c false lo hi ok
  pps_to_rested dsi dri n c true lo hi ok whole =
      subst (λ (v : CardMove S). RatingInv u s₀ dsi dri (early (taken (at (rating dsi dri) (link_at u s₀ 0 0) (tried n c blank_exchange)) (rested u s₀ true 0 0) v)))
      (sym (pps_taken laws u.app u.card G.fsc_least (up u s₀ true 0 0 true [] owes_nothing unsent) s₀ dsi dri lo hi refl ok))
      (changed n c there)
  pps_to_rested dsi dri n c false lo hi ok whole =
      subst (λ (v : CardMove S). RatingInv u s₀ dsi dri (early (taken (at (rating dsi dri) (link_at u s₀ 0 0) (tried n c blank_exchange)) (rested u s₀ false 0 0) v)))
      (sym (pps_ignored laws u.app u.card G.fsc_least (up u s₀ false 0 0 true [] owes_nothing unsent) s₀ u.reader.cid dsi dri G.number_most refl))
      (as_before n c false lo hi ok)

  -- PPS goes out to a card that has taken it
  pps_to_changed : (dsi dri n : ℕ) (c : Cause) (fate : Fate) → RatingInv u s₀ dsi dri (early (arrives u (at (rating dsi dri) (link_at u s₀ 0 0) (tried n c blank_exchange)) (rested u s₀ false dsi dri) s₀ (seal (pps_of u.reader.cid dsi dri)) fate))
  pps_to_changed dsi dri n c lost = changed n c gone
  pps_to_changed dsi dri n c spoilt = changed n c gone
  pps_to_changed dsi dri n c whole = go (eqb 0 dri)
    where
      hush : (b : Bool) → RatingInv u s₀ dsi dri (early (crossing (world (at (rating dsi dri) (link_at u s₀ 0 0) (tried n c blank_exchange)) (rested u s₀ false dsi dri) s₀ (cond b quiet quiet)) not_given))
      hush true = changed n c gone
      hush false = changed n c gone

      go : (b : Bool) → RatingInv u s₀ dsi dri (early (cond b (taken (at (rating dsi dri) (link_at u s₀ 0 0) (tried n c blank_exchange)) (rested u s₀ false dsi dri) (takes u.app u.card (rested u s₀ false dsi dri) s₀ (seal (pps_of u.reader.cid dsi dri)))) (crossing (world (at (rating dsi dri) (link_at u s₀ 0 0) (tried n c blank_exchange)) (garbled (rested u s₀ false dsi dri)) s₀ quiet) not_given)))
      go true =
          subst (λ (v : CardMove S). RatingInv u s₀ dsi dri (early (taken (at (rating dsi dri) (link_at u s₀ 0 0) (tried n c blank_exchange)) (rested u s₀ false dsi dri) v)))
          (sym (pps_ignored laws u.app u.card G.fsc_least (up u s₀ false dsi dri true [] owes_nothing unsent) s₀ u.reader.cid dsi dri G.number_most refl))
          (hush (eqb 0 dsi))
      go false = changed n c gone

  -- no response was heard: PPS again, or failed
  rating_bad : {dsi dri : ℕ} {p : Past S} → RatingInv u s₀ dsi dri p → (why : Cause) (fate : Fate) → Inv u s₀ (early_move p.now (on_pps_answer u.reader dsi dri (link_at u s₀ 0 0) p.now.reader.exchange false why) fate)
  rating_bad {dsi} {dri} (as_before n c win lo hi ok) why fate = go (ltb n u.reader.repeats)
    where
      go : (b : Bool) → Inv u s₀ (early_move (world (at (rating dsi dri) (link_at u s₀ 0 0) (tried n c blank_exchange)) (rested u s₀ win 0 0) s₀ quiet) (cond b (to (rating dsi dri) (link_at u s₀ 0 0) (tried (n + 1) why (tried n c blank_exchange)) (wrote (seal (pps_of u.reader.cid dsi dri)) activation_time)) (fails (link_at u s₀ 0 0) (tried n c blank_exchange) why)) fate)
      go true = rating_all (pps_to_rested dsi dri (n + 1) why win lo hi ok fate)
      go false = failed_all (heard_of n c 0 0 stands)
  rating_bad {dsi} {dri} (changed n c {a} m) why fate = go (ltb n u.reader.repeats)
    where
      go : (b : Bool) → Inv u s₀ (early_move (world (at (rating dsi dri) (link_at u s₀ 0 0) (tried n c blank_exchange)) (rested u s₀ false dsi dri) s₀ a) (cond b (to (rating dsi dri) (link_at u s₀ 0 0) (tried (n + 1) why (tried n c blank_exchange)) (wrote (seal (pps_of u.reader.cid dsi dri)) activation_time)) (fails (link_at u s₀ 0 0) (tried n c blank_exchange) why)) fate)
      go true = rating_all (pps_to_changed dsi dri (n + 1) why fate)
      go false = failed_all (heard_of n c dsi dri stands)

  -- the response was heard: the session is active at the new rates
  rating_good : (dsi dri n : ℕ) (c : Cause) (a : Reply) (fate : Fate) → Inv u s₀ (early_move (world (at (rating dsi dri) (link_at u s₀ 0 0) (tried n c blank_exchange)) (rested u s₀ false dsi dri) s₀ a) (on_pps_answer u.reader dsi dri (link_at u s₀ 0 0) (tried n c blank_exchange) true pps_answer_wrong) fate)
  rating_good dsi dri n c a fate = record { stage = rests refl; told = no_command_lem u s₀ _ refl refl; log = no_log_lem u s₀ }

  noise_rating : {dsi dri : ℕ} {p : Past S} → RatingInv u s₀ dsi dri p → (g : List ℕ) → Noise g → (fate : Fate) → Inv u s₀ (early_move p.now (on_pps u.reader dsi dri (link_at u s₀ 0 0) p.now.reader.exchange (open_in (size_of u.reader.fsdi) (bytes g))) fate)
  noise_rating {dsi} {dri} {p} i g n fate =
      let h = noise_unopened laws (size_of u.reader.fsdi) g n in
      subst (λ (o : Opened). Inv u s₀ (early_move p.now (on_pps u.reader dsi dri (link_at u s₀ 0 0) p.now.reader.exchange o) fate)) (sym h.1)
      (rating_bad i h.0 fate)

  -- every event while the reader chooses rates
  pub rating_turn : {dsi dri : ℕ} {p : Past S} → RatingInv u s₀ dsi dri p → (e : Event) → CanHear p.now.answer e → (fate : Fate) → Inv u s₀ (early_move p.now (on_pps u.reader dsi dri (link_at u s₀ 0 0) p.now.reader.exchange (open_in (size_of u.reader.fsdi) e)) fate)
  rating_turn i no_bytes can fate = rating_bad i _ fate
  rating_turn (as_before n c win lo hi ok) (bytes g) can fate =
      noise_rating (as_before n c win lo hi ok) g (⊎_elim (λ e. absurd (quiet-reply g e)) (λ k. k) can) fate
  rating_turn (changed n c gone) (bytes g) can fate =
      noise_rating (changed n c gone) g (⊎_elim (λ e. absurd (quiet-reply g e)) (λ k. k) can) fate
  rating_turn {dsi} {dri} (changed n c there) (bytes g) can fate =
      ⊎_elim
      (λ e.
      subst (λ (f : List ℕ). Inv u s₀ (early_move (world (at (rating dsi dri) (link_at u s₀ 0 0) (tried n c blank_exchange)) (rested u s₀ false dsi dri) s₀ (reply (seal (pps_answer u.reader.cid)))) (on_pps u.reader dsi dri (link_at u s₀ 0 0) (tried n c blank_exchange) (open_in (size_of u.reader.fsdi) (bytes f))) fate)) (reply_inj _ g e)
      (subst (λ (o : Opened). Inv u s₀ (early_move (world (at (rating dsi dri) (link_at u s₀ 0 0) (tried n c blank_exchange)) (rested u s₀ false dsi dri) s₀ (reply (seal (pps_answer u.reader.cid)))) (on_pps u.reader dsi dri (link_at u s₀ 0 0) (tried n c blank_exchange) o) fate)) (sym (pps_heard laws u s₀ G))
      (subst (λ (b : Bool). Inv u s₀ (early_move (world (at (rating dsi dri) (link_at u s₀ 0 0) (tried n c blank_exchange)) (rested u s₀ false dsi dri) s₀ (reply (seal (pps_answer u.reader.cid)))) (on_pps_answer u.reader dsi dri (link_at u s₀ 0 0) (tried n c blank_exchange) b pps_answer_wrong) fate)) (sym (laws.takes_answer u.reader.cid))
      (rating_good dsi dri n c (reply (seal (pps_answer u.reader.cid))) fate))))
      (λ k. noise_rating (changed n c there) g k fate) can
