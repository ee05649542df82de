-- The agreement of reader and card holds after every run.
use Rattle.std.proofs.Common.{◌≡◌, ℕ, suc, ◌+◌, ◌*◌, ◌<◌, Bool, true, false, cond, not, eqb, leb, ◌⊎◌, List, [], ◌∷◌, length, sym, refl, ap, ◌∙◌, subst, inl, inr, ⊎_elim, arith}
use Rattle.std.proofs.lemmas.Bool.{true≢false}
use Rattle.activation.specs.Pps.{offered, greatest_rate}
use Rattle.applications.specs.App.{longest_answer, Keeps}
use Rattle.frames.specs.Check.{both}
use Rattle.frames.specs.Refusals.{setting_refused, rate_refused, length_refused, stage_refused}
use Rattle.frames.specs.Sizes.{size_of, greatest_frame}
use Rattle.protocol.specs.Agreement.{blocks_of, Agreement, OtherWay, latest_given, Bearable}
use Rattle.protocol.specs.Field.{given_in, begun_in, Setup, Step, Fate, IsRun, CanCome, after, move_of, accepted}
use Rattle.protocol.specs.Reader.{ask, rate, start, begin, heard, silent, give_up, close, fetch, unwoken, woken, idle, closed, asks, rates, begins, stops, closes, is_command, to, active, stopped, fetched, may_close, guarded, refuse, Reader, Says, none, done, taken, not_taken, doubt, says, Call, Ending, Totals, Move, over, is_at, busy, Event}
use Rattle.protocol.specs.Turns.{written_in}
use Rattle.protocol.proofs.Basics.{eqb_self}
use Rattle.protocol.proofs.Doubt.{guarded_taken, test_taken, suc_apart, Twins}
use Rattle.protocol.proofs.Exactly.{can_hear, event_move, twins}
use Rattle.protocol.proofs.Ground.{Ground}
use Rattle.protocol.proofs.Invariant.{Inv}
use Rattle.protocol.proofs.Past.{Past, past_in}
use Rattle.protocol.proofs.Phases.{in_phase, BusyInv, blocks_in}
use Rattle.protocol.proofs.Promises.{wrote-over, ends_of, totals_of}
use Rattle.protocol.proofs.Rests.{Laws}
use Rattle.protocol.proofs.Runs.{run_inv, parameters_of, state_of, moves_of, frames_at_most}
use Rattle.protocol.proofs.Steps.{Takes, by_bytes, by_silence, busy_of}
use Rattle.protocol.proofs.Views.{same_reader}

module _ (laws : Laws) {S : Type 0} (u : Setup S) (s₀ : S) (G : Ground u.reader u.card) (keeps : Keeps u.app) where
  inv : (run : List Step) → IsRun u s₀ run → Inv u s₀ (past_in u s₀ run)
  inv run r = run_inv laws u s₀ G keeps run r

  -- where the reader is sure, every run of its view has the same truth
  given_when : (run : List Step) → IsRun u s₀ run → begun_in u s₀ run ≡ given_in u s₀ run → latest_given u s₀ run ≡ true
  given_when run r e = ap (λ (k : List (List ℕ)). eqb (length k) (length (given_in u s₀ run))) e ∙ eqb_self (length (given_in u s₀ run))

  not_when : (run : List Step) → IsRun u s₀ run → (latest : List ℕ) × (begun_in u s₀ run ≡ latest ∷ given_in u s₀ run) → latest_given u s₀ run ≡ false
  not_when run r h = ap (λ (k : List (List ℕ)). eqb (length k) (length (given_in u s₀ run))) h.1 ∙ suc_apart (length (given_in u s₀ run))

  none_when : (run : List Step) → IsRun u s₀ run → begun_in u s₀ run ≡ [] → latest_given u s₀ run ≡ true
  none_when run r e =
      ⊎_elim (λ b. given_when run r b)
      (λ h. absurd (let n : ◌≡◌ {A = ℕ} 0 (suc (length (given_in u s₀ run))) = ap length (sym e ∙ h.1) in omega arith))
      (inv run r).told.commands

  sure : (a : Says) (run : List Step) → IsRun u s₀ run → says (after u s₀ run).reader ≡ a → (a ≡ doubt) ⊎ ((b : Bool) × ((other : List Step) → IsRun u s₀ other → says (after u s₀ other).reader ≡ a → latest_given u s₀ other ≡ b))
  sure none run r e = inr (true, λ o io d. none_when o io ((inv o io).told.when_none d))
  sure done run r e = inr (true, λ o io d. given_when o io ((inv o io).told.when_done d))
  sure taken run r e = inr (true, λ o io d. given_when o io ((inv o io).told.when_taken d))
  sure not_taken run r e = inr (false, λ o io d. not_when o io ((inv o io).told.when_not_taken d))
  sure doubt run r e = inl refl

  differ : (a b c : Bool) → a ≡ c → b ≡ c → a ≡ not b → ⊥
  differ a true c p q d = true≢false (q ∙ (sym p ∙ d))
  differ a false c p q d = true≢false (sym d ∙ (p ∙ sym q))

  only_doubt : (run : List Step) → IsRun u s₀ run → (other : List Step) → OtherWay u s₀ run other → says (after u s₀ run).reader ≡ doubt
  only_doubt run r other w =
      ⊎_elim (λ e. e)
      (λ h. absurd (differ (latest_given u s₀ other) (latest_given u s₀ run) h.0 (h.1 other w.0 (ap says (same_reader u s₀ run other w.1))) (h.1 run r refl) w.2))
      (sure (says (after u s₀ run).reader) run r refl)

  due_doubt : (run : List Step) → IsRun u s₀ run → says (after u s₀ run).reader ≡ doubt → (other : List Step) × OtherWay u s₀ run other
  due_doubt run r d = go (latest_given u s₀ run) refl (twins laws u s₀ G keeps run r d)
    where
      go : (b : Bool) → latest_given u s₀ run ≡ b → Twins u s₀ run → (other : List Step) × OtherWay u s₀ run other
      go true e t = (t.0.other, (t.0.is_run, t.0.view, t.0.truth_is ∙ sym (ap not e)))
      go false e t = (t.1.other, (t.1.is_run, t.1.view, t.1.truth_is ∙ sym (ap not e)))

  -- an outcome that ends an exchange came of an event
  stopped-over : (s : Says) (t : Totals) (e : Ending) (y : Says) (k : Totals) → stopped s t ≡ over e y k → ⊥
  stopped-over s t e y k h = let z : ◌≡◌ {A = ℕ} 0 1 = cc in omega arith

  active-over : (e : Ending) (y : Says) (k : Totals) → active ≡ over e y k → ⊥
  active-over e y k h = let z : ◌≡◌ {A = ℕ} 0 1 = cc in omega arith

  fetched-over : (a : List ℕ) (e : Ending) (y : Says) (k : Totals) → fetched a ≡ over e y k → ⊥
  fetched-over a e y k h = let z : ◌≡◌ {A = ℕ} 0 1 = cc in omega arith

  module _ (run : List Step) (r : IsRun u s₀ run) where
    abbrev reader : Reader
    reader = (after u s₀ run).reader

    pub ends_badly : (c : Call) (fate : Fate) (e : Ending) (y : Says) (t : Totals)
        → CanCome (after u s₀ run) c
        → is_at busy reader ≡ true
        → (move_of u (after u s₀ run) c).outcome ≡ over e y t
        → Bearable u s₀ (record { call = c; fate = fate } ∷ run)
        → ⊥
    ends_badly c fate e y t can b o calm = go c can o calm
      where
        acc : (c : Call) → (move_of u (after u s₀ run) c).outcome ≡ over e y t → accepted (move_of u (after u s₀ run) c).outcome ≡ true
        acc c o = ap accepted o

        by_event : {c : Call} {v : Event} → Takes c v → CanCome (after u s₀ run) c → (move_of u (after u s₀ run) c).outcome ≡ over e y t → Bearable u s₀ (record { call = c; fate = fate } ∷ run) → ⊥
        by_event {c} {v} k can o calm =
            ends_of laws u s₀ G keeps fate e y t (busy_of u s₀ reader.stage (past_in u s₀ run) (inv run r).stage b) k (can_hear laws u s₀ G keeps (after u s₀ run) k can)
            (event_move laws u s₀ G keeps reader k (acc c o)).1 o calm.0 calm.1

        go : (c : Call) → CanCome (after u s₀ run) c → (move_of u (after u s₀ run) c).outcome ≡ over e y t → Bearable u s₀ (record { call = c; fate = fate } ∷ run) → ⊥
        go (ask room) can o calm =
            let g = guarded_taken (is_at unwoken reader) room greatest_frame reader (asks u.reader reader) (acc (ask room) o) in
            wrote-over _ _ e y t (sym (ap (λ (k : Move). k.outcome) g.1) ∙ o)
        go (rate dsi dri room) can o calm =
            let a = test_taken (both (leb dsi greatest_rate) (leb dri greatest_rate)) setting_refused reader (guarded (is_at woken reader) room greatest_frame reader (cond (offered reader.link.ta dsi dri) (rates u.reader reader dsi dri) (refuse rate_refused reader))) (acc (rate dsi dri room) o) in
            let g = guarded_taken (is_at woken reader) room greatest_frame reader (cond (offered reader.link.ta dsi dri) (rates u.reader reader dsi dri) (refuse rate_refused reader)) (sym (ap (λ (k : Move). accepted k.outcome) a.1) ∙ acc (rate dsi dri room) o) in
            let h = test_taken (offered reader.link.ta dsi dri) rate_refused reader (rates u.reader reader dsi dri) (sym (ap (λ (k : Move). accepted k.outcome) (a.1 ∙ g.1)) ∙ acc (rate dsi dri room) o) in
            wrote-over _ _ e y t (sym (ap (λ (k : Move). k.outcome) (a.1 ∙ (g.1 ∙ h.1))) ∙ o)
        go start can o calm =
            let g = test_taken (is_at woken reader) stage_refused reader (to idle reader.link reader.exchange active) (acc start o) in
            active-over e y t (sym (ap (λ (k : Move). k.outcome) g.1) ∙ o)
        go (begin c room) can o calm =
            let g = guarded_taken (is_at idle reader) room greatest_frame reader (cond (is_command c) (begins reader c) (refuse length_refused reader)) (acc (begin c room) o) in
            let h = test_taken (is_command c) length_refused reader (begins reader c) (sym (ap (λ (k : Move). accepted k.outcome) g.1) ∙ acc (begin c room) o) in
            wrote-over _ _ e y t (sym (ap (λ (k : Move). k.outcome) (g.1 ∙ h.1)) ∙ o)
        go (heard f room) can o calm = by_event (by_bytes f room) can o calm
        go (silent room) can o calm = by_event (by_silence room) can o calm
        go give_up can o calm =
            let g = test_taken (is_at busy reader) stage_refused reader (stops reader) (acc give_up o) in
            stopped-over _ _ e y t (sym (ap (λ (k : Move). k.outcome) g.1) ∙ o)
        go (close room) can o calm =
            let g = guarded_taken (may_close reader) room greatest_frame reader (closes reader) (acc (close room) o) in
            wrote-over _ _ e y t (sym (ap (λ (k : Move). k.outcome) g.1) ∙ o)
        go (fetch room) can o calm =
            let g = guarded_taken (not (is_at closed reader)) room longest_answer reader (record { reader = reader; outcome = fetched reader.exchange.answer }) (acc (fetch room) o) in
            fetched-over _ e y t (sym (ap (λ (k : Move). k.outcome) g.1) ∙ o)

    blocks_same : {p : Past S} → BusyInv u s₀ p → blocks_in u s₀ p.begun ≡ blocks_of u.app s₀ p.now.reader.link (size_of u.reader.fsdi) p.begun
    blocks_same (in_phase {begun = []} ph C) = refl
    blocks_same (in_phase {begun = c ∷ cs} ph C) = refl

    -- all of it
    pub agreement : Agreement u s₀ run
    agreement =
        let I = inv run r in
        let p = past_in u s₀ run in
        record {
          parameters = parameters_of laws u s₀ G keeps reader.stage p I.stage;
          state = state_of laws u s₀ G keeps reader.stage p I.stage;
          commands = I.told.commands;
          when_done = I.told.when_done;
          when_taken = I.told.when_taken;
          when_not_taken = I.told.when_not_taken;
          when_none = I.told.when_none;
          doubt_due = due_doubt run r;
          doubt_only = only_doubt run r;
          answer_front = I.told.answer_front;
          answer_whole = I.told.answer_whole;
          totals = totals_of laws u s₀ G keeps p I;
          repeats_few = I.log.repeats_few;
          waits_few = I.log.waits_few;
          frames_few = frames_at_most (written_in p.log) u.reader.repeats u.reader.waits I.log.repeats_few I.log.waits_few;
          ends_done = ends_badly;
          moves_on =
              λ b.
              let i = busy_of u s₀ reader.stage p I.stage b in
              subst (λ (n : ℕ). length p.log.turns < n * (u.reader.repeats + 1) + u.reader.waits) (blocks_same i) (moves_of laws u s₀ G keeps p i);
        }
