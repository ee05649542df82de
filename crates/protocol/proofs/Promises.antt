-- The totals of a result, and the promise to end done.
use Rattle.std.proofs.Common.{◌≡◌, ℕ, ◌+◌, ◌/◌, ◌≤◌, Bool, true, false, cond, not, ltb, leb, List, [], ◌∷◌, sym, refl, ap, ◌∙◌, subst, arith}
use Rattle.activation.specs.Ats.{AtsRead, good, bad}
use Rattle.activation.specs.Pps.{offered, greatest_rate}
use Rattle.applications.specs.App.{Keeps, longest_answer}
use Rattle.frames.specs.Causes.{Cause}
use Rattle.frames.specs.Check.{both, Opened, opened, unopened}
use Rattle.frames.specs.Refusals.{setting_refused, rate_refused, length_refused, stage_refused, buffer_refused}
use Rattle.frames.specs.Sizes.{size_of, greatest_frame}
use Rattle.protocol.specs.Agreement.{TotalsTrue, latest_waits}
use Rattle.protocol.specs.Card.{Awake, Reply}
use Rattle.protocol.specs.Field.{Setup, Fate, CanCome}
use Rattle.protocol.specs.Reader.{fetched, Link, Stage, unwoken, asking, woken, rating, failed, idle, busy, ended, closing, closed, Reader, Move, wrote, over, answered, Call, ask, rate, start, begin, heard, silent, give_up, close, fetch, Event, bytes, no_bytes, Totals, Ending, Says, is_at, listens, may_close, guarded, refuse, hear, do_call, asks, rates, begins, stops, closes, is_command, to, active, on_ats, on_pps, on_pps_answer, on_deselect, Exchange, ats_in, open_in}
use Rattle.protocol.specs.Turns.{Turn, written_in, frames_of, tally, bad_turns, NoneWorse}
use Rattle.protocol.proofs.Asking.{bad_one}
use Rattle.protocol.proofs.Ground.{Ground}
use Rattle.protocol.proofs.Hearing.{CanHear, turn}
use Rattle.protocol.proofs.Invariant.{Inv, InvAt, AskingInv, sleeps, woke, RatingInv, as_before, changed}
use Rattle.protocol.proofs.Past.{Past, past_of, past_step}
use Rattle.protocol.proofs.Phases.{in_phase, Count, BusyInv}
use Rattle.protocol.proofs.Rests.{Laws}
use Rattle.protocol.proofs.Steps.{Takes, turn_past, turn_accepted, busy_of}
use Rattle.protocol.proofs.Turning.{Turned, turns, again, spends, rewrites, leaves, advances, grants, tires, appends, completes}

-- an outcome's totals, through the tests of a call
true-guarded : (in_stage : Bool) (room least : ℕ) (r : Reader) (m : Move) (fs : List (List ℕ)) → (in_stage ≡ true → TotalsTrue m.outcome fs) → TotalsTrue (guarded in_stage room least r m).outcome fs
true-guarded true room least r m fs h = go (ltb room least)
  where
    go : (b : Bool) → TotalsTrue (cond b (refuse buffer_refused r) m).outcome fs
    go true = tt
    go false = h refl
true-guarded false room least r m fs h = tt

true_test : (b : Bool) (n : ℕ) (r : Reader) (m : Move) (fs : List (List ℕ)) → (b ≡ true → TotalsTrue m.outcome fs) → TotalsTrue (cond b m (refuse n r)).outcome fs
true_test true n r m fs h = h refl
true_test false n r m fs h = tt

true_either : (b : Bool) (m n : Move) (fs : List (List ℕ)) → TotalsTrue m.outcome fs → TotalsTrue n.outcome fs → TotalsTrue (cond b m n).outcome fs
true_either true m n fs h k = h
true_either false m n fs h k = k

pub wrote-over : (f : List ℕ) (n : ℕ) (e : Ending) (y : Says) (t : Totals) → wrote f n ≡ over e y t → ⊥
wrote-over f n e y t h = let z : ◌≡◌ {A = ℕ} 0 1 = cc in omega arith

answered-over : (n : ℕ) (s : Says) (k : Totals) (e : Ending) (y : Says) (t : Totals) → answered n s k ≡ over e y t → ⊥
answered-over n s k e y t h = let z : ◌≡◌ {A = ℕ} 0 1 = cc in omega arith

module _ {S : Type 0} (u : Setup S) (s₀ : S) where
  -- an exchange that ends against the reader's will met more than it could bear
  turn_ends : {dsi dri : ℕ} {ts : List Turn} {f : List ℕ} {x : Exchange} {w : Awake} {a : Reply} {fate : Fate} {q : Bool} {b g : List (List ℕ)} {e : Event} {m : Move} (n : Ending) (y : Says) (t : Totals)
      → Turned u s₀ dsi dri ts f x w a fate q b g e m
      → Count u s₀ x ts f q b
      → m.outcome ≡ over n y t
      → NoneWorse (u.reader.repeats / 2) (turn f fate a e ∷ ts)
      → bad_turns (turn f fate a e ∷ ts) + latest_waits u.app s₀ b ≤ u.reader.waits
      → ⊥
  turn_ends n y t (again ph c ng bd room) C h calm few = wrote-over _ _ n y t h
  turn_ends {ts = ts} {f = f} {a = a} {fate = fate} {e = e} n y t (spends ph c ng bd room) C h calm few =
      let one₁ = bad_one (turn f fate a e) bd in
      let s = C.since_bad in
      let k = calm.0 in
      omega arith
  turn_ends n y t (rewrites cut ok lo hi room) C h calm few = wrote-over _ _ n y t h
  turn_ends n y t (leaves room) C h calm few =
      let s = C.since_bad in
      let k = calm.0 in
      omega arith
  turn_ends n y t (advances cut ok mr) C h calm few = wrote-over _ _ n y t h
  turn_ends n y t (grants ok nr lo one₁ top w room) C h calm few = wrote-over _ _ n y t h
  turn_ends n y t (tires nr lo w room) C h calm few = omega arith
  turn_ends n y t (appends ahead ok nr cut mr) C h calm few = wrote-over _ _ n y t h
  turn_ends n y t (completes ahead ok cut mr) C h calm few = answered-over _ _ _ n y t h

  -- a turn's outcome has the totals of its exchange
  turn_totals : {dsi dri : ℕ} {ts : List Turn} {f : List ℕ} {x : Exchange} {w : Awake} {a : Reply} {fate : Fate} {q : Bool} {b g : List (List ℕ)} {e : Event} {m : Move} (fs : List (List ℕ)) → Turned u s₀ dsi dri ts f x w a fate q b g e m → x.totals ≡ tally fs → TotalsTrue m.outcome fs
  turn_totals fs (again ph c ng bd room) t = tt
  turn_totals fs (spends ph c ng bd room) t = t
  turn_totals fs (rewrites cut ok lo hi room) t = tt
  turn_totals fs (leaves room) t = t
  turn_totals fs (advances cut ok mr) t = tt
  turn_totals fs (grants ok nr lo one₁ top few room) t = tt
  turn_totals fs (tires nr lo few room) t = t
  turn_totals fs (appends ahead ok nr cut mr) t = tt
  turn_totals fs (completes ahead ok cut mr) t = t

  asking_totals : {p : Past S} → AskingInv u s₀ p → (r : AtsRead) → TotalsTrue (on_ats u.reader p.now.reader.link p.now.reader.exchange r).outcome (written_in p.log)
  asking_totals i (good a) = tt
  asking_totals (sleeps n c) (bad y) = true_either (ltb n u.reader.repeats) _ _ [] tt refl
  asking_totals (woke n c win m) (bad y) = true_either (ltb n u.reader.repeats) _ _ [] tt refl

  answer_totals : {dsi dri : ℕ} {p : Past S} → RatingInv u s₀ dsi dri p → (b : Bool) (y : Cause) → TotalsTrue (on_pps_answer u.reader dsi dri p.now.reader.link p.now.reader.exchange b y).outcome (written_in p.log)
  answer_totals i true y = tt
  answer_totals (as_before n c win lo hi ok) false y = true_either (ltb n u.reader.repeats) _ _ [] tt refl
  answer_totals (changed n c m) false y = true_either (ltb n u.reader.repeats) _ _ [] tt refl

  rating_totals : {dsi dri : ℕ} {p : Past S} → RatingInv u s₀ dsi dri p → (o : Opened) → TotalsTrue (on_pps u.reader dsi dri p.now.reader.link p.now.reader.exchange o).outcome (written_in p.log)
  rating_totals i (opened b) = answer_totals i _ _
  rating_totals i (unopened c) = answer_totals i false c

  closing_totals : (l : Link) (x : Exchange) (b : Bool) (fs : List (List ℕ)) → TotalsTrue (on_deselect u.reader l x b).outcome fs
  closing_totals l x true fs = tt
  closing_totals l x false fs = true_either (ltb x.since u.reader.repeats) _ _ fs tt tt

module _ (laws : Laws) {S : Type 0} (u : Setup S) (s₀ : S) (G : Ground u.reader u.card) (keeps : Keeps u.app) where
  busy_totals : {p : Past S} → BusyInv u s₀ p → (e : Event) → CanHear p.now.answer e → TotalsTrue (hear u.reader busy p.now.reader e).outcome (written_in p.log)
  busy_totals (in_phase {dsi} {dri} {ts = ts} {f = f} ph C) e can =
      turn_totals u s₀ (f ∷ frames_of ts) (turns u s₀ laws G keeps dsi dri ts f ph e can) (sym C.tallied)

  hear_totals : (st : Stage) (p : Past S) → InvAt u s₀ st p → (e : Event) → CanHear p.now.answer e → TotalsTrue (hear u.reader st p.now.reader e).outcome (written_in p.log)
  hear_totals unwoken p i e can = tt
  hear_totals asking p i e can = asking_totals u s₀ i (ats_in (size_of u.reader.fsdi) e)
  hear_totals woken p i e can = tt
  hear_totals (rating a b) p i e can = rating_totals u s₀ i (open_in (size_of u.reader.fsdi) e)
  hear_totals failed p i e can = tt
  hear_totals idle p i e can = tt
  hear_totals busy p i e can = busy_totals i e can
  hear_totals ended p i e can = tt
  hear_totals closing p i e can = closing_totals u s₀ _ _ _ _
  hear_totals closed p i e can = tt

  stop_totals : {p : Past S} → BusyInv u s₀ p → TotalsTrue (stops p.now.reader).outcome (written_in p.log)
  stop_totals (in_phase ph C) = sym C.tallied

  -- the totals of every outcome
  pub totals_of : (p : Past S) → Inv u s₀ p → (c : Call) → CanCome p.now c → TotalsTrue (do_call u.reader p.now.reader c).outcome (written_in p.log)
  totals_of p I (ask room) h = true-guarded (is_at unwoken p.now.reader) room greatest_frame p.now.reader (asks u.reader p.now.reader) (written_in p.log) (λ e. tt)
  totals_of p I (rate dsi dri room) h =
      true_test (both (leb dsi greatest_rate) (leb dri greatest_rate)) setting_refused p.now.reader
      (guarded (is_at woken p.now.reader) room greatest_frame p.now.reader (cond (offered p.now.reader.link.ta dsi dri) (rates u.reader p.now.reader dsi dri) (refuse rate_refused p.now.reader))) (written_in p.log)
      (λ e.
      true-guarded (is_at woken p.now.reader) room greatest_frame p.now.reader (cond (offered p.now.reader.link.ta dsi dri) (rates u.reader p.now.reader dsi dri) (refuse rate_refused p.now.reader)) (written_in p.log)
      (λ w. true_test (offered p.now.reader.link.ta dsi dri) rate_refused p.now.reader (rates u.reader p.now.reader dsi dri) (written_in p.log) (λ o. tt)))
  totals_of p I start h = true_test (is_at woken p.now.reader) stage_refused p.now.reader (to idle p.now.reader.link p.now.reader.exchange active) (written_in p.log) (λ e. tt)
  totals_of p I (begin c room) h =
      true-guarded (is_at idle p.now.reader) room greatest_frame p.now.reader (cond (is_command c) (begins p.now.reader c) (refuse length_refused p.now.reader)) (written_in p.log)
      (λ e. true_test (is_command c) length_refused p.now.reader (begins p.now.reader c) (written_in p.log) (λ o. tt))
  totals_of p I (heard f room) h =
      true-guarded (listens p.now.reader) room greatest_frame p.now.reader (hear u.reader p.now.reader.stage p.now.reader (bytes f)) (written_in p.log)
      (λ e. hear_totals p.now.reader.stage p I.stage (bytes f) h)
  totals_of p I (silent room) h =
      true-guarded (listens p.now.reader) room greatest_frame p.now.reader (hear u.reader p.now.reader.stage p.now.reader no_bytes) (written_in p.log)
      (λ e. hear_totals p.now.reader.stage p I.stage no_bytes tt)
  totals_of p I give_up h =
      true_test (is_at busy p.now.reader) stage_refused p.now.reader (stops p.now.reader) (written_in p.log)
      (λ e. stop_totals (busy_of u s₀ p.now.reader.stage p I.stage e))
  totals_of p I (close room) h = true-guarded (may_close p.now.reader) room greatest_frame p.now.reader (closes p.now.reader) (written_in p.log) (λ e. tt)
  totals_of p I (fetch room) h = true-guarded (not (is_at closed p.now.reader)) room longest_answer p.now.reader (record { reader = p.now.reader; outcome = fetched p.now.reader.exchange.answer }) (written_in p.log) (λ e. tt)

  -- an exchange that ends against the reader's will
  pub ends_of : {p : Past S} {c : Call} {e : Event} (fate : Fate) (n : Ending) (y : Says) (k : Totals) → BusyInv u s₀ p → Takes c e → CanHear p.now.answer e
      → do_call u.reader p.now.reader c ≡ hear u.reader p.now.reader.stage p.now.reader e
      → (do_call u.reader p.now.reader c).outcome ≡ over n y k
      → NoneWorse (u.reader.repeats / 2) (past_step u p (record { call = c; fate = fate })).log.turns
      → bad_turns (past_step u p (record { call = c; fate = fate })).log.turns + latest_waits u.app s₀ (past_step u p (record { call = c; fate = fate })).begun ≤ u.reader.waits
      → ⊥
  ends_of {p} {c} {e} fate n y k (in_phase {dsi} {dri} {ts = ts} {f = f} ph C) t can m o calm few =
      let tu = turns u s₀ laws G keeps dsi dri ts f ph e can in
      let is = ap (past_of u p (record { call = c; fate = fate })) m ∙ turn_past u t p fate (hear u.reader busy p.now.reader e) refl (turn_accepted u s₀ tu) in
      turn_ends u s₀ n y k tu C (sym (ap (λ (v : Move). v.outcome) m) ∙ o)
      (subst (λ (v : Past S). NoneWorse (u.reader.repeats / 2) v.log.turns) is calm)
      (subst (λ (v : Past S). bad_turns v.log.turns + latest_waits u.app s₀ v.begun ≤ u.reader.waits) is few)
