-- An exchange that is driven on and borne ends done.
use Rattle.std.proofs.Common.{◌≡◌, ℕ, zero, suc, ◌+◌, ◌*◌, ◌≤◌, Bool, true, cond, ◌⊎◌, List, ◌∷◌, length, sym, refl, ap, ◌∙◌, subst, inl, inr, ⊎_elim, suc-le-suc, arith}
use Rattle.applications.specs.App.{Keeps}
use Rattle.frames.specs.Sizes.{greatest_frame}
use Rattle.protocol.specs.Agreement.{Comes, the_reply, nothing, noise, Chance, Fair, event_for, driven, Bearable, EndsDone}
use Rattle.protocol.specs.Card.{Awake, Reply, quiet, reply}
use Rattle.protocol.specs.Field.{Setup, World, Step, Fate, IsRun, CanCome, after, move_of, begun_in}
use Rattle.protocol.specs.Reader.{busy, Call, Event, bytes, no_bytes, Move, over, Ending, Says, done, says, Totals, is_at, do_call, hear, Exchange}
use Rattle.protocol.specs.Turns.{Turn, log_in}
use Rattle.protocol.proofs.Agreed.{ends_badly}
use Rattle.protocol.proofs.Exactly.{can_hear}
use Rattle.protocol.proofs.Ground.{Ground}
use Rattle.protocol.proofs.Hearing.{CanHear}
use Rattle.protocol.proofs.Past.{Past, past_of, past_in}
use Rattle.protocol.proofs.Phases.{in_phase, BusyInv, blocks_in}
use Rattle.protocol.proofs.Rests.{Laws}
use Rattle.protocol.proofs.Runs.{run_inv, moves_of}
use Rattle.protocol.proofs.Steps.{Takes, by_bytes, by_silence, turn_past, turn_accepted, busy_of}
use Rattle.protocol.proofs.Turning.{Turned, turns, again, spends, rewrites, leaves, advances, grants, tires, appends, completes}
use Rattle.protocol.proofs.Views.{crosses-reader}

-- the event of a chance
abbrev event_of : Reply → Comes → Event
event_of quiet the_reply = no_bytes
event_of (reply f) the_reply = bytes f
event_of quiet nothing = no_bytes
event_of (reply f) nothing = no_bytes
event_of quiet (noise g) = bytes g
event_of (reply f) (noise g) = bytes g

takes_of : (a : Reply) (x : Comes) → Takes (event_for a x) (event_of a x)
takes_of quiet the_reply = by_silence greatest_frame
takes_of (reply f) the_reply = by_bytes f greatest_frame
takes_of quiet nothing = by_silence greatest_frame
takes_of (reply f) nothing = by_silence greatest_frame
takes_of quiet (noise g) = by_bytes g greatest_frame
takes_of (reply f) (noise g) = by_bytes g greatest_frame

comes_of : {S : Type 0} (w : World S) (a : Reply) (x : Comes) → w.answer ≡ a → Fair x → CanCome w (event_for a x)
comes_of w quiet the_reply e h = tt
comes_of w (reply f) the_reply e h = inl e
comes_of w quiet nothing e h = tt
comes_of w (reply f) nothing e h = tt
comes_of w quiet (noise g) e h = inr h
comes_of w (reply f) (noise g) e h = inr h

module _ {S : Type 0} (u : Setup S) (s₀ : S) where
  -- after a turn the exchange is open, or done, or it ended against the reader's will
  abbrev Next : Move → Type 0
  Next m = (is_at busy m.reader ≡ true) ⊎ ((says m.reader ≡ done) ⊎ ((e : Ending) × (y : Says) × (t : Totals) × (m.outcome ≡ over e y t)))

  next_of : {dsi dri : ℕ} {ts : List Turn} {f : List ℕ} {x : Exchange} {w : Awake} {a : Reply} {fate : Fate} {q : Bool} {b g : List (List ℕ)} {e : Event} {m : Move} → Turned u s₀ dsi dri ts f x w a fate q b g e m → Next m
  next_of (again ph c ng bad room) = inl refl
  next_of (spends ph c ng bad room) = inr (inr (_, _, _, refl))
  next_of (rewrites cut ok lo hi room) = inl refl
  next_of (leaves room) = inr (inr (_, _, _, refl))
  next_of (advances cut ok mr) = inl refl
  next_of (grants ok nr lo one₁ top few room) = inl refl
  next_of (tires nr lo few room) = inr (inr (_, _, _, refl))
  next_of (appends ahead ok nr cut mr) = inl refl
  next_of (completes ahead ok cut mr) = inr (inl refl)

  -- a chance is taken in an open exchange
  busy_move : {p : Past S} → BusyInv u s₀ p → (a : Reply) (x : Comes) → do_call u.reader p.now.reader (event_for a x) ≡ hear u.reader busy p.now.reader (event_of a x)
  busy_move (in_phase ph C) quiet the_reply = refl
  busy_move (in_phase ph C) (reply f) the_reply = refl
  busy_move (in_phase ph C) quiet nothing = refl
  busy_move (in_phase ph C) (reply f) nothing = refl
  busy_move (in_phase ph C) quiet (noise g) = refl
  busy_move (in_phase ph C) (reply f) (noise g) = refl

  -- one more turn: one more event, the same command
  pub record Turnover (p p' : Past S) (m : Move) : Type 0 where
    pub begun_same : p'.begun ≡ p.begun
    pub longer : length p'.log.turns ≡ suc (length p.log.turns)
    pub next : Next m

  module _ (laws : Laws) (G : Ground u.reader u.card) (keeps : Keeps u.app) where
    turnover : {p : Past S} {c : Call} {e : Event} (fate : Fate) → BusyInv u s₀ p → Takes c e → CanHear p.now.answer e → Turnover p (past_of u p (record { call = c; fate = fate }) (hear u.reader busy p.now.reader e)) (hear u.reader busy p.now.reader e)
    turnover {p} {c} {e} fate (in_phase {dsi} {dri} {ts = ts} {f = f} ph C) t can =
        let tu = turns u s₀ laws G keeps dsi dri ts f ph e can in
        let is = turn_past u t p fate (hear u.reader busy p.now.reader e) refl (turn_accepted u s₀ tu) in
        record { begun_same = ap (λ (v : Past S). v.begun) is; longer = ap (λ (v : Past S). length v.log.turns) is; next = next_of tu }

    module _ (run : List Step) (r : IsRun u s₀ run) (b : is_at busy (after u s₀ run).reader ≡ true) (chances : ℕ → Chance) (fair : (k : ℕ) → Fair (chances k).comes) (calm : (k : ℕ) → Bearable u s₀ (driven u s₀ run chances k)) where
      abbrev at : ℕ → List Step
      at k = driven u s₀ run chances k

      -- still open after k chances, each taken
      record Still (k : ℕ) : Type 0 where
        is_run : IsRun u s₀ (at k)
        same : begun_in u s₀ (at k) ≡ begun_in u s₀ run
        open_still : is_at busy (after u s₀ (at k)).reader ≡ true
        taken : k ≤ length (log_in u s₀ (at k)).turns

      abbrev Done : Type 0
      Done = (k : ℕ) × (says (after u s₀ (at k)).reader ≡ done)

      abbrev step_at : ℕ → Step
      step_at k = record { call = event_for (after u s₀ (at k)).answer (chances k).comes; fate = (chances k).fate }

      -- the world after k chances, and what the next one does
      abbrev world_at : ℕ → World S
      world_at k = after u s₀ (at k)

      abbrev heard_at : ℕ → Move
      heard_at k = hear u.reader busy (world_at k).reader (event_of (world_at k).answer (chances k).comes)

      can_at : (k : ℕ) → CanCome (world_at k) (step_at k).call
      can_at k = comes_of (world_at k) (world_at k).answer (chances k).comes refl (fair k)

      busy_at : (k : ℕ) → Still k → BusyInv u s₀ (past_in u s₀ (at k))
      busy_at k s = busy_of u s₀ (world_at k).reader.stage (past_in u s₀ (at k)) (run_inv laws u s₀ G keeps (at k) s.is_run).stage s.open_still

      move_at : (k : ℕ) → Still k → move_of u (world_at k) (step_at k).call ≡ heard_at k
      move_at k s = busy_move (busy_at k s) (world_at k).answer (chances k).comes

      turn_at : (k : ℕ) → Still k → Turnover (past_in u s₀ (at k)) (past_of u (past_in u s₀ (at k)) (step_at k) (heard_at k)) (heard_at k)
      turn_at k s =
          turnover (chances k).fate (busy_at k s) (takes_of (world_at k).answer (chances k).comes)
          (can_hear laws u s₀ G keeps (world_at k) (takes_of (world_at k).answer (chances k).comes) (can_at k))

      reader_at : (k : ℕ) → Still k → (after u s₀ (step_at k ∷ at k)).reader ≡ (heard_at k).reader
      reader_at k s =
          crosses-reader u (world_at k) (move_of u (world_at k) (step_at k).call).reader (move_of u (world_at k) (step_at k).call).outcome (chances k).fate
          ∙ ap (λ (v : Move). v.reader) (move_at k s)

      still_on : (k : ℕ) → Still k → at (suc k) ≡ step_at k ∷ at k → is_at busy (heard_at k).reader ≡ true → Still (suc k)
      still_on k s e h =
          record {
            is_run = subst (λ (v : List Step). IsRun u s₀ v) (sym e) (can_at k, s.is_run);
            same = ap (begun_in u s₀) e ∙ (ap (λ (v : Move). (past_of u (past_in u s₀ (at k)) (step_at k) v).begun) (move_at k s) ∙ ((turn_at k s).begun_same ∙ s.same));
            open_still = ap (λ (v : List Step). is_at busy (after u s₀ v).reader) e ∙ (ap (is_at busy) (reader_at k s) ∙ h);
            taken =
                let l : length (log_in u s₀ (at (suc k))).turns ≡ suc (length (log_in u s₀ (at k)).turns) = ap (λ (v : List Step). length (log_in u s₀ v).turns) e ∙ (ap (λ (v : Move). length (past_of u (past_in u s₀ (at k)) (step_at k) v).log.turns) (move_at k s) ∙ (turn_at k s).longer) in
                let q : k ≤ length (log_in u s₀ (at k)).turns = s.taken in
                subst (λ (n : ℕ). suc k ≤ n) (sym l) (suc-le-suc q);
          }

      done_on : (k : ℕ) → Still k → at (suc k) ≡ step_at k ∷ at k → says (heard_at k).reader ≡ done → Done
      done_on k s e d = (suc k, ap (λ (v : List Step). says (after u s₀ v).reader) e ∙ (ap says (reader_at k s) ∙ d))

      never_over : (k : ℕ) → Still k → at (suc k) ≡ step_at k ∷ at k → (n : Ending) (y : Says) (t : Totals) → (heard_at k).outcome ≡ over n y t → ⊥
      never_over k s e n y t o =
          ends_badly laws u s₀ G keeps (at k) s.is_run (step_at k).call (chances k).fate n y t (can_at k) s.open_still (ap (λ (v : Move). v.outcome) (move_at k s) ∙ o)
          (subst (λ (v : List Step). Bearable u s₀ v) e (calm (suc k)))

      choose : (k : ℕ) → Still k → at (suc k) ≡ step_at k ∷ at k → Next (heard_at k) → Still (suc k) ⊎ Done
      choose k s e (inl h) = inl (still_on k s e h)
      choose k s e (inr (inl d)) = inr (done_on k s e d)
      choose k s e (inr (inr x)) = absurd (never_over k s e x.0 x.1 x.2 x.3)

      one_on : (k : ℕ) → Still k → at (suc k) ≡ step_at k ∷ at k → Still (suc k) ⊎ Done
      one_on k s e = choose k s e (turn_at k s).next

      onward : (k : ℕ) → Still k ⊎ Done
      onward zero = inl (record { is_run = r; same = refl; open_still = b; taken = omega arith })
      onward (suc k) = ⊎_elim (λ s. one_on k s (ap (λ (t : Bool). cond t (step_at k ∷ at k) (at k)) s.open_still)) (λ d. inr d) (onward k)

      -- it cannot stay open for more chances than the most frames that it can take
      pub ends : Done
      ends =
          let bound = blocks_in u s₀ (begun_in u s₀ run) * (u.reader.repeats + 1) + u.reader.waits in
          ⊎_elim
          (λ s.
          let p = past_in u s₀ (at bound) in
          let i : BusyInv u s₀ p = busy_of u s₀ (after u s₀ (at bound)).reader.stage p (run_inv laws u s₀ G keeps (at bound) s.is_run).stage s.open_still in
          let few = moves_of laws u s₀ G keeps p i in
          let same : blocks_in u s₀ p.begun * (u.reader.repeats + 1) + u.reader.waits ≡ bound = ap (λ (v : List (List ℕ)). blocks_in u s₀ v * (u.reader.repeats + 1) + u.reader.waits) s.same in
          let q = s.taken in
          absurd (omega arith))
          (λ d. d) (onward bound)

    pub ends_done : (run : List Step) → IsRun u s₀ run → EndsDone u s₀ run
    ends_done run r b chances fair calm = ends run r b chances fair calm
