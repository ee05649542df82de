-- What holds after every run, but for the doubt.
use Rattle.std.proofs.Common.{◌≡◌, ℕ, suc, ◌+◌, ◌*◌, ◌<◌, ◌≤◌, Bool, true, false, List, [], ◌∷◌, length, refl, ap, mul-le-mul_right, mul-one, mul-add, arith}
use Rattle.applications.specs.App.{Keeps}
use Rattle.protocol.specs.Agreement.{InSession, Agree, SameAtBoth}
use Rattle.protocol.specs.Card.{Awake}
use Rattle.protocol.specs.Field.{Setup, Step, IsRun, moved}
use Rattle.protocol.specs.Reader.{Stage, unwoken, asking, woken, rating, failed, idle, busy, ended, closing, closed, Totals}
use Rattle.protocol.specs.Turns.{Turn, frames_of, tally, counted, is_wait, is_fresh}
use Rattle.protocol.proofs.Ground.{Ground}
use Rattle.protocol.proofs.Invariant.{Inv, InvAt, at_start, sleeps, woke, is_woken, as_before, changed, unheard_of, heard_of, rests, is_ended, after_session, after_failure, is_closed}
use Rattle.protocol.proofs.Past.{Past, past_in}
use Rattle.protocol.proofs.Phases.{link_at, blocks_in, BusyInv, in_phase}
use Rattle.protocol.proofs.Rests.{Laws}
use Rattle.protocol.proofs.Saying.{no_command_lem}
use Rattle.protocol.proofs.Steps.{step_inv, IsUp, is_up, up_of}

-- each frame has one name
tally_sum : (fs : List (List ℕ)) → (tally fs).fresh + (tally fs).repeats + (tally fs).waits ≡ length fs
tally_sum [] = refl
tally_sum (f ∷ fs) = let h = tally_sum fs in go (is_wait f) (is_fresh f fs) h
  where
    go : (w n : Bool) → (tally fs).fresh + (tally fs).repeats + (tally fs).waits ≡ length fs → (counted w n (tally fs)).fresh + (counted w n (tally fs)).repeats + (counted w n (tally fs)).waits ≡ suc (length fs)
    go true n h = omega arith
    go false true h = omega arith
    go false false h = omega arith

frames_length : (ts : List Turn) → length (frames_of ts) ≡ length ts
frames_length [] = refl
frames_length (t ∷ ts) = ap suc (frames_length ts)

pub frames_at_most : (fs : List (List ℕ)) (limit waits : ℕ) → (tally fs).repeats ≤ (tally fs).fresh * limit → (tally fs).waits ≤ waits → length fs ≤ (tally fs).fresh * (limit + 1) + waits
frames_at_most fs limit waits r w =
    let s = tally_sum fs in
    let e : (tally fs).fresh * (limit + 1) ≡ (tally fs).fresh * limit + (tally fs).fresh * 1 = mul-add (tally fs).fresh limit 1 in
    let o : (tally fs).fresh * 1 ≡ (tally fs).fresh = mul-one (tally fs).fresh in
    omega arith

module _ (laws : Laws) {S : Type 0} (u : Setup S) (s₀ : S) (G : Ground u.reader u.card) (keeps : Keeps u.app) where
  -- what holds at every stage holds after every run
  pub run_inv : (run : List Step) → IsRun u s₀ run → Inv u s₀ (past_in u s₀ run)
  run_inv [] r = record { stage = at_start; told = no_command_lem u s₀ _ refl refl; log = record { repeats_few = omega arith; waits_few = omega arith } }
  run_inv (st ∷ run) r = step_inv laws u s₀ G keeps (past_in u s₀ run) (run_inv run r.1) st r.0

  up_agrees : {dsi dri : ℕ} {w : Awake} → IsUp u s₀ dsi dri w → SameAtBoth u.reader u.card (link_at u s₀ dsi dri) w
  up_agrees is_up = record { fsd = refl; fsc = refl; from_card = refl; to_card = refl; fwi = refl; number = refl; sent = refl }

  -- the parameters agree
  pub parameters_of : (st : Stage) (p : Past S) → InvAt u s₀ st p → InSession st → Agree u.reader u.card p.now.reader.link p.now.card
  parameters_of unwoken p i h = absurd h
  parameters_of asking p i h = absurd h
  parameters_of woken p i h = absurd h
  parameters_of (rating a b) p i h = absurd h
  parameters_of failed p i h = absurd h
  parameters_of idle p (rests e) h = record { fsd = refl; fsc = refl; from_card = refl; to_card = refl; fwi = refl; number = refl; sent = refl }
  parameters_of busy p (in_phase ph C) h = up_agrees (up_of u s₀ ph)
  parameters_of ended p is_ended h = record { fsd = refl; fsc = refl; from_card = refl; to_card = refl; fwi = refl; number = refl; sent = refl }
  parameters_of closing p i h = absurd h
  parameters_of closed p i h = absurd h

  -- nothing but the commands given moves the application
  pub state_of : (st : Stage) (p : Past S) → InvAt u s₀ st p → p.now.state ≡ moved u.app s₀ p.given
  state_of unwoken p at_start = refl
  state_of asking p (sleeps n c) = refl
  state_of asking p (woke n c win m) = refl
  state_of woken p (is_woken win) = refl
  state_of (rating a b) p (as_before n c win lo hi ok) = refl
  state_of (rating a b) p (changed n c m) = refl
  state_of failed p (unheard_of n c) = refl
  state_of failed p (heard_of n c dsi dri k) = refl
  state_of idle p (rests e) = refl
  state_of busy p (in_phase ph C) = refl
  state_of ended p is_ended = refl
  state_of closing p (after_session a T) = refl
  state_of closing p (after_failure (unheard_of n c)) = refl
  state_of closing p (after_failure (heard_of n c dsi dri k)) = refl
  state_of closed p is_closed = refl

  -- an open exchange has taken fewer events than the most frames that it can take
  pub moves_of : (p : Past S) → BusyInv u s₀ p → length p.log.turns < blocks_in u s₀ p.begun * (u.reader.repeats + 1) + u.reader.waits
  moves_of p (in_phase {x = x} {ts = ts} {f = f} {begun = b} ph C) =
      let L = u.reader.repeats in
      let t = C.tallied in
      let n = frames_at_most (f ∷ frames_of ts) L u.reader.waits
      (rw t (let h = C.repeats_most in let k = C.since_most in omega arith)) (rw t C.waits_most) in
      let e : (tally (f ∷ frames_of ts)).fresh ≡ x.totals.fresh = ap (λ (k : Totals). k.fresh) t in
      let few : (tally (f ∷ frames_of ts)).fresh ≤ blocks_in u s₀ b = (let h = C.blocks_left in omega arith) in
      let m : (tally (f ∷ frames_of ts)).fresh * (L + 1) ≤ blocks_in u s₀ b * (L + 1) = mul-le-mul_right (L + 1) few in
      let k = frames_length ts in
      omega arith
