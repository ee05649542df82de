-- Acts in time order are a run of the model.
use Rattle.std.proofs.Common.{◌≡◌, ℕ, List, [], ◌∷◌, length, sym, refl, ap, ◌∙◌, subst, inl, inr, arith}
use Rattle.frames.specs.Causes.{Cause}
use Rattle.frames.specs.Check.{seal, Opened, opened, unopened, open_frame}
use Rattle.frames.specs.Laws.{Noise}
use Rattle.frames.proofs.FrameLaws.{opens_to_its_body}
use Rattle.protocol.specs.Card.{Reply, quiet, reply}
use Rattle.protocol.specs.Field.{Setup, World, Step, outset, step_from, after, IsRun, CanCome}
use Rattle.pair.specs.Deeds.{Deed, ask, start, begin, hear, mute, noise, give_up, close, fetch, Act, hearing, call_for, step_for, unless_opened}
use Rattle.pair.specs.Runs.{acted, ran, steps, ActsAreRuns}

-- the card's reply can be heard, and silence
reply_comes : {S : Type 0} (w : World S) (room : ℕ) (a : Reply) → w.answer ≡ a → CanCome w (hearing a room)
reply_comes w room quiet e = tt
reply_comes w room (reply f) e = inl e

-- bytes that do not open are noise
pub unopened_noise : (f : List ℕ) (why : Cause) → open_frame (length f) f ≡ unopened why → Noise f
unopened_noise f why e body long is =
    let opens : open_frame (length f) f ≡ opened body =
    ap (λ g. open_frame (length g) g) (sym is) ∙ opens_to_its_body (length (seal body)) body long (omega arith) in
    clash (sym opens ∙ e)
  where
    clash : {body : List ℕ} {why : Cause} → opened body ≡ unopened why → ⊥
    clash e = let z : ◌≡◌ {A = ℕ} 0 1 = cc in omega arith

noise_comes : {S : Type 0} (w : World S) (room : ℕ) (f : List ℕ) (o : Opened) → open_frame (length f) f ≡ o → CanCome w (unless_opened o f room)
noise_comes w room f (opened body) e = tt
noise_comes w room f (unopened why) e = inr (unopened_noise f why e)

pub can_come : {S : Type 0} (w : World S) (room : ℕ) (d : Deed) → CanCome w (call_for w room d)
can_come w room ask = tt
can_come w room start = tt
can_come w room (begin c) = tt
can_come w room hear = reply_comes w room w.answer refl
can_come w room mute = tt
can_come w room (noise f) = noise_comes w room f (open_frame (length f) f) refl
can_come w room give_up = tt
can_come w room close = tt
can_come w room fetch = tt

module _ {S : Type 0} (u : Setup S) (room : ℕ) (s : S) where
  pub in_order : (acts : List Act) (w : World S) (before : List Step) → IsRun u s before → w ≡ after u s before → IsRun u s (steps u room w acts before) × (ran u room w acts ≡ after u s (steps u room w acts before))
  in_order [] w before run is = (run, is)
  in_order (a ∷ rest) w before run is =
      in_order rest (acted u room w a) (step_for w room a ∷ before)
      (subst (λ v. CanCome v (call_for w room a.deed)) is (can_come w room a.deed), run)
      (ap (λ v. (step_from u v (step_for w room a)).after) is)

pub acts_are_runs_lem : (S : Type 0) → ActsAreRuns S
acts_are_runs_lem S u room s acts = in_order u room s acts (outset s) [] tt refl
