-- A drive leads where its acts lead.
use Rattle.std.proofs.Common.{◌≡◌, ℕ, zero, suc, Bool, true, false, cond, List, [], ◌∷◌, refl}
use Rattle.frames.specs.Sizes.{greatest_frame}
use Rattle.pair.specs.Deeds.{Act}
use Rattle.pair.specs.Runs.{ran}
use Rattle.protocol.specs.Field.{Setup, outset}
use Rattle.sweeping.specs.Laws.{turns_of, RowsAreRuns}
use Rattle.sweeping.specs.Plans.{turn_of, plan_after}
use Rattle.sweeping.specs.Rows.{most_turns}
use Rattle.sweeping.specs.Trails.{Trail, and_then, woken_from, begun, driven}
use Rattle.sweeping.specs.declared.plan.Plan.{Plan}

-- a turn more, or none
one_more : {S : Type 0} (u : Setup S) (t next : Trail S) (a : Act) (rest : List Act) (b : Bool) → next.world ≡ ran u greatest_frame t.world (a ∷ rest) → (cond b next t).world ≡ ran u greatest_frame t.world (cond b (a ∷ rest) [])
one_more u t next a rest true e = e
one_more u t next a rest false e = refl

pub drives_run : {S : Type 0} (n : ℕ) (u : Setup S) (p : Plan) (t : Trail S) → (driven n u p t).world ≡ ran u greatest_frame t.world (turns_of n u p t)
unfolding driven turns_of
drives_run zero u p t = refl
drives_run (suc n) u p t =
    let t' = and_then u t.world t.times (turn_of p) in
    one_more u t (driven n u (plan_after p) t') (turn_of p) (turns_of n u (plan_after p) t') t.told.goes_on (drives_run n u (plan_after p) t')

pub rows_are_runs_lem : (S : Type 0) → RowsAreRuns S
rows_are_runs_lem S u s command p = drives_run most_turns u p (begun u (woken_from u (outset s)) command p)
