-- An exchange, played: what it has come to after each act.
use Rattle.std.specs.Prelude.{ℕ, zero, suc, ◌+◌, Bool, true, false, cond, List}
use Rattle.card.specs.Told.{was_given}
use Rattle.frames.specs.Sizes.{greatest_frame}
use Rattle.pair.specs.Deeds.{Deed, begin, Act, step_for}
use Rattle.pair.specs.Runs.{acted, outcome_of, ran}
use Rattle.protocol.specs.Field.{Setup, World, step_from, whole}
use Rattle.protocol.specs.Reader.{Totals, Outcome, refused, wrote, wakes, active, answered, over, stopped, off, unanswered, fetched, outcome_number}
use Rattle.trial.specs.Benches.{waking}
use Rattle.sweeping.specs.Plans.{loss_in, fate_under, turn_of, plan_after}
use Rattle.sweeping.specs.declared.plan.Plan.{Plan}
use Rattle.sweeping.specs.declared.told.Times.{Times}
use Rattle.sweeping.specs.declared.told.Times.TheVariants.{Never, Once, Oftener}
use Rattle.sweeping.specs.declared.told.Told.{Told}

-- all frames that were written
abbrev pub written : Totals → ℕ
written t = t.fresh + t.repeats + t.waits

-- the frames of an exchange that has ended
abbrev pub frames_in : Outcome → ℕ
frames_in (refused n) = 0
frames_in (wrote f t) = 0
frames_in (wakes a) = 0
frames_in active = 0
frames_in (answered n s t) = written t
frames_in (over e s t) = written t
frames_in (stopped s t) = 0
frames_in off = 0
frames_in unanswered = 0
frames_in (fetched a) = 0

-- an exchange goes on while frames are written
abbrev pub writes : Outcome → Bool
writes (refused n) = false
writes (wrote f t) = true
writes (wakes a) = false
writes active = false
writes (answered n s t) = false
writes (over e s t) = false
writes (stopped s t) = false
writes off = false
writes unanswered = false
writes (fetched a) = false

abbrev pub told_of : Outcome → Told
told_of o = record { result = outcome_number o; frames = frames_in o; goes_on = writes o }

-- how often the application was given a command, after one more step
abbrev pub onwards : Times → Bool → Times
onwards t false = t
onwards Never true = Once
onwards Once true = Oftener
onwards Oftener true = Oftener

-- the world, what was told of the last call, and how often the application was given a command
pub record Trail (S : Type 0) : Type 0 where
  pub world : World S
  pub told : Told
  pub times : Times

abbrev pub trail : {S : Type 0} → World S → Told → Times → Trail S
trail w t n = record { world = w; told = t; times = n }

-- one act more; each is done with room for the greatest frame
abbrev pub and_then : {S : Type 0} → Setup S → World S → Times → Act → Trail S
and_then u w n a =
    trail (acted u greatest_frame w a) (told_of (outcome_of u greatest_frame w a))
    (onwards n (was_given (step_from u w (step_for w greatest_frame a)).command))

-- an act in which nothing is lost
abbrev pub unharmed : Deed → Act
unharmed d = record { deed = d; fate = whole }

-- a session that is woken unharmed, each call with room for the greatest frame
abbrev pub woken_from : {S : Type 0} → Setup S → World S → World S
woken_from u w = ran u greatest_frame w waking

-- A command is begun; its first frame has the fate of the first turn.
abbrev pub begun : {S : Type 0} → Setup S → World S → List ℕ → Plan → Trail S
begun u w command p = and_then u w Never (record { deed = begin command; fate = fate_under (loss_in p) })

-- the turns of a plan, as long as the exchange goes on, and no more than so many
unfoldable pub driven : {S : Type 0} → ℕ → Setup S → Plan → Trail S → Trail S
driven zero u p t = t
driven (suc n) u p t =
    cond t.told.goes_on (driven n u (plan_after p) (and_then u t.world t.times (turn_of p))) t
