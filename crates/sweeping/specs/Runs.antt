-- Runs of losses, one after the other.
use Rattle.std.specs.Prelude.{ℕ, ◌+◌, ◌-◌, cond, Some, None, Option, ◌==◌, nat_lt}
use Rattle.sweeping.specs.declared.run.Run.{Run}
use Rattle.sweeping.specs.declared.plan.Plan.{Plan}

-- so many losses, from this turn on, by the digits of a number to base 4
abbrev pub losses_at : (count first code : ℕ) → Run
losses_at count first code = record { count = count; first = first; code = code }

-- the run in which nothing is lost
abbrev pub no_losses : Run
no_losses = losses_at 0 0 0

-- the greatest number of so many digits to base 4
abbrev pub last_code : ℕ → ℕ
last_code count = cond (count == 1) 3 (cond (count == 2) 15 (cond (count == 3) 63 (cond (count == 4) 255 1023)))

-- after a run of losses the next has its next digits, or starts at the next turn, or is longer by one
abbrev pub following : ℕ → ℕ → Run → Option Run
following losses turns r =
    cond (nat_lt r.code (last_code r.count)) (Some (losses_at r.count r.first (r.code + 1)))
    (cond (nat_lt r.first turns) (Some (losses_at r.count (r.first + 1) 0)) (cond (nat_lt r.count losses) (Some (losses_at (r.count + 1) 1 0)) None))

-- the first run of losses is one loss at the first turn
abbrev pub after_unharmed : ℕ → Option Run
after_unharmed turns = cond (turns == 0) None (Some (losses_at 1 1 0))

-- the turns before the first are whole
abbrev pub plan_from : Run → Plan
plan_from r = record { before = r.first - 1; count = r.count; code = r.code }
