use Rattle.std.proofs.Common.{◌≡◌}
use Rattle.frames.proofs.Shifts.{shifts}
use Rattle.frames.proofs.check.taken_in.Given as goal

abbrev pub invariant-loop : goal.invariant-loop
invariant-loop l = l.r ≡ shifts l.counter l.initial.r
