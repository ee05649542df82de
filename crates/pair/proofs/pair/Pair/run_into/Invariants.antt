use Rattle.std.proofs.Common.{◌≡◌, ◌+◌, ◌≤◌, map, length, drop, vec_items, vec_len, vec_capacity}
use Rattle.pair.specs.Records.{step_seen}
use Rattle.pair.proofs.Going.{GoingInto}
use Rattle.pair.proofs.pair.Pair.run_into.Given as goal

abbrev pub invariant-loop-step : goal.invariant-loop-step
invariant-loop-step g l =
    (vec_len l.records ≡ vec_len l.initial.records + l.step-index)
    × (vec_len l.initial.records + length l.steps ≤ vec_capacity l.records)
    × GoingInto g.A.Application.model (map step_seen l.steps) (map step_seen (drop l.step-index l.steps)) l.initial.self l.self (vec_items l.initial.records) (vec_items l.records)
