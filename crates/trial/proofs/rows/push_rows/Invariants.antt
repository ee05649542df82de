use Rattle.std.proofs.Common.{◌≡◌, ◌+◌, ◌≤◌, ◌++◌, string_bytes}
use Rattle.std.specs.Iterator.Adapters.{enumerate_count, enumerate_source}
use Rattle.pair.specs.Pairs.{world_seen, setup_seen}
use Rattle.text.specs.LineViews.{lines_left}
use Rattle.trial.specs.Outputs.{rows_from, first_call}
use Rattle.trial.proofs.rows.push_rows.Given as goal

abbrev pub invariant-loop-i : goal.invariant-loop-i
invariant-loop-i g l =
    (string_bytes l.out ++ rows_from (setup_seen g.A.Application.model l.pair) (world_seen l.pair) (4 + enumerate_count l.i-iterator) (lines_left (enumerate_source l.i-iterator))
    ≡ string_bytes l.initial.out ++ rows_from (setup_seen g.A.Application.model l.initial.pair) (world_seen l.initial.pair) first_call (lines_left l.initial.calls))
    × (enumerate_count l.i-iterator ≤ 512)
