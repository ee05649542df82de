use Rattle.std.proofs.Common.{◌≡◌, ◌-◌}
use Rattle.pair.specs.Pairs.{setup_seen}
use Rattle.sweeping.specs.Played.{trail_seen}
use Rattle.sweeping.specs.Rows.{most_turns}
use Rattle.sweeping.specs.Trails.{driven}
use Rattle.sweeping.proofs.play.drive.Given as goal

abbrev pub invariant-loop-turn : goal.invariant-loop-turn
invariant-loop-turn g l =
    (setup_seen g.A.Application.model l.pair ≡ setup_seen g.A.Application.model l.initial.pair)
    × (driven (most_turns - l._turn) (setup_seen g.A.Application.model l.initial.pair) l.plan (trail_seen l.pair l.tally)
    ≡ driven most_turns (setup_seen g.A.Application.model l.initial.pair) l.initial.plan (trail_seen l.initial.pair l.initial.tally))
