-- What the playing of an exchange has to show.
use Rattle.std.specs.Prelude.{◌≡◌}
use Rattle.applications.specs.App.{App}
use Rattle.pair.specs.Pairs.{world_seen, setup_seen}
use Rattle.pair.specs.declared.pair.Pair.{Pair}
use Rattle.sweeping.specs.Trails.{Trail, trail}
use Rattle.sweeping.specs.declared.play.Tally.{Tally}

-- a pair, with what has been told so far
abbrev pub trail_seen : {A : Type 0} → Pair A → Tally → Trail A
trail_seen p t = trail (world_seen p) t.told t.times

-- a pair that keeps its settings and has come to this
pub record Acted {A : Type 0} (app : App A) (before after : Pair A) (t : Tally) (x : Trail A) : Type 0 where
  pub setup : setup_seen app after ≡ setup_seen app before
  pub trail : trail_seen after t ≡ x
