-- The bench at its start.
use Rattle.std.specs.Prelude.{◌≡◌, true, false, Ok, Err, Result}
use Rattle.applications.specs.App.{App}
use Rattle.frames.specs.Check.{both}
use Rattle.frames.specs.declared.Refusal.{Refusal}
use Rattle.pair.specs.Pairs.{world_seen, setup_seen}
use Rattle.pair.specs.declared.Pair.{Pair}
use Rattle.protocol.specs.Settings.{reader_in_range, card_in_range}
use Rattle.script.specs.Setup.{Values}
use Rattle.trial.specs.Benches.{reader_for, card_for, bench_for, woken}

-- both ends as they are set, with the card woken; or none, where a setting is out of its range
abbrev pub Stands : {A : Type 0} → App A → Values → A → Result (Pair A) (A × Refusal) → Type 0
Stands app v application (Ok p) =
    (both (reader_in_range (reader_for v)) (card_in_range (card_for v)) ≡ true)
    × (setup_seen app p ≡ bench_for app v)
    × (world_seen p ≡ woken (bench_for app v) application)
Stands app v application (Err e) = both (reader_in_range (reader_for v)) (card_in_range (card_for v)) ≡ false
