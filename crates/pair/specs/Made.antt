-- A pair at the outset.
use Rattle.std.specs.Prelude.{◌≡◌, true, false, Ok, Err, Result}
use Rattle.applications.specs.App.{App}
use Rattle.card.specs.Held.{settings_of, settings_good}
use Rattle.card.specs.declared.CardSettings.{CardSettings}
use Rattle.frames.specs.Check.{both}
use Rattle.frames.specs.declared.Refusal.{Refusal}
use Rattle.frames.specs.declared.Refusal.TheVariants.{Setting}
use Rattle.protocol.specs.Field.{outset}
use Rattle.protocol.specs.Settings.{reader_in_range}
use Rattle.stages.specs.Setups.{wished}
use Rattle.stages.specs.declared.Settings.{Settings}
use Rattle.pair.specs.Pairs.{world_seen, setup_seen}
use Rattle.pair.specs.declared.pair.Pair.{Pair}

-- both ends as they are set, at the outset of a run; or, for settings out of range, the application handed back with
-- refusal 1
abbrev pub Met : {A : Type 0} → App A → Settings → CardSettings → A → Result (Pair A) (A × Refusal) → Type 0
Met app reader card application (Ok p) =
    (both (reader_in_range (wished reader)) (settings_good card) ≡ true)
    × (setup_seen app p ≡ record { reader = wished reader; card = settings_of card; app = app })
    × (world_seen p ≡ outset application)
Met app reader card application (Err e) =
    (both (reader_in_range (wished reader)) (settings_good card) ≡ false) × (e.0 ≡ application) × (e.1 ≡ Setting)
