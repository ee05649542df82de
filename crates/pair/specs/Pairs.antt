-- What a pair stands for, and what each of its calls has to show.
use Rattle.std.specs.Prelude.{◌≡◌, ℕ, ◌≤◌, Bool, List, length}
use Rattle.applications.specs.App.{App}
use Rattle.card.specs.Held as held
use Rattle.card.specs.Told.{was_given}
use Rattle.exchange.specs.Moves.{buffer_after}
use Rattle.protocol.specs.Field.{Setup, World, world, Crossing, step_from, Fate, whole, lost, spoilt}
use Rattle.reader.specs.Sessions.{session_seen, settings_of}
use Rattle.pair.specs.Airs.{reply_seen}
use Rattle.pair.specs.Answers.{answer_seen, size_in}
use Rattle.pair.specs.Deeds.{Deed, ask, start, begin, hear, mute, noise, give_up, close, fetch, Act, step_for}
use Rattle.pair.specs.Runs.{outcome_of}
use Rattle.pair.specs.declared.call.Call.{Call}
use Rattle.pair.specs.declared.call.Call.TheVariants as calls
use Rattle.pair.specs.declared.call.Fate as coded
use Rattle.pair.specs.declared.call.Fate.TheVariants.{Whole, Lost, Spoilt}
use Rattle.pair.specs.declared.outcome.Answer.{Answer}
use Rattle.pair.specs.declared.pair.Pair.{Pair}

abbrev pub fate_seen : coded.Fate → Fate
fate_seen Whole = whole
fate_seen Lost = lost
fate_seen Spoilt = spoilt

abbrev pub deed_seen : Call → Deed
deed_seen calls.Ask = ask
deed_seen calls.Start = start
deed_seen (calls.Begin command) = begin command.now
deed_seen calls.Hear = hear
deed_seen calls.Mute = mute
deed_seen (calls.Noise bytes) = noise bytes.now
deed_seen calls.GiveUp = give_up
deed_seen calls.Close = close
deed_seen calls.Fetch = fetch

abbrev pub act_seen : Call → coded.Fate → Act
act_seen c f = record { deed = deed_seen c; fate = fate_seen f }

-- the world that a pair is in
abbrev pub world_seen : {A : Type 0} → Pair A → World A
world_seen p = world (session_seen p.reader) (held.card_of p.card.state) p.card.application (reply_seen p.air)

-- what both ends are set to, with the meaning of the application
abbrev pub setup_seen : {A : Type 0} → App A → Pair A → Setup A
setup_seen app p = record { reader = settings_of p.reader; card = held.settings_of p.card.settings; app = app }

-- a pair that has crossed over: its settings are kept, its world is the one after, and it is told whether the application
-- was given a command
pub record Crossed {A : Type 0} (app : App A) (x : Crossing A) (before after : Pair A) (given : Bool) : Type 0 where
  pub setup : setup_seen app after ≡ setup_seen app before
  pub world : world_seen after ≡ x.after
  pub command : given ≡ was_given x.command

-- A call does what the model's step does: what it answers, every byte of the buffer, both ends and the field.
pub record Steps {A : Type 0} (app : App A) (act : Act) (before after : Pair A) (answer : Answer) (old new : List ℕ) : Type 0 where
  pub outcome : answer_seen answer.outcome new ≡ outcome_of (setup_seen app before) (length old) (world_seen before) act
  pub bytes : new ≡ buffer_after (outcome_of (setup_seen app before) (length old) (world_seen before) act) old
  pub within : size_in answer.outcome ≤ length new
  pub crossed : Crossed app (step_from (setup_seen app before) (world_seen before) (step_for (world_seen before) (length old) act)) before after answer.given
