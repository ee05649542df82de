-- What a session is set to.
use Rattle.std.specs.Prelude.{◌≡◌, cond, Ok, Err, Result}
use Rattle.activation.specs.declared.request.Rats.{Rats}
use Rattle.exchange.specs.declared.turn.Limits.{Limits}
use Rattle.frames.specs.Sizes.{size_of}
use Rattle.frames.specs.declared.refusal.Refusal.{Refusal}
use Rattle.frames.specs.declared.refusal.Refusal.TheVariants.{Setting}
use Rattle.protocol.specs.Settings.{ReaderSettings, reader_in_range}
use Rattle.stages.specs.declared.settings.Settings.{Settings}
use Rattle.stages.specs.declared.setup.Setup.{Setup}

-- what a host wishes
abbrev pub wished : Settings → ReaderSettings
wished s = record { fsdi = s.fsdi; cid = s.cid; repeats = s.repeats; waits = s.waits }

-- what a session is set to
abbrev pub setup_seen : Setup → ReaderSettings
setup_seen s = record { fsdi = s.fsdi; cid = s.cid; repeats = s.repeats; waits = s.waits }

-- settings in their ranges, or 1
abbrev pub setup_made : Result Setup Refusal → Result ReaderSettings Refusal
setup_made (Ok s) = Ok (setup_seen s)
setup_made (Err why) = Err why

abbrev pub setup_for : ReaderSettings → Result ReaderSettings Refusal
setup_for s = cond (reader_in_range s) (Ok s) (Err Setting)

-- what a host wishes is taken as it is where it is in its ranges
abbrev pub SetsUp : Settings → Result Setup Refusal → Type 0
SetsUp s r = setup_made r ≡ setup_for (wished s)

-- all settings 0
abbrev pub all_least : ReaderSettings
all_least = record { fsdi = 0; cid = 0; repeats = 0; waits = 0 }

-- what holds in an exchange
abbrev pub limits_for : ReaderSettings → Limits
limits_for s = record { fsd = size_of s.fsdi; repeats = s.repeats; waits = s.waits }

-- what RATS says
abbrev pub rats_for : ReaderSettings → Rats
rats_for s = record { fsdi = s.fsdi; cid = s.cid }
