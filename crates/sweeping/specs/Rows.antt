-- How a run ended.
use Rattle.std.specs.Prelude.{ℕ, Bool, true, false, cond, List, replicate}
use Rattle.std.proofs.lemmas.List.{length-replicate}
use Rattle.applications.specs.App.{App}
use Rattle.applications.specs.Metre.{metre, counting}
use Rattle.applications.specs.Yarn.{yarn, record_size}
use Rattle.applications.specs.declared.yarn.Yarn.{Yarn}
use Rattle.frames.specs.Check.{both}
use Rattle.protocol.specs.Field.{Setup, World, outset}
use Rattle.protocol.specs.Reader.{Says, none, done, taken, not_taken, doubt, says}
use Rattle.protocol.specs.Settings.{ReaderSettings, CardSettings, reader_in_range, card_in_range}
use Rattle.script.specs.Setup as script
use Rattle.script.specs.Setup.{Chosen, Values}
use Rattle.trial.specs.Benches.{reader_for, card_for}
use Rattle.sweeping.specs.Trails.{Trail, woken_from, begun, driven}
use Rattle.sweeping.specs.declared.plan.Plan.{Plan}
use Rattle.sweeping.specs.declared.told.Times.{Times}
use Rattle.sweeping.specs.declared.told.Times.TheVariants.{Never, Once, Oftener}

-- the exchange's number, the frames written, what the reader says, and how often the application was given the command
pub record Row : Type 0 where
  pub result : ℕ
  pub frames : ℕ
  pub says : Says
  pub times : Times

abbrev pub row_after : {S : Type 0} → Trail S → Row
row_after t =
    record {
      result = t.told.result;
      frames = t.told.frames;
      says = says t.world.reader;
      times = t.times;
    }

-- more turns than an exchange can have
abbrev pub most_turns : ℕ
most_turns = 100000

-- the exchange of a command, from a world in which the card is not yet woken
unfoldable pub row_played : {S : Type 0} → Setup S → World S → List ℕ → Plan → Row
row_played u w command p = row_after (driven most_turns u p (begun u (woken_from u w) command p))

-- settings that are refused
abbrev pub unplayed : Row
unplayed = record { result = 1; frames = 0; says = none; times = Never }

-- the exchange of a command, from the outset
unfoldable pub row_for : {S : Type 0} → App S → ReaderSettings → CardSettings → S → List ℕ → Plan → Row
row_for app reader card s command p =
    cond (both (reader_in_range reader) (card_in_range card))
    (row_played (record { reader = reader; card = card; app = app }) (outset s) command p) unplayed

-- a yarn record of one byte throughout
abbrev pub filled : ℕ → Yarn
filled b = record { bytes = replicate record_size b; full = length-replicate record_size b }

abbrev pub row_on : Chosen → ReaderSettings → CardSettings → List ℕ → Plan → Row
row_on (script.metre n) reader card command p = row_for metre reader card (counting n) command p
row_on (script.yarn b) reader card command p = row_for yarn reader card (filled b) command p

-- the exchange of a command with a set-up
unfoldable pub row_of : Values → List ℕ → Plan → Row
row_of v command p = row_on v.app (reader_for v) (card_for v) command p

-- What the reader says is not what is true at the card, or the application was given the command more than once.
abbrev pub disagrees : Says → Times → Bool
disagrees none Never = false
disagrees none Once = false
disagrees none Oftener = true
disagrees done Never = true
disagrees done Once = false
disagrees done Oftener = true
disagrees taken Never = true
disagrees taken Once = false
disagrees taken Oftener = true
disagrees not_taken Never = false
disagrees not_taken Once = true
disagrees not_taken Oftener = true
disagrees doubt Never = false
disagrees doubt Once = false
disagrees doubt Oftener = true
