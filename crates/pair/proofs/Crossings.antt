-- A pair after its card took a frame.
use Rattle.std.proofs.Common.{◌≡◌, Bool}
use Rattle.applications.specs.App.{App}
use Rattle.card.specs.Held as held
use Rattle.card.specs.Told.{was_given}
use Rattle.card.specs.declared.Card as coded
use Rattle.protocol.specs.Card.{CardMove, Reply}
use Rattle.protocol.specs.Field.{world, crossing}
use Rattle.reader.specs.Sessions.{session_seen, settings_of}
use Rattle.pair.specs.Airs.{reply_seen}
use Rattle.pair.specs.Pairs.{Crossed}
use Rattle.pair.specs.declared.air.Air.{Air}
use Rattle.pair.specs.declared.pair.Pair.{Pair}

module _ {A : Type 0} (app : App A) (before : Pair A) (card : coded.Card A) (air : Air) (given : Bool) (m : CardMove A) (a : Reply) where
  abbrev after : Pair A
  after = record { reader = before.reader; card = card; air = air }

  pub crossed_by : given ≡ was_given m.command → held.card_of card.state ≡ m.card → card.application ≡ m.state → card.settings ≡ before.card.settings → reply_seen air ≡ a → Crossed app (crossing (world (session_seen before.reader) m.card m.state a) m.command) before after given
  crossed_by g c s set r =
      record {
        setup = λ i. record { reader = settings_of before.reader; card = held.settings_of (set i); app = app };
        world = λ i. world (session_seen before.reader) (c i) (s i) (r i);
        command = g;
      }
