-- What the reader hears of the card is the model's call.
use Rattle.std.proofs.Common.{◌≡◌, ℕ, ap}
use Rattle.frames.specs.Sizes.{greatest_frame}
use Rattle.protocol.specs.Card.{Reply, quiet, reply}
use Rattle.protocol.specs.Reader.{Reader, Event, do_call, guarded, hear, listens}
use Rattle.protocol.specs.Settings.{ReaderSettings}
use Rattle.pair.specs.Airs.{event_in}
use Rattle.pair.specs.Deeds.{hearing}

pub reply_heard : (s : ReaderSettings) (r : Reader) (a : Reply) (e : Event) (room : ℕ) → e ≡ event_in a → guarded (listens r) room greatest_frame r (hear s r.stage r e) ≡ do_call s r (hearing a room)
reply_heard s r quiet e room is = ap (λ (e : Event). guarded (listens r) room greatest_frame r (hear s r.stage r e)) is
reply_heard s r (reply f) e room is =
    ap (λ (e : Event). guarded (listens r) room greatest_frame r (hear s r.stage r e)) is
