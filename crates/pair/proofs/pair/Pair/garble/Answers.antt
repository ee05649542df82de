use Rattle.std.proofs.Common.{ℕ, List, [], ◌∷◌, subst}
use Rattle.card.specs.Calls.{move_at}
use Rattle.card.specs.Held.{settings_of, card_of}
use Rattle.frames.proofs.FrameLaws.{zeros_are_noise}
use Rattle.protocol.specs.Card.{quiet}
use Rattle.protocol.specs.Field.{world, crossing}
use Rattle.protocol.proofs.Garbling.{noise_is_garbled_lem}
use Rattle.protocol.proofs.Rested.{laws}
use Rattle.reader.specs.Sessions.{session_seen}
use Rattle.pair.specs.Pairs.{Crossed}
use Rattle.pair.specs.declared.pair.Pair.{Pair}
use Rattle.pair.proofs.Crossings.{crossed_by}
use Rattle.pair.proofs.pair.Pair.garble.Goals as goal

pub returns : goal.returns
returns g c =
    let app = g.A.Application.model in
    let before = c.args.self.now in
    let told = c.deliver.ensures in
    let f : List ℕ = 0 ∷ 0 ∷ 0 ∷ [] in
    let after : Pair g.row.A.Denot = record { reader = before.reader; card = c.deliver.new.card; air = c.deliver.new.air } in
    let m = move_at app before.card f in
    subst (λ m. Crossed app (crossing (world (session_seen before.reader) m.card m.state quiet) m.command) before after c.deliver.result)
    (noise_is_garbled_lem laws app (settings_of before.card.settings) (card_of before.card.state) before.card.application f zeros_are_noise)
    (crossed_by app before c.deliver.new.card c.deliver.new.air c.deliver.result m quiet told.given told.card told.application told.settings told.air)
