use Rattle.std.proofs.Common.{◌≡◌, ◌++◌, drop, length, subst}
use Rattle.protocol.specs.Reader.{Move, running}
use Rattle.exchange.specs.Exchanges.{exchange_seen}
use Rattle.exchange.specs.Lent.{Hears}
use Rattle.exchange.specs.Links.{link_seen}
use Rattle.exchange.specs.Listening.{event_seen}
use Rattle.exchange.specs.Views.{progress_seen}
use Rattle.exchange.proofs.Moves.{goes_on, hearing_goes, runs, widened}
use Rattle.exchange.proofs.exchange.Exchange.hear.Goals as goal

pub on_heard-requires : goal.on_heard-requires
on_heard-requires c = runs (progress_seen c.args.self.now.progress) cc

pub returns-clause-hears : goal.returns-clause-hears
returns-clause-hears c =
    let old = c.args.out.now in
    let new = c.on_heard.new.out in
    let first = c.in-Some.ensures.cases in
    let self = c.args.self.now in
    let running : progress_seen self.progress ≡ running = runs (progress_seen self.progress) cc in
    let d = widened 256 old c.in-Some.out.now new first c.on_heard.ensures.whole c.on_heard.ensures.does in
    subst (λ (m : Move). Hears m c.on_heard.new.self c.on_heard.result old (new ++ drop 256 old))
    (hearing_goes c.args.limits (link_seen self.link) (exchange_seen self) (event_seen c.args.heard) (length old) running first.enough)
    (record { moves = d.moves; bytes = d.bytes; within = d.within; going = goes_on c.on_heard.result (exchange_seen c.on_heard.new.self) c.on_heard.ensures.going })
