use Rattle.std.proofs.Common.{Ok, Err, ap₂, ◌++◌, drop, length, sym, refl, ap, ◌∙◌, subst}
use Rattle.std.proofs.lemmas.List.{length-take-le}
use Rattle.std.proofs.lemmas.Result.{err_from_is_err_and}
use Rattle.frames.specs.declared.refusal.Refusal.TheVariants.{Length}
use Rattle.protocol.specs.Reader.{Move, Exchange as Talk, writes, part_block}
use Rattle.exchange.specs.Exchanges.{exchange_seen}
use Rattle.exchange.specs.Lent.{Starts}
use Rattle.exchange.specs.Links.{link_seen}
use Rattle.exchange.proofs.Moves.{beginning_goes, beginning_refuses, kept, widened}
use Rattle.exchange.proofs.exchange.Exchange.begin.Goals as goal

pub returns-in_err-load-clause-begins : goal.returns-in_err-load-clause-begins
returns-in_err-load-clause-begins c =
    let old = c.args.out.now in
    let front = c.in-Some.out.now in
    let first = c.in-Some.ensures.cases in
    let self = c.args.self.now in
    let p = err_from_is_err_and c.from_residual.result c.from_residual.ensures.1 in
    let no = beginning_refuses (link_seen self.link) (exchange_seen self) c.args.command.now (length old) (sym c.in_err-load.ensures.taken) first.enough in
    rw (p.1, p.2, c.in_err-load.ensures.err.0, c.in_err-load.ensures.err.1)
    (subst (λ (m : Move). Starts m self (Err Length) old (front ++ drop 256 old)) no
    (record { moves = refl; bytes = kept 256 old front front first (ap length first.same ∙ length-take-le 256 old first.enough) refl; within = tt; going = tt }))

pub returns-clause-begins : goal.returns-clause-begins
returns-clause-begins c =
    let old = c.args.out.now in
    let new = c.send_part.new.out in
    let first = c.in-Some.ensures.cases in
    let self = c.args.self.now in
    let after = c.load.new.self in
    let d = widened 256 old c.in-Some.out.now new first c.send_part.ensures.whole c.send_part.ensures.sends in
    let ok = c.in_ok-load.ensures.ok in
    let yes = beginning_goes (link_seen self.link) (exchange_seen self) c.args.command.now (length old) (sym c.in_ok-load.ensures.taken) first.enough in
    subst (λ (m : Move). Starts m after (Ok c.send_part.result) old (new ++ drop 256 old)) (ap₂ (λ l x. writes l x (part_block l x)) (ap link_seen ok.0) ok.1 ∙ yes)
    (record { moves = d.moves; bytes = d.bytes; within = d.within; going = ap (λ (x : Talk). x.progress) ok.1 })
