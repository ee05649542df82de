use Rattle.std.proofs.Common.{◌<◌, length, sym, ◌∙◌, arith, rules}
use Rattle.activation.proofs.Taken.{behind-t0}
use Rattle.activation.proofs.answer.format_of.Goals as goal

pub returns : goal.returns
returns c =
    let some : 0 < length c.args.format.now = search rules in
    c.interface_bytes.ensures
    ∙ behind-t0 c.args.format.now some (sym c.if-not-t0_good.ensures) (omega arith)
