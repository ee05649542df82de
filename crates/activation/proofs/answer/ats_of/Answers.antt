use Rattle.std.proofs.Common.{sym, ◌∙◌}
use Rattle.activation.proofs.Seen.{valid_seen}
use Rattle.activation.proofs.Taken.{behind-tl}
use Rattle.activation.proofs.answer.ats_of.Goals as goal

pub returns-in-len1-up : goal.returns-in-len1-up
returns-in-len1-up c =
    let body = c.args.body.now in
    let fsd = c.args.fsd in
    let e = c.format_of.ensures ∙ behind-tl fsd body (sym c.if-length_byte_good.ensures) in
    record { read = e; valid = valid_seen fsd body c.format_of.result (λ k. (c.type_inv.body k).fits) e }
