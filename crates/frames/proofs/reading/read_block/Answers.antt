use Rattle.std.proofs.Common.{◌∙◌, subst}
use Rattle.std.proofs.lemmas.Result.{err_from_is_err_and}
use Rattle.frames.specs.Check.{opened, unopened}
use Rattle.frames.specs.Faults.{frame_cause}
use Rattle.frames.specs.Views.{agreement, Placed}
use Rattle.frames.proofs.BlockLaws.{valid_read}
use Rattle.frames.proofs.Opening.{opened_front, read_by}
use Rattle.frames.proofs.reading.read_block.Goals as goal

pub returns-in_err-body : goal.returns-in_err-body
returns-in_err-body c =
    let p = err_from_is_err_and c.from_residual.result c.from_residual.ensures.1 in
    rw (p.1, p.2)
    (record {
      value =
          read_by c.args.limit (agreement c.args.agreed) c.args.frame.now
          (unopened (frame_cause c.in_err-body.field-0.0)) c.in_err-body.ensures;
      valid = tt;
      placed = tt;
    })

pub returns : goal.returns
returns c =
    let is = c.in_ok-body.ensures in
    let body = c.in_ok-body.body.now in
    let read =
    c.read_body.ensures.value ∙ read_by c.args.limit (agreement c.args.agreed) c.args.frame.now (opened body) is in
    record {
      value = read;
      valid =
          valid_read c.args.limit (agreement c.args.agreed) c.args.frame.now c.read_body.result (λ k. (c.type_inv.frame k).fits) read;
      placed =
          subst (λ l. Placed 1 l c.read_body.result)
          (opened_front c.args.limit c.args.frame.now body is) c.read_body.ensures.placed;
    }
