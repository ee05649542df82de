use Rattle.std.proofs.Common.{refl, ap, ◌∙◌, arith}
use Rattle.buffers.specs.Over.{over_at}
use Rattle.buffers.proofs.Overs.{over_first, over_more}
use Rattle.activation.specs.Views.{said_by}
use Rattle.activation.specs.Writing.{ats_head}
use Rattle.activation.proofs.answer_writing.put_ats.Goals as goal

pub returns : goal.returns
returns c =
    let head = ats_head (said_by c.args.ats) in
    let historical = c.args.ats.historical.now in
    let old = c.args.out.now in
    record {
      value = omega arith;
      bytes =
          c.put-2.ensures
          ∙ ap (λ l. over_at 5 historical l) (c.put.ensures ∙ ap (λ l. over_at 0 l old) c.head_of.ensures ∙ over_first head old)
          ∙ over_more head historical old 5 refl;
    }
