use Rattle.std.proofs.Common.{◌+◌, length, sym, refl, ap, ◌∙◌, length-append, rules}
use Rattle.applications.specs.Status.{word_of}
use Rattle.buffers.proofs.Overs.{over_first, over_more}
use Rattle.applications.specs.Words.{two_bytes}
use Rattle.applications.proofs.answer.put_answer.Goals as goal

pub returns : goal.returns
returns c =
    let bytes = c.args.bytes.now in
    let word = word_of c.args.status in
    let front = c.put.ensures ∙ over_first bytes c.args.answer.now in
    record {
      bytes = rw (c.put-2.ensures, front, c.bytes.ensures) (over_more bytes word c.args.answer.now (length bytes) refl);
      full = search rules;
      len = sym (length-append bytes word ∙ ap (λ n. length bytes + n) (two_bytes c.args.status));
    }
