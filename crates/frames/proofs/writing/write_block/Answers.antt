use Rattle.std.proofs.Common.{ℕ, ◌+◌, length, Ok, Result, sym, ap, ◌∙◌, arith}
use Rattle.frames.specs.declared.refusal.Refusal.{Refusal}
use Rattle.frames.specs.Blocks.{bytes_of}
use Rattle.frames.specs.Views.{block_seen}
use Rattle.frames.proofs.Sealed.{two_more, closed}
use Rattle.frames.proofs.Writable.{writing_goes}
use Rattle.frames.proofs.writing.write_block.Goals as goal

pub returns : goal.returns
returns c =
    let block = block_seen c.args.block in
    let old = c.args.out.now in
    record {
      value =
          ap {B = Result ℕ Refusal} Ok (ap (λ n. n + 2) c.put_block-n.ensures.value ∙ sym (two_more (bytes_of block)))
          ∙ sym (writing_goes block (length old) (sym c.if-not-in_range.ensures) (omega arith) (sym c.if-not-is_sendable.ensures));
      bytes =
          c.close.ensures
          ∙ closed (bytes_of block) old c.put_block-n.new.out c.put_block-n.result c.put_block-n.ensures.bytes c.put_block-n.ensures.value;
    }
