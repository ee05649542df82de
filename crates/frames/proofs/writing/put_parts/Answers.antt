use Rattle.std.proofs.Common.{ℕ, ◌+◌, List, ◌∷◌, length, sym, ap, ◌∙◌, length-append}
use Rattle.buffers.specs.Over.{over_at}
use Rattle.buffers.proofs.Overs.{over_more}
use Rattle.frames.specs.Blocks.{cid_bytes}
use Rattle.frames.specs.Views.{cid_seen}
use Rattle.frames.proofs.writing.put_parts.Goals as goal

pub returns : goal.returns
returns c =
    let head : List ℕ = c.args.control ∷ cid_bytes (cid_seen c.args.card) in
    let information = c.args.information.now in
    record {
      value = ap (λ n. n + length information) c.put_head-n.ensures.value ∙ sym (length-append head information);
      bytes =
          c.put.ensures ∙ ap (λ l. over_at c.put_head-n.result information l) c.put_head-n.ensures.bytes
          ∙ over_more head information c.args.out.now c.put_head-n.result c.put_head-n.ensures.value;
    }
