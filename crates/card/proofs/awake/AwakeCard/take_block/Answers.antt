use Rattle.std.proofs.Common.{sym, ap, ◌∙◌}
use Rattle.frames.specs.Views.{cid_seen, block_seen}
use Rattle.protocol.specs.Card.{on_block, on_r}
use Rattle.protocol.specs.Reader.{same}
use Rattle.card.specs.Held.{awake_of}
use Rattle.card.specs.Told.{told_of}
use Rattle.card.proofs.Lifts.{step_told, lift_r}
use Rattle.card.proofs.awake.AwakeCard.take_block.Goals as goal

pub returns-in-R : goal.returns-in-R
returns-in-R g c =
    let w = awake_of c.args.self.now in
    let s = c.args.application.now in
    let equal = same c.in-R.number w.number in
    let a = cid_seen c.in-R.card in
    λ set.
    step_told set c.take_r.new.self s c.take_r.result c.alone.result (on_r w tt c.in-R.nak equal a) c.take_r.ensures c.alone.ensures.sends c.alone.ensures.given
    ∙ ap (λ m. told_of m) (sym (lift_r s w c.in-R.nak equal a))
    ∙ ap (λ b. told_of (on_block g.A.Application.model w s (block_seen b))) (sym c.in-R.is)
