use Rattle.buffers.proofs.Overs.{part_written}
use Rattle.buffers.proofs.put.Goals as goal

pub returns : goal.returns
returns c = part_written c.args.at c.args.bytes.now c.args.out.now c.copy.new.part c.copy.ensures
