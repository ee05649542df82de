use Rattle.std.proofs.Common.{arith}
use Rattle.text.proofs.Breaks.{length-lines_of}
use Rattle.text.proofs.lines.Lines.new.Goals as goal

pub invariant_of-result : goal.invariant_of-result
invariant_of-result c = record { countable = omega (arith, length-lines_of c.args.text.now) }
