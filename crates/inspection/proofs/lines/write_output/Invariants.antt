use Rattle.std.proofs.Common.{◌≡◌, ◌+◌, ◌++◌, string_bytes}
use Rattle.std.specs.Iterator.Adapters.{enumerate_count, enumerate_source}
use Rattle.text.specs.LineViews.{lines_left}
use Rattle.inspection.specs.Lines.{output_from, output}
use Rattle.inspection.proofs.lines.write_output.Given as goal

abbrev pub invariant-loop-i : goal.invariant-loop-i
invariant-loop-i l =
    string_bytes l.out ++ output_from (enumerate_count l.i-iterator + 1) (lines_left (enumerate_source l.i-iterator))
    ≡ string_bytes l.initial.out ++ output l.input
