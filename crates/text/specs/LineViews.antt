-- What the lines of a text stand for.
use Rattle.std.specs.Prelude.{ℕ, List}
use Rattle.text.specs.declared.lines.Lines.{Lines}
use Rattle.text.specs.Lines.{lines_of}

-- the lines that are left
abbrev pub lines_left : Lines → List (List ℕ)
lines_left l = lines_of l.rest.now
