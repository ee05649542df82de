use Rattle.std.proofs.Common.{◌≡◌, ◌++◌, drop, vec_items}
use Rattle.text.specs.Hex.{hex}
use Rattle.text.proofs.print.push_hex.Given as goal

abbrev pub invariant-loop-b : goal.invariant-loop-b
invariant-loop-b l = vec_items l.out ++ hex (drop l.b-index l.bytes) ≡ vec_items l.initial.out ++ hex l.bytes
