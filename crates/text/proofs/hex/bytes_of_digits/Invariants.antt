use Rattle.std.proofs.Common.{◌≡◌, drop, vec_items}
use Rattle.text.specs.Hex.{unhex}
use Rattle.text.proofs.Hexes.{follow, bytes_of}
use Rattle.text.proofs.hex.bytes_of_digits.Given as goal

abbrev pub invariant-loop-high : goal.invariant-loop-high
invariant-loop-high l = follow (vec_items l.bytes) (bytes_of (drop l.high-index l.pairs)) ≡ unhex l.digits
