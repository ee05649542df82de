use Rattle.std.proofs.Common.{◌≡◌, ◌*◌, length, take}
use Rattle.text.specs.Hex.{hex}
use Rattle.text.proofs.hex.digits_of.Given as goal

abbrev pub invariant-loop-i : goal.invariant-loop-i
invariant-loop-i l = (take (2 * l.i) l.digits ≡ hex (take l.i l.bytes)) × (length l.digits ≡ 64)
