use Rattle.std.proofs.Common.{◌≡◌, drop}
use Rattle.frames.specs.Check.{register_from, register}
use Rattle.frames.proofs.check.check_register.Given as goal

abbrev pub invariant-loop-byte : goal.invariant-loop-byte
invariant-loop-byte l = register_from l.r (drop l.byte-index l.bytes) ≡ register l.bytes
