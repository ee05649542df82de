use Rattle.std.proofs.Common.{◌+◌, drop, sym, refl, ap, ◌∙◌, arith}
use Rattle.std.proofs.lemmas.List.{at_drop_more, at_drop_all}
use Rattle.frames.specs.Check.{register_from, register}
use Rattle.frames.proofs.check.check_register.Goals as goal

pub loop-byte-init : goal.loop-byte-init
unfolding register
loop-byte-init c = refl

pub loop-byte-preserved : goal.loop-byte-preserved
unfolding register_from
loop-byte-preserved c =
    ap (λ r. register_from r (drop (c.loop-byte.byte-index + 1) c.args.bytes.now)) c.taken_in-r.ensures
    ∙ sym (at_drop_more (register_from c.loop-byte.r) c.args.bytes.now c.loop-byte.byte-index 0 c.loop-byte-test.true)
    ∙ c.loop-byte.invariant

pub returns : goal.returns
unfolding register_from
returns c = sym (at_drop_all (register_from c.loop-byte.r) c.args.bytes.now c.loop-byte.byte-index (omega arith)) ∙ c.loop-byte.invariant
