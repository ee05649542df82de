use Rattle.std.proofs.Common.{◌≡◌, sym, refl, ap, ◌∙◌, arith}
use lib.Bits.{bit_xor}
use Rattle.frames.specs.Check.{shift, shift8, take_in}
use Rattle.frames.proofs.Shifts.{shifts, shifts_more, shifts_eight}
use Rattle.frames.proofs.check.taken_in.Goals as goal

pub loop-init : goal.loop-init
loop-init c = refl

pub loop-preserved : goal.loop-preserved
loop-preserved c = c.shifted-r.ensures ∙ ap shift c.loop.invariant ∙ sym (shifts_more c.loop.counter _)

pub returns : goal.returns
unfolding take_in
returns c =
    let eight : c.loop.counter ≡ 8 = omega arith in
    c.loop.invariant ∙ ap (λ n. shifts n (bit_xor c.args.register c.from.result)) eight
    ∙ shifts_eight (bit_xor c.args.register c.from.result)
    ∙ ap (λ b. shift8 (bit_xor c.args.register b)) c.from.ensures
