use Rattle.std.proofs.Common.{◌≡◌, ◌-◌, length, take, sym, ap, ◌∙◌, arith}
use Rattle.frames.specs.Check.{opened, body_of}
use Rattle.frames.proofs.Sealed.{open_short, open_long, open_checked, open_unchecked}
use Rattle.frames.proofs.frame.unseal.Goals as goal

pub returns-then-frame : goal.returns-then-frame
returns-then-frame c = sym (open_short c.args.limit c.args.frame.now (omega arith))

pub returns-then-frame-limit : goal.returns-then-frame-limit
returns-then-frame-limit c = sym (open_long c.args.limit c.args.frame.now (omega arith) (omega arith))

pub returns-then-not-checked : goal.returns-then-not-checked
returns-then-not-checked c =
    sym (open_unchecked c.args.limit c.args.frame.now (omega arith) (omega arith) (sym c.if-not-checked.ensures))

pub returns : goal.returns
unfolding body_of
returns c = ap (λ n. opened (take n c.args.frame.now)) (let n : length c.args.frame.now - 2 - 0 ≡ length c.args.frame.now - 2 = omega arith in n) ∙ sym (open_checked c.args.limit c.args.frame.now (omega arith) (omega arith) (sym c.if-not-checked.ensures))
