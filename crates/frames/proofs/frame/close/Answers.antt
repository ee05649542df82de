use Rattle.std.proofs.Common.{◌≡◌, ◌-◌, ◌≤◌, length, take, ap, ◌∙◌, arith}
use Rattle.buffers.specs.Over.{over_at}
use Rattle.buffers.proofs.Overs.{over_behind}
use Rattle.frames.specs.Check.{seal, check_of}
use Rattle.frames.proofs.Sealed.{check_bytes}
use Rattle.frames.proofs.frame.close.Goals as goal

pub returns : goal.returns
unfolding seal
returns c =
    let old = c.args.out.now in
    let n = c.args.n in
    let whole : n - 0 ≡ n = omega arith in
    let check : c.to_le_bytes-check.result ≡ check_of (take n old) =
    c.to_le_bytes-check.ensures
    ∙ check_bytes (take (n - 0) old) c.check_register.result c.check_register.ensures c.check_register.type_inv
    ∙ ap (λ k. check_of (take k old)) whole in
    c.put.ensures ∙ ap (λ l. over_at n l old) check
    ∙ over_behind n (check_of (take n old)) old (let fits : n ≤ length old = omega arith in fits)
