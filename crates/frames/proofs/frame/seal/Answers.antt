use Rattle.std.proofs.Common.{ℕ, ◌<◌, length, Ok, Result, sym, refl, ap, ◌∙◌, arith, false-eqb}
use Rattle.buffers.proofs.Overs.{over_first}
use Rattle.frames.specs.declared.refusal.Refusal.{Refusal}
use Rattle.frames.proofs.Sealed.{two_more, closed, sealing_goes}
use Rattle.frames.proofs.frame.seal.Goals as goal

pub returns : goal.returns
returns c =
    let body = c.args.body.now in
    let old = c.args.out.now in
    let some : 0 < length body = omega (arith, false-eqb _ 0 c.if-is_empty.ensures) in
    record {
      value =
          ap {B = Result ℕ Refusal} Ok (sym (two_more body))
          ∙ sym (sealing_goes body (length old) (omega arith) some (omega arith));
      bytes =
          c.close.ensures
          ∙ closed body old c.put.new.out (length body) (c.put.ensures ∙ over_first body old) refl;
    }
