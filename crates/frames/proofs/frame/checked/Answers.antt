use Rattle.std.proofs.Common.{ℕ, ◌+◌, ◌-◌, Bool, eqb, List, length, get_or, sym, refl, ap, ◌∙◌, arith}
use Rattle.std.proofs.lemmas.Bool.{eq-eqb, ne_eqb}
use Rattle.frames.specs.Check.{both}
use Rattle.frames.proofs.Sealed.{checks_by}
use Rattle.frames.proofs.frame.checked.Goals as goal

pub returns-then-frame-n : goal.returns-then-frame-n
returns-then-frame-n c =
    let f = c.args.frame.now in
    let n : ℕ = length f - 2 in
    let last : Bool = eqb (get_or f (n + 1) 0) (get_or c.to_le_bytes.result 1 0) in
    ap (λ t. both t last) (sym (eq-eqb _ _ c.if-frame-n.true))
    ∙ checks_by f n (n - 0) c.check_register.result c.to_le_bytes.result c.requires refl (omega arith) c.check_register.ensures c.check_register.type_inv c.to_le_bytes.ensures

pub returns-else-frame-n : goal.returns-else-frame-n
returns-else-frame-n c =
    let f = c.args.frame.now in
    let n : ℕ = length f - 2 in
    let bytes : List ℕ = c.to_le_bytes.result in
    let wrong = ne_eqb (get_or f n 0) (get_or bytes 0 0) c.if-frame-n.false in
    wrong ∙ ap (λ t. both t (eqb (get_or f (n + 1) 0) (get_or bytes 1 0))) (sym wrong)
    ∙ checks_by f n (n - 0) c.check_register.result c.to_le_bytes.result c.requires refl (omega arith) c.check_register.ensures c.check_register.type_inv c.to_le_bytes.ensures
