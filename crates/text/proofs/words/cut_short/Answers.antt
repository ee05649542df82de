use Rattle.std.proofs.Common.{◌≡◌, ◌+◌, true, false, eqb, take, None, Some, ap, ◌∙◌, add-one, arith, rules, tests}
use Rattle.std.proofs.lemmas.Iterator.{IsFirst-from_position, YieldsList-from_slice}
use Rattle.std.proofs.lemmas.List.{take_rest}
use Rattle.text.specs.WordViews.{cut_seen}
use Rattle.text.proofs.Cuts.{made, cut_first, cut_nowhere}
use Rattle.text.proofs.words.cut_short.Goals as goal

pub returns-in_err-i : goal.returns-in_err-i
returns-in_err-i c =
    let line = c.args.line.now in
    let none = IsFirst-from_position _ _ None (λ x. eqb x 32 ≡ true) (λ x. eqb x 32 ≡ false) c.in_err-i.ensures.ran (YieldsList-from_slice line cc) (λ x q k. search (rules, tests)) (λ x q k. search (rules, tests)) in
    ap cut_seen c.from_residual.ensures ∙ cut_nowhere 32 line (λ k l. none k 0 (omega arith) l)

pub returns : goal.returns
returns c =
    let line = c.args.line.now in
    let i = c.in_ok-i.i in
    let at = IsFirst-from_position _ _ (Some i) (λ x. eqb x 32 ≡ true) (λ x. eqb x 32 ≡ false) c.in_ok-i.ensures.ran (YieldsList-from_slice line cc) (λ x q k. search (rules, tests)) (λ x q k. search (rules, tests)) in
    ap (made (take i line)) (take_rest line (i + 1))
    ∙ rw add-one (cut_first 32 line i (record { before = λ k l. at.2 k 0 (omega arith) l; here = at.1 0; within = at.0 }))
