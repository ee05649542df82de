use Rattle.std.proofs.Common.{take, ap, ◌∙◌, ◌+◌}
use Rattle.std.proofs.lemmas.List.{take_rest}
use Rattle.text.specs.WordViews.{cut_seen}
use Rattle.text.proofs.Cuts.{made, cut_found, cut_missed}
use Rattle.text.proofs.words.cut_long.Goals as goal

pub returns-in_err-i : goal.returns-in_err-i
returns-in_err-i c = ap cut_seen c.from_residual.ensures ∙ cut_missed 32 c.args.line.now c.in_err-i.ensures

pub returns : goal.returns
returns c =
    let line = c.args.line.now in
    let i = c.in_ok-i.i in
    ap (made (take i line)) (take_rest line (i + 1)) ∙ cut_found 32 line i c.in_ok-i.ensures
