use Rattle.std.proofs.Common.{ap, ◌∙◌}
use Rattle.std.proofs.lemmas.Bool.Decides.{Decides-eqb}
use Rattle.std.proofs.lemmas.Slice.Eq.{slice_eq-Decides}
use Rattle.text.specs.Words.{spells}
use Rattle.script.proofs.Spelling.{spells_decided}
use Rattle.script.proofs.setup.names_setup.Goals as goal

pub returns : goal.returns
returns c =
    spells_decided c.as_slice.result.now c.args.line.now c.eq.result (slice_eq-Decides Decides-eqb _ _ _ c.eq.ensures)
    ∙ ap (λ word. spells word c.args.line.now) c.as_slice.ensures
