use Rattle.std.proofs.Common.{◌≡◌, arith, sym, ap, ◌∙◌}
use Rattle.std.proofs.lemmas.Grind.{common_steps}
use Rattle.std.specs.Option.{option_map}
use Rattle.inspection.proofs.Numbers.{cut_down, number_cut}
use Rattle.inspection.proofs.words.number_in.Goals as goal

pub returns : goal.returns
returns c =
    let mapped : c.map.result ≡ option_map cut_down c.number_in.result = grind (arith, common_steps) in
    mapped ∙ ap (option_map cut_down) c.number_in.ensures ∙ sym (number_cut c.args.field.now)
