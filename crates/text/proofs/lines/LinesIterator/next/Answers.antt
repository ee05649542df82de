use Rattle.std.proofs.Common.{◌≡◌, ◌+◌, ◌<◌, ◌∷◌, length, take, drop, arith, sym, ap, ◌∙◌, refl, rules}
use Rattle.text.specs.Lines.{lines_of}
use Rattle.text.proofs.Breaks.{first_line, behind, length-lines_of}
use Rattle.text.proofs.lines.LinesIterator.next.Goals as goal

pub invariant_of-self : goal.invariant_of-self
invariant_of-self c = record { countable = omega (arith, length-lines_of c.unwrap_or-self.result.now) }

pub returns-clause-steps : goal.returns-clause-steps
returns-clause-steps c =
    let text = c.args.self.now.rest.now in
    let end = c.unwrap_or-end.result in
    let some : 0 < length text = search rules in
    let rest : c.unwrap_or-self.result.now ≡ drop (end + 1) text =
    behind text (end + 1) c.get.result _ c.unwrap_or-self.result c.get.ensures.lookup refl c.unwrap_or-self.ensures in
    first_line text c.memchr.result end some c.memchr.ensures c.unwrap_or-end.ensures
    ∙ ap (λ l. take end text ∷ lines_of l) (sym rest)

pub returns-clause-goes : goal.returns-clause-goes
returns-clause-goes c =
    let left = ap length (returns-clause-steps c) in
    record { on = λ _. (tt, tt, omega (arith, left)); keeps = tt; rests = λ _. tt }
