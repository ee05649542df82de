use Rattle.std.proofs.Common.{sym, ◌∙◌, arith}
use Rattle.text.proofs.Cuts.{number_on, number_none}
use Rattle.text.proofs.words.number_in.Goals as goal

pub loop-c-preserved : goal.loop-c-preserved
loop-c-preserved c =
    let field = c.args.field.now in
    let i = c.loop-c.c-index in (
      rw (c.min-n.ensures, c.from.ensures)
          (number_on field i c.loop-c.n c.loop-c.invariant.0 c.loop-c-test.true (sym c.is_ascii_digit.ensures.value ∙ c.if-not-is_ascii_digit.false)),
      omega (arith, c.min-n.ensures),
    )

pub returns-then-not-is_ascii_digit : goal.returns-then-not-is_ascii_digit
returns-then-not-is_ascii_digit c =
    number_none c.args.field.now c.loop-c.c-index c.loop-c.n c.loop-c.invariant.0 c.loop-c-test.true
    (sym c.is_ascii_digit.ensures.value ∙ c.if-not-is_ascii_digit.true)
