use Rattle.std.proofs.Common.{Ok, length, sym, refl, ap, ◌∙◌, subst}
use Rattle.card.specs.Fit.{FitCard}
use Rattle.card.specs.Held.{card_of, settings_of}
use Rattle.card.specs.Told.{reply_length, replied}
use Rattle.card.proofs.Keeping.{stays_fit}
use Rattle.card.proofs.Widening.{goes, widened}
use Rattle.card.proofs.card.Card.hear.Given as given
use Rattle.card.proofs.card.Card.hear.Goals as goal
use Rattle.card.proofs.card.Card.hear.Goals.{After-take-taken}

-- the card that has taken the frame
after : (g : given.Over) (c : After-take-taken g) → FitCard (card_of c.take-taken.new.self)
after g c =
    let self = c.args.self.now in
    let card = card_of self.state in
    subst FitCard (sym (ap (λ t. t.card) c.take-taken.ensures))
    (stays_fit g.A.Application.model (settings_of self.settings) card self.application c.args.frame.now g.met.A.Application.keeps self.fit (λ k. (c.type_inv.frame k).fits))

pub invariant_of-self : goal.invariant_of-self
invariant_of-self g c =
    record { range = c.args.self.now.range; fit = after g (goal.at.invariant_of-self g c).After-take-taken }

pub write_reply-len-requires-clause-fit : goal.write_reply-len-requires-clause-fit
write_reply-len-requires-clause-fit g c = after g (goal.at.write_reply-len-requires-clause-fit g c).After-take-taken

pub returns : goal.returns
returns g c =
    let old = c.args.out.now in
    let n = length old in
    let first = c.in-Some.ensures.cases in
    let told = c.take-taken.ensures in
    let answer = ap (λ t. t.answer) told in
    let wrote = c.write_reply-len.ensures in
    record {
      value =
          goes n _ _ first.enough
          (λ i. Ok (record { len = (wrote.value ∙ ap reply_length answer) i; given = (told i).given }));
      card = goes n _ _ first.enough (ap (λ t. t.card) told);
      application = goes n _ _ first.enough (ap (λ t. t.state) told);
      settings = refl;
      bytes =
          goes n _ _ first.enough
          (widened 256 old c.in-Some.out.now c.write_reply-len.new.out first wrote.whole _ wrote.bytes ∙ ap (λ r. replied r old) answer);
    }
