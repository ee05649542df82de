use Rattle.std.proofs.Common.{[], ◌++◌, map, vec_items, sym, ap, ◌∙◌, subst, arith, rules}
use Rattle.std.proofs.lemmas.List.{append-nil, drop_all}
use Rattle.pair.specs.Records.{step_seen}
use Rattle.pair.proofs.Going.{Going, goes_at_first, goes_a_step, goes_to_the_end}
use Rattle.pair.proofs.pair.Pair.run_into.Goals as goal

pub loop-step-init : goal.loop-step-init
loop-step-init g c = (
  omega arith,
  search rules,
  ([], sym (append-nil _), goes_at_first g.A.Application.model (map step_seen c.args.steps.now) c.args.self.now),
)

pub loop-step-preserved : goal.loop-step-preserved
loop-step-preserved g c =
    let steps = c.args.steps.now in (
      search rules,
      search rules,
      goes_a_step g.A.Application.model (map step_seen steps) c.args.self.now steps c.loop-step.step-index _ c.loop-step.self c.of.new.pair _ (vec_items c.loop-step.records) (vec_items c.push_reserved.new.self) c.of.result
          c.loop-step-test.true c.push_reserved.ensures.items c.loop-step.invariant.2 c.of.ensures,
    )

pub returns : goal.returns
returns g c =
    let app = g.A.Application.model in
    let steps = c.args.steps.now in
    let goes = c.loop-step.invariant.2 in (
      goes.0,
      goes.1 ∙ ap (λ l. l ++ goes.0) c.in_ok-reserve.ensures.items,
      goes_to_the_end app (map step_seen steps) c.args.self.now c.loop-step.self goes.0
          (subst (λ l. Going app (map step_seen steps) (map step_seen l) c.args.self.now c.loop-step.self goes.0)
          (drop_all c.loop-step.step-index steps c.loop-step-test.false) goes.2),
    )
