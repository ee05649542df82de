use Rattle.std.proofs.Common.{◌≡◌, ℕ, ◌-◌, ◌+◌, sym, ap, ◌∙◌, arith}
use Rattle.pair.specs.Pairs.{act_seen, world_seen, setup_seen}
use Rattle.sweeping.specs.Plans.{loss_in, deed_under, fate_under, turn_of}
use Rattle.sweeping.specs.Played.{trail_seen}
use Rattle.sweeping.specs.Rows.{most_turns}
use Rattle.sweeping.specs.Trails.{and_then, driven}
use Rattle.sweeping.proofs.Drives.{not_on, is_on, driven_none, driven_ended, driven_on}
use Rattle.sweeping.proofs.play.drive.Goals as goal

-- one turn more
pub loop-turn-preserved : goal.loop-turn-preserved
loop-turn-preserved g c =
    let app = g.A.Application.model in
    let u = setup_seen app c.args.pair.now in
    let at = c.loop-turn in
    let left : ℕ = most_turns - at._turn in
    let next = c.after-plan.ensures in
    let did : act_seen c.heard-heard.result c.fate.result ≡ turn_of at.plan =
    λ i. record {
      deed = (c.heard-heard.ensures ∙ ap deed_under c.loss.ensures) i;
      fate = (c.fate.ensures ∙ ap fate_under (c.loss-in-loop-turn.ensures ∙ ap loss_in next)) i;
    } in
    let one : most_turns - (at._turn + 1) ≡ left - 1 = omega arith in (
      c.act-tally.ensures.setup ∙ at.invariant.0,
      ap (λ k. driven k u c.after-plan.result (trail_seen c.act-tally.new.pair c.act-tally.result)) one
          ∙ (λ i. driven (left - 1) u (next i) ((c.act-tally.ensures.trail ∙ (λ j. and_then (at.invariant.0 j) (world_seen at.pair) at.tally.times (did j))) i))
          ∙ sym (driven_on u at.plan (trail_seen at.pair at.tally) left (omega (arith, c.loop-turn-test.true)) (is_on at.tally.told.goes_on c.if-not-tally.false))
          ∙ at.invariant.1,
    )

pub returns-then-not-tally : goal.returns-then-not-tally
returns-then-not-tally g c =
    let at = c.loop-turn in
    sym (driven_ended (setup_seen g.A.Application.model c.args.pair.now) at.plan (trail_seen at.pair at.tally) (most_turns - at._turn) (not_on at.tally.told.goes_on c.if-not-tally.true))
    ∙ at.invariant.1

pub returns : goal.returns
returns g c =
    let at = c.loop-turn in
    sym (driven_none (setup_seen g.A.Application.model c.args.pair.now) at.plan (trail_seen at.pair at.tally) (most_turns - at._turn) (omega (arith, c.loop-turn-test.false)))
    ∙ at.invariant.1
