use Rattle.std.proofs.Common.{◌≡◌, ◌+◌, ◌≤◌, ◌++◌, string_bytes}
use Rattle.std.specs.Iterator.Adapters.{enumerate_count, enumerate_source}
use Rattle.pair.specs.Pairs.{world_seen, setup_seen}
use Rattle.script.specs.Orders.{entry_seen}
use Rattle.text.specs.LineViews.{lines_left}
use Rattle.trial.specs.Outputs.{rows_from, first_call}
use Rattle.trial.proofs.Looping.{played, counted}
use Rattle.trial.proofs.rows.push_rows.Given.{Over}
use Rattle.trial.proofs.rows.push_rows.Goals as goal
use Rattle.trial.proofs.rows.push_rows.Goals.{In_ok-push_entry-in-Ok}

-- a line was played, however its entry is dropped
next : (g : Over) (c : In_ok-push_entry-in-Ok g) → (string_bytes c.push_entry.new.out ++ rows_from (setup_seen g.A.Application.model c.push_entry.new.pair) (world_seen c.push_entry.new.pair) (4 + enumerate_count c.next.new.self) (lines_left (enumerate_source c.next.new.self)) ≡ string_bytes c.args.out.now ++ rows_from (setup_seen g.A.Application.model c.args.pair.now) (world_seen c.args.pair.now) first_call (lines_left c.args.calls)) × (enumerate_count c.next.new.self ≤ 512)
next g c =
    let app = g.A.Application.model in
    let here = c.loop-i.i-iterator in
    let there = c.next.new.self in
    let steps = c.in-Some.ensures.steps in
    let left = lines_left (enumerate_source here) in
    let behind = lines_left (enumerate_source there) in
    let said = c.in_ok-push_entry-in-Ok.ensures in (
      played app c.loop-i.pair c.push_entry.new.pair c.in-Some.i (enumerate_count here) (enumerate_count there) c.in-Some.line.now left behind (entry_seen c.in-Ok.entry)
          (string_bytes c.loop-i.out) (string_bytes c.push_entry.new.out) _ steps.1 steps.2 steps.0 c.in-Ok.ensures said c.loop-i.invariant.0,
      counted app c.loop-i.pair c.push_entry.new.pair c.in-Some.i (enumerate_count here) (enumerate_count there) c.in-Some.line.now left behind (entry_seen c.in-Ok.entry)
          (string_bytes c.loop-i.out) (string_bytes c.push_entry.new.out) _ steps.1 steps.2 steps.0 c.in-Ok.ensures said c.loop-i.invariant.0,
    )

pub loop-i-preserved-in_ok-push_entry-in-Ok : goal.loop-i-preserved-in_ok-push_entry-in-Ok
loop-i-preserved-in_ok-push_entry-in-Ok g c = next g (goal.at.loop-i-preserved-in_ok-push_entry-in-Ok g c).In_ok-push_entry-in-Ok

pub loop-i-preserved-in_ok-push_entry-in-Ok-2 : goal.loop-i-preserved-in_ok-push_entry-in-Ok-2
loop-i-preserved-in_ok-push_entry-in-Ok-2 g c = next g (goal.at.loop-i-preserved-in_ok-push_entry-in-Ok-2 g c).In_ok-push_entry-in-Ok

pub loop-i-preserved : goal.loop-i-preserved
loop-i-preserved g c = next g (goal.at.loop-i-preserved g c).In_ok-push_entry-in-Ok
