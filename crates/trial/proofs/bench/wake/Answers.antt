use Rattle.std.proofs.Common.{◌≡◌, length, ◌∙◌, rules}
use Rattle.pair.specs.Deeds.{ask, hear, start}
use Rattle.pair.specs.Pairs.{setup_seen, world_seen}
use Rattle.pair.specs.Runs.{acted}
use Rattle.protocol.specs.Field.{whole}
use Rattle.trial.specs.Benches.{act}
use Rattle.trial.proofs.bench.wake.Goals as goal

pub returns-clause-world : goal.returns-clause-world
returns-clause-world g c =
    let app = g.A.Application.model in
    let p0 = c.args.pair.now in
    let p1 = c.call.new.self in
    let p2 = c.call-2.new.self in
    let room = length c.args.out.now in
    let long-1 : length c.call.new.out ≡ room = search rules in
    let long-2 : length c.call-2.new.out ≡ room = search rules in
    let s1 : setup_seen app p1 ≡ setup_seen app p0 = c.call.ensures.crossed.setup in
    let s2 : setup_seen app p2 ≡ setup_seen app p0 = c.call-2.ensures.crossed.setup ∙ s1 in
    let w1 : world_seen p1 ≡ acted (setup_seen app p0) room (world_seen p0) (act ask whole) = c.call.ensures.crossed.world in
    let w2 : world_seen p2 ≡ acted (setup_seen app p0) room (acted (setup_seen app p0) room (world_seen p0) (act ask whole)) (act hear whole) = c.call-2.ensures.crossed.world ∙ (λ i. acted (s1 i) (long-1 i) (w1 i) (act hear whole)) in
    c.call-3.ensures.crossed.world ∙ (λ i. acted (s2 i) (long-2 i) (w2 i) (act start whole))
