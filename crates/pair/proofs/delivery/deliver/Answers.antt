use Rattle.std.proofs.Common.{◌≡◌, ℕ, cond, length, None, ap, ◌∙◌, rules}
use Rattle.card.specs.Calls.{move_at}
use Rattle.pair.specs.Fronts.{front_of, fits}
use Rattle.pair.proofs.Delivered.{front_replied, fits-replied, len_heard, buffer_heard_lem}
use Rattle.pair.proofs.delivery.deliver.Goals as goal

pub invariant_of-air : goal.invariant_of-air
invariant_of-air g c =
    let m = move_at g.A.Application.model c.args.card.now c.args.frame.now in
    let room : ℕ = length c.args.air.now.bytes in
    let full : room ≡ 256 = c.args.air.now.full in
    let said = c.in-Ok.ensures in
    let whole : length c.hear.new.out ≡ 256 = search rules in
    let len : c.heard-air.result ≡ cond c.args.audible _ None = c.heard-air.ensures ∙ ap (λ o. cond c.args.audible o None) (len_heard m room full c.in-Ok.response said.value) in
    record {
      full = whole;
      within =
          ap fits len
          ∙ fits-replied m.answer c.args.audible c.args.air.now.bytes c.hear.new.out (said.bytes ∙ buffer_heard_lem m room full c.args.air.now.bytes) whole;
    }

pub returns-in-Ok-clause-air : goal.returns-in-Ok-clause-air
returns-in-Ok-clause-air g c =
    let m = move_at g.A.Application.model c.args.card.now c.args.frame.now in
    let room : ℕ = length c.args.air.now.bytes in
    let full : room ≡ 256 = c.args.air.now.full in
    let said = c.in-Ok.ensures in
    let len : c.heard-air.result ≡ cond c.args.audible _ None = c.heard-air.ensures ∙ ap (λ o. cond c.args.audible o None) (len_heard m room full c.in-Ok.response said.value) in
    ap (λ o. front_of o c.hear.new.out) len
    ∙ front_replied m.answer c.args.audible c.args.air.now.bytes c.hear.new.out (said.bytes ∙ buffer_heard_lem m room full c.args.air.now.bytes)
