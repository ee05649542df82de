use Rattle.std.proofs.Common.{[], ◌∷◌, ◌++◌, vec_items, refl, arith}
use Rattle.std.proofs.lemmas.Slice.{pushed}
use Rattle.text.specs.Hex.{hex}
use Rattle.text.proofs.Hexes.{print_on, print_all}
use Rattle.text.proofs.print.push_hex.Goals as goal

pub loop-b-preserved : goal.loop-b-preserved
loop-b-preserved c =
    let bytes = c.args.bytes.now in
    let high = c.upper_digit in
    let low = c.upper_digit-in-loop-b in
    let one = pushed (high.result ∷ []) refl c.in_ok-push.was c.push.ensures.items in
    let two = pushed (low.result ∷ []) one c.in_ok-push-2.was c.push-in-loop-b.ensures.items in
    print_on bytes (vec_items c.loop-b.out) (vec_items c.push-in-loop-b.new.self) (vec_items c.args.out.now ++ hex bytes)
    c.loop-b.b-index high.result low.result (omega arith) high.ensures low.ensures two c.loop-b.invariant

pub returns : goal.returns
returns c =
    print_all c.args.bytes.now (vec_items c.loop-b.out) (vec_items c.args.out.now ++ hex c.args.bytes.now)
    c.loop-b.b-index (omega arith) c.loop-b.invariant
