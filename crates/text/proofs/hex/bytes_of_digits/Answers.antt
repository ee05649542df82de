use Rattle.std.proofs.Common.{◌≡◌, ◌/◌, ◌%◌, length, vec_items, arith, rules}
use Rattle.text.specs.Hex.{unhex}
use Rattle.text.proofs.Hexes.{unhex-odd, read_start, read_on}
use Rattle.text.proofs.hex.bytes_of_digits.Goals as goal

pub returns-in_default : goal.returns-in_default
returns-in_default c =
    unhex-odd (length c.args.digits.now / 2) c.args.digits.now (omega (arith, c.as_chunks.ensures.back_len))

pub loop-high-init : goal.loop-high-init
loop-high-init c =
    let even : length c.args.digits.now % 2 ≡ 0 = omega (arith, c.as_chunks.ensures.back_len) in
    read_start c.args.digits.now c.as_chunks.result.0.now _ even c.as_chunks.ensures.front c.new-bytes.ensures.items

pub loop-high-preserved : goal.loop-high-preserved
loop-high-preserved c =
    rw c.in_ok-push.ensures.items
    (read_on c.as_chunks.result.0.now (vec_items c.loop-high.bytes) c.loop-high.high-index (unhex c.args.digits.now) c.loop-high.invariant _ (omega arith) (search rules))
