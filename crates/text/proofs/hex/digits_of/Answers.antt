use Rattle.std.proofs.Common.{◌≡◌, ◌*◌, length, take, ap, ◌∙◌, arith, rules}
use Rattle.std.proofs.lemmas.List.{take_all}
use Rattle.std.proofs.lemmas.Str.{IsUtf8-from_ascii}
use Rattle.std.specs.Str.{IsUtf8}
use Rattle.text.specs.Hex.{hex}
use Rattle.text.proofs.Hexes.{hex_more, two_put, IsAscii-hex}
use Rattle.text.proofs.hex.digits_of.Goals as goal

pub loop-i-preserved : goal.loop-i-preserved
loop-i-preserved c =
    let bytes = c.args.bytes.now in
    let more = two_put c.loop-i.digits c.loop-i.i c.upper_digit.result c.upper_digit-in-loop-i.result (omega arith) in
    let hexed = hex_more bytes c.loop-i.i (omega arith) in (cc, search rules)

pub unwrap-requires : goal.unwrap-requires
unwrap-requires c =
    let bytes = c.args.bytes.now in
    let utf8 : IsUtf8 (hex bytes) = IsUtf8-from_ascii (hex bytes) (IsAscii-hex bytes (λ k. (c.type_inv.bytes k).fits)) in
    let done : length bytes ≡ c.loop-i.i = omega arith in
    let text : take (2 * length bytes) c.loop-i.digits ≡ hex bytes =
    ap (λ k. take (2 * k) c.loop-i.digits) done ∙ c.loop-i.invariant.0 ∙ ap hex (take_all c.loop-i.i bytes (omega arith)) in
    let put : IsUtf8 (take (2 * length bytes) c.loop-i.digits) = rw text utf8 in
    search rules
