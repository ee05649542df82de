-- Bytes printed and read back.
use Rattle.std.proofs.Common.{◌≡◌, ℕ, suc, ◌/◌, ◌%◌, ◌<◌, Bool, true, false, cond, eqb, List, [], ◌∷◌, length, Some, None, refl, ap, ◌∙◌, ap₂, arith}
use Rattle.std.proofs.lemmas.Bool.{ne_eqb}
use Rattle.frames.specs.Check.{both}
use Rattle.frames.specs.Laws.{Bytes}
use Rattle.frames.proofs.Controls.{at_all}
use Rattle.text.specs.Hex.{byte_of, before, unhex, upper, hex}
use Rattle.text.specs.Laws.{ComesBack}

-- computed at all bytes
byte_back : (b : ℕ) → b < 256 → byte_of (upper (b / 16)) (upper (b % 16)) ≡ Some b
byte_back = at_all (λ b. byte_of (upper (b / 16)) (upper (b % 16))) (λ b. Some b) None refl

hex_back : (bytes : List ℕ) → Bytes bytes → unhex (hex bytes) ≡ Some bytes
hex_back [] small = refl
hex_back (b ∷ bs) small = ap₂ before (byte_back b (small 0)) (hex_back bs (λ k. small (suc k)))

no_dash : (t : Bool) → both t false ≡ false
no_dash true = refl
no_dash false = refl

pub comes_back : ComesBack
comes_back [] small = refl
comes_back (b ∷ bs) small =
    let first : ℕ = upper (b / 16) in
    let rest : List ℕ = upper (b % 16) ∷ hex bs in
    let long : eqb (length rest) 0 ≡ false = ne_eqb (length rest) 0 (λ e. omega arith) in
    ap (λ t. cond (both (eqb first 45) t) (Some []) (unhex (first ∷ rest))) long
    ∙ ap (λ t. cond t (Some []) (unhex (first ∷ rest))) (no_dash (eqb first 45)) ∙ hex_back (b ∷ bs) small
