-- From the parts of a frame to the whole.
use Rattle.std.proofs.Common.{◌≡◌, ℕ, suc, ◌-◌, true, cond, List, ◌∷◌, drop, Some, Ok, Err, Result, sym, refl, ap, ◌∙◌, arith}
use Rattle.frames.specs.declared.block.Block as coded
use Rattle.frames.specs.declared.block.Block.TheVariants as blocks
use Rattle.frames.specs.declared.fault.BlockFault.{BlockFault}
use Rattle.frames.specs.declared.kind.Kind as table
use Rattle.frames.specs.declared.kind.Kind.TheVariants.{I, R, Deselect, Wait}
use Rattle.frames.specs.Causes.{without_kind}
use Rattle.frames.specs.Kinds.{kind_seen}
use Rattle.frames.specs.Reading.{Agreed, kind_of, is_kind, read_rest, read_body, invalid}
use Rattle.frames.specs.Views.{Placed}

-- the control byte stands one place before the bytes behind it
pub behind_control : (c : ℕ) (rest : List ℕ) (r : Result coded.Block BlockFault) → Placed 2 rest r → Placed 1 (c ∷ rest) r
behind_control c rest (Ok (blocks.I chaining bit card place information)) h =
    let next : suc (place - 2) ≡ place - 1 = omega (arith, h.0) in
    (h.0, h.1 ∙ ap (λ k. drop k (c ∷ rest)) next)
behind_control c rest (Ok (blocks.R nak bit card)) h = tt
behind_control c rest (Ok (blocks.Deselect card)) h = tt
behind_control c rest (Ok (blocks.Wait multiplier power card)) h = tt
behind_control c rest (Err why) h = tt

is_kind_lem : (k : table.Kind) → is_kind (kind_seen (Some k)) ≡ true
is_kind_lem I = refl
is_kind_lem R = refl
is_kind_lem Deselect = refl
is_kind_lem Wait = refl

-- a body with a control byte of a kind is read by what stands behind it
pub by_kind : (agreed : Agreed) (c : ℕ) (rest : List ℕ) (k : table.Kind) → kind_seen (Some k) ≡ kind_of c → read_rest agreed (kind_seen (Some k)) c rest ≡ read_body agreed (c ∷ rest)
by_kind agreed c rest k e =
    ap (λ b. cond b (read_rest agreed (kind_seen (Some k)) c rest) (invalid without_kind)) (sym (is_kind_lem k))
    ∙ ap (λ K. cond (is_kind K) (read_rest agreed K c rest) (invalid without_kind)) e
