-- Steps of a drive.
use Rattle.std.proofs.Common.{◌≡◌, ℕ, zero, suc, ◌-◌, ◌<◌, Bool, true, false, cond, not, sym, refl, ap, ◌∙◌, arith}
use Rattle.std.proofs.lemmas.Bool.{false≢true}
use Rattle.protocol.specs.Field.{Setup}
use Rattle.sweeping.specs.Plans.{turn_of, plan_after}
use Rattle.sweeping.specs.Trails.{Trail, and_then, driven}
use Rattle.sweeping.specs.declared.plan.Plan.{Plan}

pub not_on : (b : Bool) → not b ≡ true → b ≡ false
not_on true e = absurd (false≢true e)
not_on false e = refl

pub is_on : (b : Bool) → not b ≡ false → b ≡ true
is_on true e = refl
is_on false e = absurd (false≢true (sym e))

less : (n : ℕ) → suc n - 1 ≡ n
less n = omega arith

module _ {S : Type 0} (u : Setup S) (p : Plan) (t : Trail S) where
  -- no turn is left
  pub driven_none : (n : ℕ) → n ≡ 0 → driven n u p t ≡ t
  unfolding driven
  driven_none zero e = refl
  driven_none (suc n) e = absurd (omega (arith, e))

  -- an exchange that has ended stays as it is
  pub driven_ended : (n : ℕ) → t.told.goes_on ≡ false → driven n u p t ≡ t
  unfolding driven
  driven_ended zero e = refl
  driven_ended (suc n) e = ap (λ b. cond b (driven n u (plan_after p) (and_then u t.world t.times (turn_of p))) t) e

  -- one turn more
  pub driven_on : (n : ℕ) → 0 < n → t.told.goes_on ≡ true → driven n u p t ≡ driven (n - 1) u (plan_after p) (and_then u t.world t.times (turn_of p))
  unfolding driven
  driven_on zero some e = absurd (omega (arith, some))
  driven_on (suc n) some e =
      ap (λ b. cond b (driven n u (plan_after p) (and_then u t.world t.times (turn_of p))) t) e
      ∙ ap (λ k. driven k u (plan_after p) (and_then u t.world t.times (turn_of p))) (sym (less n))
