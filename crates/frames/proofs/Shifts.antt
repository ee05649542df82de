-- The register after so many shifts.
use Rattle.std.proofs.Common.{◌≡◌, ℕ, zero, suc, ◌+◌, refl, ap, add-one}
use Rattle.frames.specs.Check.{shift, shift8}

abbrev pub shifts : ℕ → ℕ → ℕ
shifts zero r = r
shifts (suc n) r = shift (shifts n r)

pub shifts_more : (n r : ℕ) → shifts (n + 1) r ≡ shift (shifts n r)
shifts_more n r = ap (λ k. shifts k r) (add-one n)

pub shifts_eight : (r : ℕ) → shifts 8 r ≡ shift8 r
unfolding shift8
shifts_eight r = refl
