-- A run of losses leaves fewer lines behind it.
use Rattle.std.proofs.Common.{◌≡◌, ℕ, ◌+◌, ◌-◌, ◌*◌, ◌<◌, ◌≤◌, Bool, true, false, cond, eqb, ltb, Some, None, refl, arith}
use Rattle.std.proofs.lemmas.Bool.{ltb-true}
use Rattle.sweeping.specs.Runs.{losses_at, last_code, following}
use Rattle.sweeping.specs.Sweeps.{place_of, left_at}
use Rattle.sweeping.specs.declared.run.Run.{Run}
use Rattle.sweeping.specs.declared.sweep.Place.TheVariants.{Losses}

-- every number of digits has a last code that is no greater than that of five
last_low : (count : ℕ) → last_code count ≤ 1023
last_low count = pick (eqb count 1) (eqb count 2) (eqb count 3) (eqb count 4)
  where
    pick : (a b c d : Bool) → cond a 3 (cond b 15 (cond c 63 (cond d 255 1023))) ≤ 1023
    pick true b c d = omega arith
    pick false true c d = omega arith
    pick false false true d = omega arith
    pick false false false true = omega arith
    pick false false false false = omega arith

one_more : (m n k : ℕ) → n ≡ m + 1 → n * k ≡ m * k + k
one_more m n k e = rw e (grind arith)

module _ (losses turns : ℕ) (r : Run) where
  by_cases : (digits start long : Bool) → ltb r.code (last_code r.count) ≡ digits → ltb r.first turns ≡ start → ltb r.count losses ≡ long → left_at losses turns (Some (place_of (cond digits (Some (losses_at r.count r.first (r.code + 1))) (cond start (Some (losses_at r.count (r.first + 1) 0)) (cond long (Some (losses_at (r.count + 1) 1 0)) None))))) < left_at losses turns (Some (Losses r))
  by_cases true start long a b c = omega (arith, ltb-true r.code (last_code r.count) a, last_low r.count)
  by_cases false true long a b c = omega (arith, ltb-true r.first turns b)
  by_cases false false true a b c =
      let below = ltb-true r.count losses c in
      let step : losses - r.count ≡ (losses - (r.count + 1)) + 1 = omega (arith, below) in
      omega (arith, one_more (losses - (r.count + 1)) (losses - r.count) (1024 * (turns + 1)) step)
  by_cases false false false a b c = omega arith

  pub left_falls : left_at losses turns (Some (place_of (following losses turns r))) < left_at losses turns (Some (Losses r))
  left_falls = by_cases (ltb r.code (last_code r.count)) (ltb r.first turns) (ltb r.count losses) refl refl refl
