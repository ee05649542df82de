-- What a frame that opens is known to be.
use Rattle.std.proofs.Common.{◌≡◌, ℕ, ◌≤◌, Bool, true, false, cond, ltb, List, length, sym, refl, ap, arith}
use Rattle.std.proofs.lemmas.Bool.{ltb-false}
use Rattle.frames.specs.Causes.{Cause, too_short, too_long, check_wrong}
use Rattle.frames.specs.Check.{body_of, checks, Opened, opened, unopened, open_frame}
use Rattle.frames.specs.Reading.{Agreed, read_opened, read_frame}

never : (why : Cause) (body : List ℕ) → unopened why ≡ opened body → ⊥
never why body e = let z : ◌≡◌ {A = ℕ} 0 1 = cc in omega arith

passed : (short long good : Bool) (a b c : Cause) (x body : List ℕ) → cond short (unopened a) (cond long (unopened b) (cond good (opened x) (unopened c))) ≡ opened body → (short ≡ false) × (long ≡ false) × (good ≡ true) × (x ≡ body)
passed true long good a b c x body e = absurd (never a body e)
passed false true good a b c x body e = absurd (never b body e)
passed false false true a b c x body e = (refl, refl, refl, cc)
passed false false false a b c x body e = absurd (never c body e)

-- a frame that opens passes every test
pub record Opens (limit : ℕ) (f body : List ℕ) : Type 0 where
  pub long : 3 ≤ length f
  pub fits : length f ≤ limit
  pub good : checks f ≡ true
  pub front : body_of f ≡ body

pub opens : (limit : ℕ) (f body : List ℕ) → open_frame limit f ≡ opened body → Opens limit f body
unfolding open_frame
opens limit f body e =
    let p = passed (ltb (length f) 3) (ltb limit (length f)) (checks f) too_short too_long check_wrong (body_of f) body e in
    record {
      long = ltb-false (length f) 3 p.0;
      fits = ltb-false limit (length f) p.1;
      good = p.2;
      front = p.3;
    }

-- it opens to its front
pub opened_front : (limit : ℕ) (f body : List ℕ) → opened body ≡ open_frame limit f → body ≡ body_of f
opened_front limit f body e = sym (opens limit f body (sym e)).front

-- what opens is read by what it opens to
pub read_by : (limit : ℕ) (agreed : Agreed) (f : List ℕ) (o : Opened) → o ≡ open_frame limit f → read_opened agreed o ≡ read_frame limit agreed f
unfolding read_frame
read_by limit agreed f o e = ap (read_opened agreed) e
