-- The parts of a frame, by numbers as the code has them.
use Rattle.std.proofs.Common.{◌≡◌, ℕ, ◌+◌, ◌-◌, ◌/◌, ◌%◌, ◌<◌, ◌≤◌, true, false, eqb, List, [], ◌∷◌, length, get_or, take, Ok, ap, ◌∙◌, ap₂, arith, length-append}
use Rattle.std.proofs.lemmas.Bool.{lt-ltb, le-ltb, le-leb}
use Rattle.buffers.specs.Over.{over}
use Rattle.buffers.proofs.Overs.{take-over, over_again}
use Rattle.frames.specs.Causes.{too_short, too_long, check_wrong}
use Rattle.frames.specs.Check.{both, register, check_of, seal, body_of, checks, opened, unopened, open_frame}
use Rattle.frames.specs.Sizes.{greatest_frame, longest_body}
use Rattle.frames.specs.Sealing.{sealing}

-- the check has two bytes
pub two_more : (body : List ℕ) → length (seal body) ≡ length body + 2
unfolding seal check_of
two_more body = length-append body (check_of body)

-- the check from a register of sixteen bits
pub check_bytes : (body : List ℕ) (r : ℕ) → r ≡ register body → r < 65536 → (r % 256 ∷ r / 256 % 256 ∷ []) ≡ check_of body
unfolding check_of
check_bytes body r e small =
    let high : r / 256 % 256 ≡ r / 256 = omega arith in
    ap (λ h. r % 256 ∷ h ∷ []) high ∙ ap (λ x. x % 256 ∷ x / 256 ∷ []) e

-- the test of the check, from a register of sixteen bits and its two bytes
pub checks_by : (f : List ℕ) (n m r : ℕ) (bytes : List ℕ) → 3 ≤ length f → n ≡ length f - 2 → m ≡ n → r ≡ register (take m f) → r < 65536 → bytes ≡ (r % 256 ∷ r / 256 % 256 ∷ []) → both (eqb (get_or f n 0) (get_or bytes 0 0)) (eqb (get_or f (n + 1) 0) (get_or bytes 1 0)) ≡ checks f
unfolding checks body_of
checks_by f n m r bytes long is same e small two =
    let next : n + 1 ≡ length f - 1 = omega arith in
    let high : r / 256 % 256 ≡ r / 256 = omega arith in
    let body : r ≡ register (take (length f - 2) f) = e ∙ ap (λ k. register (take k f)) (same ∙ is) in
    ap₂ both
    (ap₂ eqb (ap (λ k. get_or f k 0) is) (ap (λ l. get_or l 0 0) two ∙ ap (λ x. x % 256) body))
    (ap₂ eqb (ap (λ k. get_or f k 0) next) (ap (λ l. get_or l 1 0) two ∙ high ∙ ap (λ x. x / 256) body))

-- the four ways of opening
pub open_short : (limit : ℕ) (f : List ℕ) → length f < 3 → open_frame limit f ≡ unopened too_short
unfolding open_frame
open_short limit f h = rw (lt-ltb (length f) 3 h)

pub open_long : (limit : ℕ) (f : List ℕ) → 3 ≤ length f → limit < length f → open_frame limit f ≡ unopened too_long
unfolding open_frame
open_long limit f h long = rw (le-ltb (length f) 3 h, lt-ltb limit (length f) long)

pub open_checked : (limit : ℕ) (f : List ℕ) → 3 ≤ length f → length f ≤ limit → checks f ≡ true → open_frame limit f ≡ opened (body_of f)
unfolding open_frame
open_checked limit f h fits good = rw (le-ltb (length f) 3 h, le-ltb limit (length f) fits, good)

pub open_unchecked : (limit : ℕ) (f : List ℕ) → 3 ≤ length f → length f ≤ limit → checks f ≡ false → open_frame limit f ≡ unopened check_wrong
unfolding open_frame
open_unchecked limit f h fits bad = rw (le-ltb (length f) 3 h, le-ltb limit (length f) fits, bad)

-- a body that can be sealed is
pub sealing_goes : (body : List ℕ) (buffer : ℕ) → greatest_frame ≤ buffer → 0 < length body → length body ≤ longest_body → sealing body buffer ≡ Ok (length (seal body))
sealing_goes body buffer room some fits =
    rw (le-ltb buffer greatest_frame room, lt-ltb 0 (length body) some, le-leb (length body) longest_body fits)

-- a body at the front of a buffer, and then its check behind it
pub closed : (body old now : List ℕ) (n : ℕ) → now ≡ over body old → n ≡ length body → over (seal (take n now)) now ≡ over (seal body) old
closed body old now n e long =
    ap (λ l. over (seal (take n l)) l) e ∙ ap (λ l. over (seal l) (over body old)) (take-over body old n long)
    ∙ over_again (seal body) body old (let more : length body ≤ length (seal body) = omega (arith, two_more body) in more)
