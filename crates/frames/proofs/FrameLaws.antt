-- The laws of frames: sealing, opening, noise.
use Rattle.std.proofs.Common.{◌≡◌, ℕ, ◌+◌, ◌-◌, ◌/◌, ◌%◌, ◌<◌, ◌≤◌, true, eqb, List, [], ◌∷◌, ◌++◌, length, get_or, take, sym, refl, ap, ◌∙◌, ap₂, append_assoc, arith, take-append-drop}
use Rattle.std.proofs.lemmas.List.{take_at, get_or_at, drop_more, drop_all, length_push, same_from_push}
use Rattle.std.proofs.lemmas.Bool.{eq-eqb, eqb-true}
use Rattle.frames.specs.Check.{both, register, check_of, seal, body_of, checks, opened, open_frame, register_from, unopened, take_in, shift8}
use Rattle.frames.specs.Laws.{TwoMore, BeginsWithItsBody, OpensToItsBody, OpensIfSealed, SpoiltIsNoise, ZerosAreNoise}
use Rattle.frames.proofs.Boths.{both_true}
use Rattle.frames.proofs.Opening.{opens}
use Rattle.frames.proofs.Sealed.{two_more, open_checked}
use Rattle.frames.specs.Causes.{check_wrong}

pub two_more_law : TwoMore
two_more_law = two_more

pub begins_with_its_body : BeginsWithItsBody
unfolding seal
begins_with_its_body body = take_at body (check_of body) (length body) refl

-- the body of a frame, and the two bytes behind it
front_of_lem : (body : List ℕ) → body_of (seal body) ≡ body
unfolding seal body_of
front_of_lem body =
    take_at body (check_of body) (length (seal body) - 2) (let e : length body ≡ length (seal body) - 2 = omega (arith, two_more body) in e)

low_of : (body : List ℕ) → get_or (seal body) (length (seal body) - 2) 0 ≡ register body % 256
unfolding seal check_of
low_of body =
    get_or_at body (register body % 256) (register body / 256 ∷ []) 0 (length (seal body) - 2)
    (let e : length body ≡ length (seal body) - 2 = omega (arith, two_more body) in e)

-- the frame with its last byte apart
pub last_apart : (body : List ℕ) → seal body ≡ (body ++ register body % 256 ∷ []) ++ register body / 256 ∷ []
unfolding seal check_of
last_apart body = sym (append_assoc body (register body % 256 ∷ []) (register body / 256 ∷ []))

high_of : (body : List ℕ) → get_or (seal body) (length (seal body) - 1) 0 ≡ register body / 256
high_of body =
    ap (λ l. get_or l (length (seal body) - 1) 0) (last_apart body)
    ∙ get_or_at (body ++ register body % 256 ∷ []) (register body / 256) [] 0 (length (seal body) - 1)
    (let e : length (body ++ register body % 256 ∷ []) ≡ length (seal body) - 1 = omega (arith, two_more body, length_push body (register body % 256)) in e)

sealed_checks : (body : List ℕ) → checks (seal body) ≡ true
unfolding checks
sealed_checks body =
    ap₂ both
    (ap₂ eqb (low_of body) (ap (λ l. register l % 256) (front_of_lem body)) ∙ eq-eqb _ _ refl)
    (ap₂ eqb (high_of body) (ap (λ l. register l / 256) (front_of_lem body)) ∙ eq-eqb _ _ refl)

pub opens_to_its_body : OpensToItsBody
opens_to_its_body limit body some fits =
    open_checked limit (seal body) (omega (arith, two_more body)) fits (sealed_checks body) ∙ ap opened (front_of_lem body)

-- the last two bytes of a list, apart
ends_apart : (f : List ℕ) → 3 ≤ length f → f ≡ take (length f - 2) f ++ (get_or f (length f - 2) 0 ∷ get_or f (length f - 1) 0 ∷ [])
ends_apart f long =
    let n : ℕ = length f - 2 in
    let next : n + 1 ≡ length f - 1 = omega arith in
    let two = drop_more f n 0 (omega arith) in
    let one = drop_more f (n + 1) 0 (omega arith) in
    let none = drop_all (n + 1 + 1) f (omega arith) in
    sym (take-append-drop n f)
    ∙ ap (λ l. take n f ++ l) (two ∙ ap (λ l. get_or f n 0 ∷ l) (one ∙ ap₂ (λ k l. get_or f k 0 ∷ l) next none))

pub opens_if_sealed : OpensIfSealed
unfolding seal check_of checks body_of
opens_if_sealed limit f body e =
    let o = opens limit f body e in
    let good = both_true _ _ o.good in
    let low = eqb-true _ _ good.0 in
    let high = eqb-true _ _ good.1 in
    let is : f ≡ seal (body_of f) = ends_apart f o.long ∙ ap₂ (λ x y. take (length f - 2) f ++ (x ∷ y ∷ [])) low high in
    let whole : f ≡ seal body = is ∙ ap seal o.front in
    (whole, (let some : 0 < length body = omega (arith, o.long, two_more body, ap length whole) in some), o.fits)

-- a body is known from its frame
pub seal_apart : (a b : List ℕ) → seal a ≡ seal b → a ≡ b
seal_apart a b e = sym (front_of_lem a) ∙ ap body_of e ∙ front_of_lem b

pub spoilt_is_noise : SpoiltIsNoise
spoilt_is_noise body front x y made other body' some again =
    let p = same_from_push (body ++ register body % 256 ∷ []) front (register body / 256) x (sym (last_apart body) ∙ made) in
    let q = same_from_push (body' ++ register body' % 256 ∷ []) front (register body' / 256) y (sym (last_apart body') ∙ again) in
    let same = (same_from_push body body' (register body % 256) (register body' % 256) (p.0 ∙ sym q.0)).0 in
    other (sym p.1 ∙ ap (λ l. register l / 256) same ∙ q.1)

zeros_unopened : open_frame 3 (0 ∷ 0 ∷ 0 ∷ []) ≡ unopened check_wrong
unfolding open_frame checks body_of register register_from take_in shift8
zeros_unopened = refl

no_frame_lem : (body : List ℕ) → unopened check_wrong ≡ opened body → ⊥
no_frame_lem body e = let z : ◌≡◌ {A = ℕ} 0 1 = cc in omega arith

pub zeros_are_noise : ZerosAreNoise
zeros_are_noise body some e =
    let three : length (seal body) ≡ 3 = ap length e in
    no_frame_lem body
    (sym zeros_unopened ∙ ap (open_frame 3) (sym e) ∙ opens_to_its_body 3 body some (omega (arith, three)))
