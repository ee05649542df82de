-- A list whose first elements are named by their places.
use Rattle.std.proofs.Common.{◌≡◌, ℕ, zero, suc, ◌+◌, ◌≤◌, List, [], ◌∷◌, ◌++◌, length, get_or, drop, ap, ◌∙◌, add-zero, arith, drop-cons}

-- so many elements from a place on
abbrev pub elements : ℕ → ℕ → List ℕ → List ℕ
elements zero i c = []
elements (suc n) i c = get_or c i 0 ∷ elements n (suc i) c

pub named : (n i : ℕ) (c : List ℕ) → i + n ≤ length c → drop i c ≡ elements n i c ++ drop (i + n) c
named zero i c long = rw add-zero
named (suc n) i c long =
    let shift : suc i + n ≡ i + suc n = omega arith in
    drop-cons c i 0 (omega arith) ∙ ap (λ t. get_or c i 0 ∷ t) (named n (suc i) c (omega arith) ∙ ap (λ k. elements n (suc i) c ++ drop k c) shift)
