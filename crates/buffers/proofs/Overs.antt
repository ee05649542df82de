-- Laws of buffers that bytes are put into.
use Rattle.std.proofs.Common.{◌≡◌, ℕ, ◌+◌, ◌-◌, ◌≤◌, List, [], ◌++◌, length, take, drop, sym, refl, ap, ◌∙◌, ap₂, append_assoc, append-nil, arith, length-append, length-drop}
use borrow.Rule.Slice.PartMut.{put_mid}
use Rattle.std.proofs.lemmas.List.{take_at, take_rest, drop_all, drop_at, drop-drop, drop-append-le, length-take-le, take-append-drop}
use Rattle.std.proofs.lemmas.Slice.{drop-append-drop}
use Rattle.buffers.specs.Over.{over, over_at}

-- bytes at the front of the part that begins at a place
pub part_written : (at : ℕ) (bytes old part : List ℕ) → part ≡ over bytes (take (length old - at) (drop at old)) → put_mid at (length old - at) old part ≡ over_at at bytes old
part_written at bytes old part e =
    let rest : drop (length bytes) (take (length old - at) (drop at old)) ≡ drop (at + length bytes) old =
    ap (λ l. drop (length bytes) l) (take_rest old at) ∙ drop-drop (length bytes) at old in
    let none : drop (length old - at) (drop at old) ≡ [] =
    drop-drop (length old - at) at old ∙ drop_all (at + (length old - at)) old (omega arith) in
    ap₂ (λ p l. take at old ++ (p ++ l)) (e ∙ ap (λ l. bytes ++ l) rest) none
    ∙ ap (λ l. take at old ++ l) (append-nil (bytes ++ drop (at + length bytes) old))

-- bytes put right behind those at the front
pub over_more : (front bytes old : List ℕ) (at : ℕ) → at ≡ length front → over_at at bytes (over front old) ≡ over (front ++ bytes) old
over_more front bytes old at e =
    let behind : drop (at + length bytes) (over front old) ≡ drop (length (front ++ bytes)) old =
    sym (drop-drop (length bytes) at (over front old))
    ∙ ap (λ l. drop (length bytes) l) (drop_at front (drop (length front) old) at (sym e))
    ∙ drop-drop (length bytes) (length front) old
    ∙ ap (λ k. drop k old) (sym (length-append front bytes)) in
    ap₂ (λ a b. a ++ (bytes ++ b)) (take_at front (drop (length front) old) at (sym e)) behind
    ∙ sym (append_assoc front bytes (drop (length (front ++ bytes)) old))

-- the first bytes that are put
pub over_first : (bytes old : List ℕ) → over_at 0 bytes old ≡ over bytes old
over_first bytes old = ap (λ k. bytes ++ drop k old) (let k : 0 + length bytes ≡ length bytes = omega arith in k)

-- a buffer keeps its length
pub length_over : (bytes old : List ℕ) → length bytes ≤ length old → length (over bytes old) ≡ length old
length_over bytes old h = length-append bytes (drop (length bytes) old) ∙ omega (arith, length-drop (length bytes) old)

-- bytes put behind the first n, and those n bytes with them
pub over_behind : (n : ℕ) (bytes old : List ℕ) → n ≤ length old → over_at n bytes old ≡ over (take n old ++ bytes) old
over_behind n bytes old h =
    let long : n + length bytes ≡ length (take n old ++ bytes) =
    ap (λ k. k + length bytes) (sym (length-take-le n old h)) ∙ sym (length-append (take n old) bytes) in
    ap (λ k. take n old ++ (bytes ++ drop k old)) long
    ∙ sym (append_assoc (take n old) bytes (drop (length (take n old ++ bytes)) old))

-- what stands at the front is the bytes put there
pub take-over : (bytes old : List ℕ) (n : ℕ) → n ≡ length bytes → take n (over bytes old) ≡ bytes
take-over bytes old n e = take_at bytes (drop (length bytes) old) n (sym e)

-- bytes put over fewer ones
pub over_again : (bytes fewer old : List ℕ) → length fewer ≤ length bytes → over bytes (over fewer old) ≡ over bytes old
over_again bytes fewer old h = ap (λ l. bytes ++ l) (drop-append-drop (length fewer) old fewer (length bytes) h refl)

-- bytes put over the first n are put over the whole
pub over_front : (n : ℕ) (bytes old : List ℕ) → n ≤ length old → length bytes ≤ n → over bytes (take n old) ++ drop n old ≡ over bytes old
over_front n bytes old long few =
    let whole = length-take-le n old long in
    let inside : length bytes ≤ length (take n old) = omega arith in
    append_assoc bytes (drop (length bytes) (take n old)) (drop n old)
    ∙ ap (λ l. bytes ++ l)
    (sym (drop-append-le (length bytes) (take n old) (drop n old) inside) ∙ ap (drop (length bytes)) (take-append-drop n old))
