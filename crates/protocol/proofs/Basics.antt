-- Small facts about tests, block numbers and lists.
use Rattle.std.proofs.Common.{◌≡◌, ℕ, ◌<◌, ◌≤◌, Bool, true, false, not, eqb, List, [], ◌++◌, length, take, refl, ap, arith}
use Rattle.std.proofs.lemmas.List.{length-append, length-take, nil_from_length}
use Rattle.std.proofs.lemmas.Bool.{ltb-true, ltb-false, lt-ltb, eq-eqb, false≢true}
use Rattle.applications.specs.App.{IsCommand, longest_command}
use Rattle.frames.specs.Check.{both}
use Rattle.protocol.specs.Reader.{more, same}

pub both_left : (a b : Bool) → both a b ≡ true → a ≡ true
both_left true b e = refl
both_left false b e = e

pub both_right : (a b : Bool) → both a b ≡ true → b ≡ true
both_right true b e = e
both_right false b e = absurd (false≢true e)

pub both_from : (a b : Bool) → a ≡ true → b ≡ true → both a b ≡ true
both_from true b p q = q
both_from false b p q = p

pub both_false : (a : Bool) → both a false ≡ false
both_false true = refl
both_false false = refl

pub same_self : (n : Bool) → same n n ≡ true
same_self true = refl
same_self false = refl

pub same_not : (n : Bool) → same n (not n) ≡ false
same_not true = refl
same_not false = refl

pub not_same : (n : Bool) → same (not n) n ≡ false
not_same true = refl
not_same false = refl

pub eqb_self : (n : ℕ) → eqb n n ≡ true
eqb_self n = eq-eqb n n refl

pub more_pos : (xs : List ℕ) → more xs ≡ true → 0 < length xs
more_pos xs e = ltb-true 0 (length xs) e

pub pos_more : (xs : List ℕ) → 0 < length xs → more xs ≡ true
pos_more xs h = lt-ltb 0 (length xs) h

pub more_nil : (xs : List ℕ) → more xs ≡ false → xs ≡ []
more_nil xs e = nil_from_length xs (let h = ltb-false 0 (length xs) e in omega arith)

pub take_pos : (n : ℕ) (xs : List ℕ) → 0 < n → 0 < length xs → 0 < length (take n xs)
take_pos n xs p q = rw length-take (omega arith)

pub take_few : (n : ℕ) (xs : List ℕ) → length (take n xs) ≤ n
take_few n xs = rw length-take (omega arith)

-- the command's bytes so far and the part that is out are within the longest command
pub fits_command : (g p r c : List ℕ) → g ++ (p ++ r) ≡ c → IsCommand c → length (g ++ p) ≤ longest_command
fits_command g p r c cut ok =
    let e = ap length cut in
    let a = length-append g (p ++ r) in
    let b = length-append p r in
    let d = length-append g p in
    let h = ok.1 in
    omega arith
