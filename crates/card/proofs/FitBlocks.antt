-- The blocks that a card sends can be written.
use Rattle.std.proofs.Common.{◌≡◌, ℕ, ◌+◌, ◌<◌, ◌≤◌, Bool, true, false, cond, List, length, take, drop, refl, arith, length-append, length-drop, length-take}
use Rattle.std.proofs.lemmas.Bool.{ltb-true}
use Rattle.frames.specs.Blocks.{r_block, wait, Cid, without, numbered, ValidCid, cid_bytes}
use Rattle.frames.specs.Sizes.{size_of, greatest_code, longest_body}
use Rattle.protocol.specs.Card.{owes_rest, owes_nothing, owed_after, answer_block, answer_cid}
use Rattle.protocol.specs.Reader.{more}
use Rattle.protocol.specs.Settings.{room_of}
use Rattle.protocol.proofs.Ends.{size_least, size_most}
use Rattle.card.specs.Fit.{FitBlock, FitAnswer, FitOwed}

-- a block has room for one byte or more, and with that much it is no longer than the longest body
pub record Room (code : ℕ) (a : Cid) : Type 0 where
  pub some : 0 < room_of (size_of code) a
  pub fits : 1 + (length (cid_bytes a) + room_of (size_of code) a) ≤ longest_body

pub room : (code : ℕ) (a : Cid) → code ≤ greatest_code → Room code a
room code without h =
    let low = size_least code h in
    let high = size_most code in
    record { some = omega arith; fits = omega arith }
room code (numbered n p) h =
    let low = size_least code h in
    let high = size_most code in
    record { some = omega arith; fits = omega arith }

cid_short : (a : Cid) → length (cid_bytes a) ≤ 1
cid_short without = omega arith
cid_short (numbered n p) = omega arith

pub answer_cid_lem : (a : Cid) → ValidCid a → ValidCid (answer_cid a)
answer_cid_lem without v = tt
answer_cid_lem (numbered n p) v = (v.0, omega arith)

pub fit_r : (nak n : Bool) (a : Cid) → ValidCid a → FitBlock (r_block nak n a)
fit_r nak n a v = (v, omega (arith, cid_short a))

pub fit_wait : (m : ℕ) (a : Cid) → ValidCid a → 0 < m → m < 60 → FitBlock (wait m 0 a)
fit_wait m a v low high =
    let power : 0 < 4 = omega arith in
    ((v, low, high, power), (rw length-append (omega (arith, cid_short a))))

pub fit_part : (code : ℕ) (n : Bool) (a : Cid) (answer : List ℕ) → code ≤ greatest_code → ValidCid a → FitAnswer answer → FitBlock (answer_block (room_of (size_of code) a) n a answer)
fit_part code n a answer h v f =
    let r = room code a h in
    let part = take (room_of (size_of code) a) answer in
    let long = length-take (room_of (size_of code) a) answer in
    let some : 0 < length part = omega (arith, r.some, f.0) in
    let few : length part ≤ room_of (size_of code) a = omega arith in
    ((v, some), (rw length-append (omega (arith, r.fits))))

rest_fit : (b : Bool) (rest : List ℕ) → (b ≡ true → FitAnswer rest) → FitOwed (cond b (owes_rest rest) owes_nothing)
rest_fit true rest f = f refl
rest_fit false rest f = tt

pub fit_behind : (size : ℕ) (answer : List ℕ) → FitAnswer answer → FitOwed (owed_after size answer)
fit_behind size answer f =
    rest_fit (more (drop size answer)) (drop size answer)
    (λ e. (ltb-true 0 (length (drop size answer)) e, omega (arith, length-drop size answer, f.1)))
