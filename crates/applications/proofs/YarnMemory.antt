-- The record remembers what good writes put there.
use Rattle.std.proofs.Common.{◌≡◌, ℕ, zero, suc, ◌+◌, ◌-◌, ◌<◌, ◌≤◌, Bool, true, false, cond, ltb, ◌≢◌, ◌⊎◌, List, [], ◌∷◌, length, get_or, set, Ok, Err, Result, sym, refl, ap, ◌∙◌, inl, inr, add-zero, arith, length-set, get_or-set_other, get_or-set_same}
use lib.Seq.{sets}
use Rattle.std.proofs.lemmas.Bool.Decides.{leb_tells}
use Rattle.applications.specs.App.{after}
use Rattle.applications.specs.Command.{p1, p2}
use Rattle.applications.specs.History.{exchange, history}
use Rattle.applications.specs.Status.{word_of}
use Rattle.applications.specs.Yarn.{Wanted, read_bytes, write_bytes, request_of, record_size, written, yarn, done, offset_of}
use Rattle.applications.specs.YarnLaws.{GoodWrite, Touches, put_there, Stands}
use Rattle.applications.specs.declared.status.StatusWord.{StatusWord}
use Rattle.applications.specs.declared.status.StatusWord.TheVariants.{Good, WrongLength, WrongParameters}
use Rattle.applications.specs.declared.yarn.Yarn.{Yarn}
use Rattle.applications.proofs.YarnCommands.{write_request_lem, write_asked, write_command_lem}

-- bytes put one behind the other from i on, and the places beside them
sets_beside : (vs l : List ℕ) (i k : ℕ) → (k < i) ⊎ (i + length vs ≤ k) → get_or (sets l i vs) k 0 ≡ get_or l k 0
sets_beside [] l i k out = refl
sets_beside (v ∷ vs) l i k out =
    let other : k ≢ i = grind arith in
    let out' : (k < suc i) ⊎ (suc i + length vs ≤ k) = grind arith in
    sets_beside vs (set l i v) (suc i) k out' ∙ get_or-set_other l i k v 0 other

-- and the places where they stand
sets_there : (vs l : List ℕ) (i j : ℕ) → j < length vs → i + j < length l → get_or (sets l i vs) (i + j) 0 ≡ get_or vs j 0
sets_there [] l i j in-vs in-l = omega arith
sets_there (v ∷ vs) l i zero in-vs in-l =
    sets_beside vs (set l i v) (suc i) (i + 0) (inl (omega arith)) ∙ rw add-zero (get_or-set_same l i v 0 (omega arith))
sets_there (v ∷ vs) l i (suc j) in-vs in-l =
    let fits : suc i + j < length (set l i v) = rw length-set (omega arith) in
    ap (λ k. get_or (sets (set l i v) (suc i) vs) k 0) (omega arith) ∙ sets_there vs (set l i v) (suc i) j (omega arith) fits

-- an answer of 9000 was not given to a fault
asked_well : (y : Yarn) (some past : Bool) (want : Wanted)
    → (done y (cond some (cond past (Err WrongParameters) (Ok want)) (Err WrongLength))).answer ≡ word_of Good
    → ◌≡◌ {A = Result Wanted StatusWord} (cond some (cond past (Err WrongParameters) (Ok want)) (Err WrongLength)) (Ok want)
asked_well y true false want good = refl
asked_well y true true want good = let z : ◌≡◌ {A = ℕ} 0x6B 0x90 = ap (λ l. get_or l 0 0) good in absurd (omega (arith, z))
asked_well y false past want good = let z : ◌≡◌ {A = ℕ} 0x67 0x90 = ap (λ l. get_or l 0 0) good in absurd (omega (arith, z))

-- a good write is what the record was asked for
good_write_asked : (y : Yarn) (c : List ℕ) (w : GoodWrite (exchange yarn y c))
    → request_of c ≡ Ok (write_bytes (offset_of w.p1 w.p2) w.bytes)
good_write_asked y c w =
    let judged = ap request_of w.commanded ∙ write_request_lem w.p1 w.p2 w.bytes in
    let some = ltb 0 (length w.bytes) in
    let past = ltb record_size (offset_of w.p1 w.p2 + length w.bytes) in
    judged ∙ asked_well y some past (write_bytes (offset_of w.p1 w.p2) w.bytes) (ap (λ r. (done y r).answer) (sym judged) ∙ w.answered)

-- what the record is asked to write is a good write
abbrev pub write_asked_good : (y : Yarn) (c : List ℕ) (offset : ℕ) (bytes : List ℕ) → request_of c ≡ Ok (write_bytes offset bytes)
    → GoodWrite (exchange yarn y c)
write_asked_good y c offset bytes asked = record {
  p1 = p1 c;
  p2 = p2 c;
  bytes = bytes;
  commanded = write_command_lem c offset bytes (write_asked c offset bytes asked);
  answered = ap (λ r. (done y r).answer) asked;
}

-- what one command does at a place
abbrev Kept : Yarn → List ℕ → ℕ → Type 0
Kept y c k =
    ((w : GoodWrite (exchange yarn y c)) → Touches w k → ⊥) × (get_or (yarn.next y c).bytes k 0 ≡ get_or y.bytes k 0)

abbrev Put : Yarn → List ℕ → ℕ → Type 0
Put y c k = (w : GoodWrite (exchange yarn y c)) × Touches w k × (get_or (yarn.next y c).bytes k 0 ≡ put_there w k)

-- where nothing is written there is no good write
no_write : (y : Yarn) (c : List ℕ) (k : ℕ) (r : Result Wanted StatusWord) → request_of c ≡ r → (done y r).next ≡ y
    → ((offset : ℕ) (bytes : List ℕ) → r ≡ Ok (write_bytes offset bytes) → ⊥) → Kept y c k
no_write y c k r asked same other =
    ((λ w _. other _ _ (sym asked ∙ good_write_asked y c w)), ap (λ r. get_or (done y r).next.bytes k 0) asked ∙ ap (λ s. get_or s.bytes k 0) same)

written_there : (y : Yarn) (c : List ℕ) (k : ℕ) → k < record_size → (offset : ℕ) (bytes : List ℕ)
    → request_of c ≡ Ok (write_bytes offset bytes) → offset ≤ k → k < offset + length bytes → Put y c k
unfolding written
written_there y c k within offset bytes asked low high =
    let w = write_asked_good y c offset bytes asked in
    let at : offset ≡ offset_of (p1 c) (p2 c) = (write_asked c offset bytes asked).at in
    let fits : offset + (k - offset) < length y.bytes = omega (arith, y.full) in
    let read : get_or (sets y.bytes offset bytes) (offset + (k - offset)) 0 ≡ get_or bytes (k - offset) 0 =
    sets_there bytes y.bytes offset (k - offset) (omega arith) fits in
    let place : offset + (k - offset) ≡ k = omega arith in
    let now : get_or (yarn.next y c).bytes k 0 ≡ get_or (sets y.bytes offset bytes) k 0 =
    ap (λ r. get_or (done y r).next.bytes k 0) asked in
    (w, (omega arith, omega arith), now ∙ rw place at read ∙ ap (λ o. get_or bytes (k - o) 0) at)

written_beside : (y : Yarn) (c : List ℕ) (k : ℕ) (offset : ℕ) (bytes : List ℕ)
    → request_of c ≡ Ok (write_bytes offset bytes) → (k < offset) ⊎ (offset + length bytes ≤ k) → Kept y c k
unfolding written
written_beside y c k offset bytes asked beside = (
  (λ w t.
      let e : Ok (write_bytes offset bytes) ≡ Ok (write_bytes (offset_of w.p1 w.p2) w.bytes) = sym asked ∙ good_write_asked y c w in
      let at : offset ≡ offset_of w.p1 w.p2 = cc in
      let same : bytes ≡ w.bytes = cc in
      let long = ap length same in
      grind arith),
  ap (λ r. get_or (done y r).next.bytes k 0) asked ∙ sets_beside bytes y.bytes offset k beside,
)

there_or_beside : (offset n k : ℕ) → ((offset ≤ k) × (k < offset + n)) ⊎ ((k < offset) ⊎ (offset + n ≤ k))
there_or_beside offset n k =
    elim (leb_tells offset k) [
      | inl low ↦ elim (leb_tells (offset + n) k) [ inl high ↦ inr (inr high.1) | inr high ↦ inl (low.1, high.1) ]
      | inr low ↦ inr (inl low.1)
    ]

step : (y : Yarn) (c : List ℕ) (k : ℕ) → k < record_size → (r : Result Wanted StatusWord) → request_of c ≡ r → Kept y c k ⊎ Put y c k
step y c k within (Ok (read_bytes offset len)) asked =
    inl (no_write y c k _ asked refl (λ o bs e. let z : ◌≡◌ {A = ℕ} 0 1 = cc in omega arith))
step y c k within (Ok (write_bytes offset bytes)) asked =
    elim (there_or_beside offset (length bytes) k) [
      | inl there ↦ inr (written_there y c k within offset bytes asked there.0 there.1)
      | inr beside ↦ inl (written_beside y c k offset bytes asked beside)
    ]
step y c k within (Err status) asked =
    inl (no_write y c k _ asked refl (λ o bs e. let z : ◌≡◌ {A = ℕ} 0 1 = cc in omega arith))

-- after any commands
abbrev pub Remembers : Yarn → List (List ℕ) → ℕ → Type 0
Remembers y cs k = Stands k (get_or y.bytes k 0) (history yarn y cs) (get_or (after yarn y cs).bytes k 0)

-- one command more in front
before_all : (y : Yarn) (c : List ℕ) (cs : List (List ℕ)) (k : ℕ) → Kept y c k ⊎ Put y c k → Remembers (yarn.next y c) cs k → Remembers y (c ∷ cs) k
before_all y c cs k one (inr (l, byte)) =
    inr (
      record {
        before = exchange yarn y c ∷ l.before;
        last = l.last;
        later = l.later;
        split = ap (λ h. exchange yarn y c ∷ h) l.split;
        write = l.write;
        touches = l.touches;
        untouched = l.untouched;
      },
      byte,
    )
before_all y c cs k (inl kept) (inl later) = inl ((kept.0, later.0), later.1 ∙ kept.1)
before_all y c cs k (inr put) (inl later) =
    inr (
      record {
        before = [];
        last = exchange yarn y c;
        later = history yarn (yarn.next y c) cs;
        split = refl;
        write = put.0;
        touches = put.1;
        untouched = later.0;
      },
      later.1 ∙ put.2,
    )

pub remembers : (y : Yarn) (cs : List (List ℕ)) (k : ℕ) → k < record_size → Remembers y cs k
remembers y [] k within = inl (tt, refl)
remembers y (c ∷ cs) k within =
    before_all y c cs k (step y c k within (request_of c) refl) (remembers (yarn.next y c) cs k within)
