-- Reads and writes within the record, and what changes it.
use Rattle.std.proofs.Common.{◌≡◌, ℕ, ◌+◌, ◌<◌, ◌≤◌, Bool, true, false, ltb, ◌⊎◌, List, [], ◌∷◌, ◌++◌, length, get_or, take, drop, Ok, Err, Result, sym, refl, ap, ◌∙◌, subst, inl, inr, arith, length-append, get_or-drop, get_or-take}
use mathlib.Core.List.{append_cancel_right}
use Rattle.std.proofs.lemmas.Bool.Decides.{nat_tests}
use Rattle.applications.specs.App.{after}
use Rattle.applications.specs.History.{exchange, history}
use Rattle.applications.specs.Status.{word_of}
use Rattle.applications.specs.Yarn.{Wanted, read_bytes, write_bytes, request_of, record_size, read_length, yarn, done, offset_of}
use Rattle.applications.specs.YarnLaws.{YarnLaws, GoodWrite, Stands, read_command, write_command}
use Rattle.applications.specs.declared.status.StatusWord.{StatusWord}
use Rattle.applications.specs.declared.status.StatusWord.TheVariants.{Good, WrongParameters}
use Rattle.applications.specs.declared.yarn.Yarn.{Yarn}
use Rattle.applications.proofs.YarnCommands.{read_request, write_request_lem}
use Rattle.applications.proofs.YarnMemory.{write_asked_good, remembers}

-- a refusal is no good answer
no_good_refusal : (bytes : List ℕ) → word_of WrongParameters ≡ bytes ++ word_of Good → ⊥
no_good_refusal [] e = let z : ◌≡◌ {A = ℕ} 0x6B 0x90 = ap (λ l. get_or l 0 0) e in omega (arith, z)
no_good_refusal (b ∷ bytes) e = omega (arith, ap length e ∙ length-append (b ∷ bytes) (word_of Good))

only_writes : (y : Yarn) (c : List ℕ) (r : Result Wanted StatusWord) → request_of c ≡ r → (yarn.next y c ≡ y) ⊎ GoodWrite (exchange yarn y c)
only_writes y c (Ok (read_bytes offset len)) asked = inl (ap (λ r. (done y r).next) asked)
only_writes y c (Ok (write_bytes offset bytes)) asked = inr (write_asked_good y c offset bytes asked)
only_writes y c (Err status) asked = inl (ap (λ r. (done y r).next) asked)

no_waits : (y : Yarn) (r : Result Wanted StatusWord) → (done y r).waits ≡ 0
no_waits y (Ok (read_bytes offset len)) = refl
no_waits y (Ok (write_bytes offset bytes)) = refl
no_waits y (Err status) = refl

read_within : (y : Yarn) (p1 p2 le : ℕ) → offset_of p1 p2 + read_length le ≤ record_size
    → yarn.answer y (read_command p1 p2 le) ≡ take (read_length le) (drop (offset_of p1 p2) y.bytes) ++ word_of Good
read_within y p1 p2 le within =
    let asked : request_of (read_command p1 p2 le) ≡ Ok (read_bytes (offset_of p1 p2) (read_length le)) =
    read_request p1 p2 le ∙ grind (arith, nat_tests) in
    ap (λ r. (done y r).answer) asked

reads_exactly : (y : Yarn) (p1 p2 le : ℕ) (bytes : List ℕ) (past : Bool)
    → ltb record_size (offset_of p1 p2 + read_length le) ≡ past
    → yarn.answer y (read_command p1 p2 le) ≡ bytes ++ word_of Good
    → (offset_of p1 p2 + read_length le ≤ record_size) × (bytes ≡ take (read_length le) (drop (offset_of p1 p2) y.bytes))
reads_exactly y p1 p2 le bytes true past good =
    let asked : request_of (read_command p1 p2 le) ≡ Err WrongParameters = read_request p1 p2 le ∙ grind (arith, nat_tests) in
    absurd (no_good_refusal bytes (sym (ap (λ r. (done y r).answer) asked) ∙ good))
reads_exactly y p1 p2 le bytes false past good =
    let within : offset_of p1 p2 + read_length le ≤ record_size = grind (arith, nat_tests) in
    (within, sym (append_cancel_right _ _ (word_of Good) (sym (read_within y p1 p2 le within) ∙ good)))

reads_back : (y : Yarn) (cs : List (List ℕ)) (p1 p2 le : ℕ) (bytes : List ℕ)
    → yarn.answer (after yarn y cs) (read_command p1 p2 le) ≡ bytes ++ word_of Good
    → (j : ℕ) → j < read_length le
    → Stands (offset_of p1 p2 + j) (get_or y.bytes (offset_of p1 p2 + j) 0) (history yarn y cs) (get_or bytes j 0)
reads_back y cs p1 p2 le bytes good j inside =
    let exact = reads_exactly (after yarn y cs) p1 p2 le bytes _ refl good in
    let k = offset_of p1 p2 + j in
    let same : get_or (after yarn y cs).bytes k 0 ≡ get_or bytes j 0 =
    sym (ap (λ l. get_or l j 0) exact.1
    ∙ get_or-take (read_length le) (drop (offset_of p1 p2) (after yarn y cs).bytes) j 0 inside
    ∙ get_or-drop (offset_of p1 p2) (after yarn y cs).bytes j 0) in
    subst (Stands k (get_or y.bytes k 0) (history yarn y cs)) same (remembers y cs k (omega (arith, exact.0)))

write_within : (y : Yarn) (p1 p2 : ℕ) (bytes : List ℕ) → 0 < length bytes → offset_of p1 p2 + length bytes ≤ record_size
    → yarn.answer y (write_command p1 p2 bytes) ≡ word_of Good
write_within y p1 p2 bytes some within =
    let asked : request_of (write_command p1 p2 bytes) ≡ Ok (write_bytes (offset_of p1 p2) bytes) =
    write_request_lem p1 p2 bytes ∙ grind (arith, nat_tests) in
    ap (λ r. (done y r).answer) asked

pub yarn_laws : YarnLaws yarn
yarn_laws = record {
  remembers = remembers;
  only_writes_change = λ y c. only_writes y c (request_of c) refl;
  reads_exactly = λ y p1 p2 le bytes. reads_exactly y p1 p2 le bytes _ refl;
  reads_back = reads_back;
  reads-within = λ y p1 p2 le within. (take (read_length le) (drop (offset_of p1 p2) y.bytes), read_within y p1 p2 le within);
  writes-within = write_within;
  no_waits = λ y c. no_waits y (request_of c);
}
