-- Draws and asks one by one, and the laws of the metre counter.
use Rattle.std.proofs.Common.{◌≡◌, ℕ, ◌-◌, ◌<◌, ◌≤◌, true, false, leb, ◌⊎◌, List, ◌++◌, Ok, Err, Result, refl, ap, inl, inr, arith}
use Rattle.std.proofs.lemmas.Bool.Decides.{nat_tests}
use Rattle.applications.specs.History.{exchange}
use Rattle.applications.specs.Metre.{request_of, metre, done, count_bytes}
use Rattle.applications.specs.MetreLaws.{MetreLaws, Metres, amount, draw_command, GoodDraw}
use Rattle.applications.specs.Status.{word_of}
use Rattle.applications.specs.declared.metre.Metre.{Metre}
use Rattle.applications.specs.declared.metre.request.Request.{Request}
use Rattle.applications.specs.declared.metre.request.Request.TheVariants.{Draw, Ask}
use Rattle.applications.specs.declared.status.StatusWord.{StatusWord}
use Rattle.applications.specs.declared.status.StatusWord.TheVariants.{Good, ConditionsNotSatisfied}
use Rattle.applications.proofs.MetreBooks.{Left, Took, enough, too_much, step, books}
use Rattle.applications.proofs.MetreCommands.{brought_by, draw_request, draw_asked, draw_command_lem}

only_draws : (m : Metre) (c : List ℕ) → Left m c ⊎ Took m c → (metre.next m c ≡ m) ⊎ GoodDraw (exchange metre m c)
only_draws m c (inl left) = inl left.1
only_draws m c (inr took) = inr took.0

draws_enough : (m : Metre) (n : Metres) → amount n ≤ m.count
    → metre.answer m (draw_command n) ≡ count_bytes (m.count - amount n) ++ word_of Good
draws_enough m n fits =
    let test : leb (amount n) m.count ≡ true = grind (arith, nat_tests) in
    ap (λ o. o.answer) (enough m (draw_command n) (amount n) (draw_request n) test)

draws_too_much : (m : Metre) (n : Metres) → m.count < amount n
    → (metre.answer m (draw_command n) ≡ count_bytes m.count ++ word_of ConditionsNotSatisfied) × (metre.next m (draw_command n) ≡ m)
draws_too_much m n more =
    let test : leb (amount n) m.count ≡ false = grind (arith, nat_tests) in
    let does = too_much m (draw_command n) (amount n) (draw_request n) test in
    (ap (λ o. o.answer) does, ap (λ o. o.next) does)

only_draws_wait : (m : Metre) (c : List ℕ) (r : Result Request StatusWord) → request_of c ≡ r
    → (metre.waits m c ≡ 0) ⊎ ((n : Metres) × (c ≡ draw_command n))
only_draws_wait m c (Ok (Draw n)) asked = inr (brought_by c, draw_command_lem c n (draw_asked c n asked))
only_draws_wait m c (Ok Ask) asked = inl (ap (λ r. (done m r).waits) asked)
only_draws_wait m c (Err status) asked = inl (ap (λ r. (done m r).waits) asked)

pub metre_laws : MetreLaws metre
metre_laws = record {
  books = books;
  only_draws_change = λ m c. only_draws m c (step m c (request_of c) refl);
  asks = λ m. (refl, refl);
  draws_enough = draws_enough;
  draws_too_much = draws_too_much;
  draws_wait = λ m n. (refl, refl);
  only_draws_wait = λ m c. only_draws_wait m c (request_of c) refl;
}
