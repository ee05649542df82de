-- The metre counter keeps its books.
use Rattle.std.proofs.Common.{◌≡◌, ℕ, ◌+◌, ◌-◌, ◌≤◌, true, false, leb, ◌⊎◌, List, [], ◌∷◌, ◌++◌, get_or, Ok, Err, Result, sym, refl, ap, ◌∙◌, inl, inr, arith}
use Rattle.std.proofs.lemmas.Bool.Decides.{leb_tells}
use Rattle.applications.specs.App.{after}
use Rattle.applications.specs.History.{exchange, history}
use Rattle.applications.specs.Metre.{request_of, metre, done, count_bytes, counting}
use Rattle.applications.specs.MetreLaws.{amount, GoodDraw, Drawn, none, good, other}
use Rattle.applications.specs.Outcome.{after_one_wait}
use Rattle.applications.specs.Status.{word_of}
use Rattle.applications.specs.declared.metre.Metre.{Metre}
use Rattle.applications.specs.declared.metre.request.Request.{Request}
use Rattle.applications.specs.declared.metre.request.Request.TheVariants.{Draw, Ask}
use Rattle.applications.specs.declared.status.StatusWord.{StatusWord}
use Rattle.applications.specs.declared.status.StatusWord.TheVariants.{Good, ConditionsNotSatisfied}
use Rattle.applications.proofs.MetreCommands.{brought_by, draw_request, draw_asked, draw_command_lem}
use Rattle.applications.specs.Words.{same_word}

-- a good draw is what the counter was asked for
good_draw_asked : (m : Metre) (c : List ℕ) (d : GoodDraw (exchange metre m c)) → request_of c ≡ Ok (Draw (amount d.metres))
good_draw_asked m c d = ap request_of d.commanded ∙ draw_request d.metres

-- what one command takes from the count
abbrev pub Took : Metre → List ℕ → Type 0
Took m c = (d : GoodDraw (exchange metre m c)) × ((metre.next m c).count + amount d.metres ≡ m.count)

abbrev pub Left : Metre → List ℕ → Type 0
Left m c = (GoodDraw (exchange metre m c) → ⊥) × (metre.next m c ≡ m)

-- a draw for which there is enough
pub enough : (m : Metre) (c : List ℕ) (n : ℕ) → request_of c ≡ Ok (Draw n) → leb n m.count ≡ true
    → done m (request_of c) ≡ after_one_wait 2 (count_bytes (m.count - n) ++ word_of Good) (counting (m.count - n))
enough m c n asked test = ap (done m) asked ∙ rw test

pub too_much : (m : Metre) (c : List ℕ) (n : ℕ) → request_of c ≡ Ok (Draw n) → leb n m.count ≡ false
    → done m (request_of c) ≡ after_one_wait 2 (count_bytes m.count ++ word_of ConditionsNotSatisfied) m
too_much m c n asked test = ap (done m) asked ∙ rw test

took : (m : Metre) (c : List ℕ) (n : ℕ) → request_of c ≡ Ok (Draw n) → leb n m.count ≡ true → n ≤ m.count → Took m c
took m c n asked test fits =
    let draws = draw_asked c n asked in
    let does = enough m c n asked test in
    let rest : (metre.next m c).count ≡ m.count - n = ap (λ o. o.next.count) does in (
      record {
        metres = brought_by c;
        told = count_bytes (m.count - n);
        commanded = draw_command_lem c n draws;
        answered = ap (λ o. o.answer) does;
      },
      omega (arith, rest, draws.metres),
    )

left : (m : Metre) (c : List ℕ) (n : ℕ) → request_of c ≡ Ok (Draw n) → leb n m.count ≡ false → Left m c
left m c n asked test =
    let does = too_much m c n asked test in (
      (λ d.
          let word : word_of ConditionsNotSatisfied ≡ word_of Good =
          same_word (count_bytes m.count) d.told ConditionsNotSatisfied Good (sym (ap (λ o. o.answer) does) ∙ d.answered) in
          let z : ◌≡◌ {A = ℕ} 0x69 0x90 = ap (λ l. get_or l 0 0) word in
          omega (arith, z)),
      ap (λ o. o.next) does,
    )

pub step : (m : Metre) (c : List ℕ) (r : Result Request StatusWord) → request_of c ≡ r → Left m c ⊎ Took m c
step m c (Ok (Draw n)) asked =
    elim (leb_tells n m.count) [ inl t ↦ inr (took m c n asked t.0 t.1) | inr t ↦ inl (left m c n asked t.0) ]
step m c (Ok Ask) asked =
    inl ((λ d. let e = good_draw_asked m c d in let z : ◌≡◌ {A = ℕ} 0 1 = cc in omega arith), ap (λ r. (done m r).next) asked)
step m c (Err status) asked =
    inl ((λ d. let e = good_draw_asked m c d in let z : ◌≡◌ {A = ℕ} 0 1 = cc in omega arith), ap (λ r. (done m r).next) asked)

-- one command more in front
before_all : (m : Metre) (c : List ℕ) (cs : List (List ℕ)) → Left m c ⊎ Took m c
    → (n : ℕ) × Drawn (history metre (metre.next m c) cs) n × ((after metre (metre.next m c) cs).count + n ≡ (metre.next m c).count)
    → (n : ℕ) × Drawn (history metre m (c ∷ cs)) n × ((after metre m (c ∷ cs)).count + n ≡ m.count)
before_all m c cs (inl kept) (n, drawn, sum) = (n, other _ _ n kept.0 drawn, sum ∙ ap (λ s. s.count) kept.1)
before_all m c cs (inr took) (n, drawn, sum) =
    (amount took.0.metres + n, good _ _ n took.0 drawn, omega (arith, sum, took.1))

pub books : (m : Metre) (cs : List (List ℕ)) → (n : ℕ) × Drawn (history metre m cs) n × ((after metre m cs).count + n ≡ m.count)
books m [] = (0, none, omega arith)
books m (c ∷ cs) = before_all m c cs (step m c (request_of c) refl) (books (metre.next m c) cs)
