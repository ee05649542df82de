-- Status words in answers.
use Rattle.std.specs.Prelude.{◌≡◌, ℕ, ◌+◌, List, ◌++◌, length, drop, refl}
use Rattle.std.proofs.Common.{arith, ◌∙◌, sym, ap, length-append, drop_at}
use Rattle.applications.specs.Status.{word_of}
use Rattle.applications.specs.declared.status.StatusWord.{StatusWord}
use Rattle.applications.specs.declared.status.StatusWord.TheVariants.{Good, WrongLength, ConditionsNotSatisfied, WrongParameters, InstructionNotSupported, ClassNotSupported}

pub two_bytes : (s : StatusWord) → length (word_of s) ≡ 2
two_bytes Good = refl
two_bytes WrongLength = refl
two_bytes ConditionsNotSatisfied = refl
two_bytes WrongParameters = refl
two_bytes InstructionNotSupported = refl
two_bytes ClassNotSupported = refl

-- the status word of an answer is the same however the answer is cut
pub same_word : (xs ys : List ℕ) (s t : StatusWord) → xs ++ word_of s ≡ ys ++ word_of t → word_of s ≡ word_of t
same_word xs ys s t e =
    let long : length xs + 2 ≡ length ys + 2 =
    ap (λ n. length xs + n) (sym (two_bytes s)) ∙ sym (length-append xs (word_of s)) ∙ ap length e
    ∙ length-append ys (word_of t) ∙ ap (λ n. length ys + n) (two_bytes t) in
    sym (drop_at xs (word_of s) (length ys) (omega arith)) ∙ ap (drop (length ys)) e ∙ drop_at ys (word_of t) (length ys) refl
