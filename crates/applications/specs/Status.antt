-- Status words: the two bytes that end every answer.
use Rattle.std.specs.Prelude.{ℕ, List, [], ◌∷◌}
use Rattle.applications.specs.declared.status.StatusWord.{StatusWord}
use Rattle.applications.specs.declared.status.StatusWord.TheVariants.{Good, WrongLength, ConditionsNotSatisfied, WrongParameters, InstructionNotSupported, ClassNotSupported}

abbrev pub word_of : StatusWord → List ℕ
word_of Good = 0x90 ∷ 0x00 ∷ []
word_of WrongLength = 0x67 ∷ 0x00 ∷ []
word_of ConditionsNotSatisfied = 0x69 ∷ 0x85 ∷ []
word_of WrongParameters = 0x6B ∷ 0x00 ∷ []
word_of InstructionNotSupported = 0x6D ∷ 0x00 ∷ []
word_of ClassNotSupported = 0x6E ∷ 0x00 ∷ []
