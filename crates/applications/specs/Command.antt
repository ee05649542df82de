-- Commands, and how they are judged.
use Rattle.std.specs.Prelude.{ℕ, Bool, cond, not, List, [], ◌∷◌, length, drop, Ok, Err, Result, ◌==◌, nat_lt, slice_index}
use Rattle.applications.specs.declared.command.Command.{Command}
use Rattle.applications.specs.declared.status.StatusWord.{StatusWord}
use Rattle.applications.specs.declared.status.StatusWord.TheVariants.{WrongLength, ClassNotSupported}

-- a command begins with its class, its instruction and two parameter bytes; the fifth byte, if any, is a length
abbrev pub class : List ℕ → ℕ
class c = slice_index c 0

abbrev pub instruction : List ℕ → ℕ
instruction c = slice_index c 1

abbrev pub p1 : List ℕ → ℕ
p1 c = slice_index c 2

abbrev pub p2 : List ℕ → ℕ
p2 c = slice_index c 3

abbrev pub length_byte : List ℕ → ℕ
length_byte c = slice_index c 4

-- a command is judged by a list of faults in their order: the first fault that it has decides its status word, and
-- without a fault it is the request
abbrev pub judged : {R : Type 0} → List (Bool × StatusWord) → R → Result R StatusWord
judged [] request = Ok request
judged (fault ∷ faults) request = cond fault.0 (Err fault.1) (judged faults request)

-- every command is judged first by these two: it has four bytes, and it is of the application's class
abbrev pub head_faults : ℕ → List ℕ → List (Bool × StatusWord)
head_faults its_class c = (nat_lt (length c) 4, WrongLength) ∷ (not (class c == its_class), ClassNotSupported) ∷ []

-- the parts behind the class: instruction, two parameter bytes, and the rest
pub data Parts : Type 0 where
  parts : (ins p1 p2 : ℕ) (body : List ℕ) → Parts

abbrev pub parts_of : List ℕ → Parts
parts_of c = parts (instruction c) (p1 c) (p2 c) (drop 4 c)

-- a command that the code took apart
abbrev pub as_parts : Result Command StatusWord → Result Parts StatusWord
as_parts (Ok c) = Ok (parts c.instruction c.p1 c.p2 c.body.now)
as_parts (Err status) = Err status
