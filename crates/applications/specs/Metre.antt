-- The metre counter: a count that draws take from. Class 80.
use Rattle.std.specs.Prelude.{ℕ, ◌+◌, ◌-◌, ◌*◌, ◌/◌, ◌%◌, Bool, cond, not, ◌&&◌, ◌||◌, List, [], ◌∷◌, ◌++◌, length, Ok, Err, Result, ◌==◌, nat_le, slice_index}
use Rattle.applications.specs.App.{App}
use Rattle.applications.specs.Command.{instruction, p1, p2, length_byte, judged, head_faults}
use Rattle.applications.specs.Outcome.{Outcome, at_once, after_one_wait, doing}
use Rattle.applications.specs.Status.{word_of}
use Rattle.applications.specs.declared.metre.Metre.{Metre}
use Rattle.applications.specs.declared.metre.request.Instruction.{Instruction}
use Rattle.applications.specs.declared.metre.request.Instruction.TheVariants.{DrawMetres, AskCount}
use Rattle.applications.specs.declared.metre.request.Request.{Request}
use Rattle.applications.specs.declared.metre.request.Request.TheVariants.{Draw, Ask}
use Rattle.applications.specs.declared.status.StatusWord.{StatusWord}
use Rattle.applications.specs.declared.status.StatusWord.TheVariants.{Good, WrongLength, ConditionsNotSatisfied, WrongParameters, InstructionNotSupported}

-- the instruction bytes
abbrev pub byte_of : Instruction → ℕ
byte_of DrawMetres = 0x10
byte_of AskCount = 0x12

-- a byte read as an instruction
abbrev pub instruction_of : ℕ → Result Instruction StatusWord
instruction_of b =
    cond (b == byte_of DrawMetres) (Ok DrawMetres) (cond (b == byte_of AskCount) (Ok AskCount) (Err InstructionNotSupported))

abbrev pub draws : List ℕ → Bool
draws c = instruction c == byte_of DrawMetres

abbrev pub asks : List ℕ → Bool
asks c = instruction c == byte_of AskCount

-- a draw brings four bytes behind its five, an ask wants four
abbrev pub length_fits : List ℕ → Bool
length_fits c = length_byte c == 4 && length c == cond (draws c) 9 5

-- the faults of a command, in the order of judgement
abbrev pub faults : List ℕ → List (Bool × StatusWord)
faults c =
    head_faults 0x80 c
    ++ (not (draws c || asks c), InstructionNotSupported)
    ∷ (not (p1 c == 0x00 && p2 c == 0x00), WrongParameters)
    ∷ (not (length_fits c), WrongLength)
    ∷ []

-- four bytes as a number, high first
abbrev pub number_of : (a b c d : ℕ) → ℕ
number_of a b c d = a * 16777216 + b * 65536 + c * 256 + d

-- the metres of a draw stand behind its five bytes
abbrev pub metres_of : List ℕ → ℕ
metres_of c = number_of (slice_index c 5) (slice_index c 6) (slice_index c 7) (slice_index c 8)

-- a request, or the status word of the first fault
abbrev pub request_of : List ℕ → Result Request StatusWord
request_of c = judged (faults c) (cond (draws c) (Draw (metres_of c)) Ask)

-- a count as four bytes, high first
abbrev pub count_bytes : ℕ → List ℕ
count_bytes n = n / 16777216 % 256 ∷ n / 65536 % 256 ∷ n / 256 % 256 ∷ n % 256 ∷ []

-- a counter with this count
abbrev pub counting : ℕ → Metre
counting n = record { count = n }

-- a draw takes its metres from the count; if it is too much the count stays, and the status word is 6985
abbrev pub remaining : ℕ → ℕ → ℕ
remaining count n = cond (nat_le n count) (count - n) count

abbrev pub draw_status : ℕ → ℕ → StatusWord
draw_status count n = cond (nat_le n count) Good ConditionsNotSatisfied

-- a draw, too much or not, is answered with the count that remains after one wait with multiplier 2; there is no other
-- wait
abbrev pub done : Metre → Result Request StatusWord → Outcome Metre
done m (Ok (Draw n)) =
    let left : ℕ = remaining m.count n in
    after_one_wait 2 (count_bytes left ++ word_of (draw_status m.count n)) (counting left)
done m (Ok Ask) = at_once (count_bytes m.count ++ word_of Good) m
done m (Err status) = at_once (word_of status) m

abbrev pub metre : App Metre
metre = doing (λ m c. done m (request_of c))
