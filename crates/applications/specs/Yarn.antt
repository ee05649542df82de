-- The yarn record: 128 bytes that are read and written. Class 00.
use Rattle.std.specs.Prelude.{ℕ, ◌+◌, ◌*◌, Bool, cond, not, ◌&&◌, ◌||◌, List, [], ◌∷◌, ◌++◌, length, take, drop, Ok, Err, Result, ◌==◌, nat_lt}
use Rattle.std.proofs.Common.{◌∙◌}
use Rattle.std.proofs.lemmas.List.Edits.{sets}
use Rattle.std.proofs.Math.Seq.{length-sets}
use Rattle.applications.specs.App.{App}
use Rattle.applications.specs.Command.{instruction, p1, p2, length_byte, judged, head_faults}
use Rattle.applications.specs.Outcome.{Outcome, at_once, doing}
use Rattle.applications.specs.Status.{word_of}
use Rattle.applications.specs.declared.status.StatusWord.{StatusWord}
use Rattle.applications.specs.declared.status.StatusWord.TheVariants.{Good, WrongLength, WrongParameters, InstructionNotSupported}
use Rattle.applications.specs.declared.yarn.Yarn.{Yarn}
use Rattle.applications.specs.declared.yarn.request.Instruction.{Instruction}
use Rattle.applications.specs.declared.yarn.request.Instruction.TheVariants.{ReadBinary, UpdateBinary}
use Rattle.applications.specs.declared.yarn.request.Request.{Request}
use Rattle.applications.specs.declared.yarn.request.Request.TheVariants.{Read, Write}

-- how many bytes the record has
abbrev pub record_size : ℕ
record_size = 128

-- the instruction bytes
abbrev pub byte_of : Instruction → ℕ
byte_of ReadBinary = 0xB0
byte_of UpdateBinary = 0xD6

-- a byte read as an instruction
abbrev pub instruction_of : ℕ → Result Instruction StatusWord
instruction_of b =
    cond (b == byte_of ReadBinary) (Ok ReadBinary)
    (cond (b == byte_of UpdateBinary) (Ok UpdateBinary) (Err InstructionNotSupported))

abbrev pub reads : List ℕ → Bool
reads c = instruction c == byte_of ReadBinary

abbrev pub writes : List ℕ → Bool
writes c = instruction c == byte_of UpdateBinary

-- a command without fault reads so many bytes from an offset on, or writes bytes there
pub data Wanted : Type 0 where
  read_bytes : (offset len : ℕ) → Wanted
  write_bytes : (offset : ℕ) (bytes : List ℕ) → Wanted

-- how many bytes a read wants: length byte 00 means 256
abbrev pub read_length : ℕ → ℕ
read_length le = cond (le == 0) 256 le

-- the offset stands in the two parameter bytes, high byte first
abbrev pub offset_of : ℕ → ℕ → ℕ
offset_of p1 p2 = p1 * 256 + p2

-- what is written stands behind the length byte
abbrev pub wanted_by : List ℕ → Wanted
wanted_by c =
    let offset : ℕ = offset_of (p1 c) (p2 c) in
    cond (reads c) (read_bytes offset (read_length (length_byte c))) (write_bytes offset (drop 5 c))

-- the place behind the last byte that is read or written
abbrev pub end_of : Wanted → ℕ
end_of (read_bytes offset len) = offset + len
end_of (write_bytes offset bytes) = offset + length bytes

-- a read is five bytes long; a write brings as many bytes behind its five as its length byte says, which is not 00
abbrev pub length_fits : List ℕ → Bool
length_fits c = cond (reads c) (length c == 5) (nat_lt 0 (length_byte c) && length c == 5 + length_byte c)

-- past the end of the record
abbrev pub past_end : Wanted → Bool × StatusWord
past_end w = (nat_lt record_size (end_of w), WrongParameters)

-- the faults of a command, in the order of judgement
abbrev pub faults : List ℕ → List (Bool × StatusWord)
faults c =
    head_faults 0x00 c
    ++ (not (reads c || writes c), InstructionNotSupported)
    ∷ (not (length_fits c), WrongLength)
    ∷ past_end (wanted_by c)
    ∷ []

-- a request, or the status word of the first fault
abbrev pub request_of : List ℕ → Result Wanted StatusWord
request_of c = judged (faults c) (wanted_by c)

-- what a request that the code read wants
abbrev pub wanted : Request → Wanted
wanted (Read offset len) = read_bytes offset len
wanted (Write offset bytes) = write_bytes offset bytes.now

abbrev pub as_wanted : Result Request StatusWord → Result Wanted StatusWord
as_wanted (Ok request) = Ok (wanted request)
as_wanted (Err status) = Err status

-- the record with bytes put into it, one behind the other from an offset on
unfoldable pub written : Yarn → ℕ → List ℕ → Yarn
written y offset bytes = record {
  bytes = sets y.bytes offset bytes;
  full = length-sets y.bytes offset bytes ∙ y.full;
}

-- a read is answered with the record's bytes; nothing but a write changes the record, and there are no waits
abbrev pub done : Yarn → Result Wanted StatusWord → Outcome Yarn
done y (Ok (read_bytes offset len)) = at_once (take len (drop offset y.bytes) ++ word_of Good) y
done y (Ok (write_bytes offset bytes)) = at_once (word_of Good) (written y offset bytes)
done y (Err status) = at_once (word_of status) y

abbrev pub yarn : App Yarn
yarn = doing (λ y c. done y (request_of c))
