-- What the yarn record is asked for by a command that reads or writes.
use Rattle.std.proofs.Common.{◌≡◌, ℕ, ◌+◌, ◌≤◌, cond, ltb, List, length, drop, Ok, Err, refl, ap, arith, length-drop}
use Rattle.std.proofs.lemmas.Bool.Decides.{nat_tests}
use Rattle.applications.specs.Command.{class, instruction, p1, p2, length_byte}
use Rattle.applications.specs.Yarn.{read_bytes, write_bytes, request_of, record_size, read_length, offset_of}
use Rattle.applications.specs.YarnLaws.{read_command, write_command}
use Rattle.applications.proofs.Heads.{named}
use Rattle.applications.specs.declared.status.StatusWord.TheVariants.{WrongLength, WrongParameters}

pub write_request_lem : (p1 p2 : ℕ) (bytes : List ℕ)
    → request_of (write_command p1 p2 bytes)
    ≡ cond (ltb 0 (length bytes))
    (cond (ltb record_size (offset_of p1 p2 + length bytes)) (Err WrongParameters) (Ok (write_bytes (offset_of p1 p2) bytes)))
    (Err WrongLength)
write_request_lem p1 p2 bytes = grind (arith, nat_tests)

pub read_request : (p1 p2 le : ℕ)
    → request_of (read_command p1 p2 le)
    ≡ cond (ltb record_size (offset_of p1 p2 + read_length le)) (Err WrongParameters) (Ok (read_bytes (offset_of p1 p2) (read_length le)))
read_request p1 p2 le = refl

-- the other way round: what is asked to write is a command that writes
pub record Writes (c : List ℕ) (offset : ℕ) (bytes : List ℕ) : Type 0 where
  pub long : 5 ≤ length c
  pub of_class_lem : class c ≡ 0x00
  pub updates : instruction c ≡ 0xD6
  pub counted : length_byte c ≡ length (drop 5 c)
  pub at : offset ≡ offset_of (p1 c) (p2 c)
  pub brought : bytes ≡ drop 5 c
  pub inside : offset + length bytes ≤ record_size

pub write_asked : (c : List ℕ) (offset : ℕ) (bytes : List ℕ) → request_of c ≡ Ok (write_bytes offset bytes) → Writes c offset bytes
write_asked c offset bytes asked = record {
  long = grind (arith, nat_tests);
  of_class_lem = grind (arith, nat_tests);
  updates = grind (arith, nat_tests);
  counted = simp length-drop (grind (arith, nat_tests));
  at = grind (arith, nat_tests);
  brought = grind (arith, nat_tests);
  inside = grind (arith, nat_tests);
}

pub write_command_lem : (c : List ℕ) (offset : ℕ) (bytes : List ℕ) → Writes c offset bytes → c ≡ write_command (p1 c) (p2 c) bytes
write_command_lem c offset bytes w = let e = named 5 0 c w.long in let f = ap length w.brought in cc
