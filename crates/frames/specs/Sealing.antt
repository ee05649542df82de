-- What sealing a body into a buffer answers, and what the buffer then holds.
use Rattle.std.specs.Prelude.{ℕ, Bool, cond, List, length, Ok, Err, Result, nat_le, nat_lt}
use Rattle.buffers.specs.Over.{over}
use Rattle.frames.specs.declared.refusal.Refusal.{Refusal}
use Rattle.frames.specs.declared.refusal.Refusal.TheVariants.{Length, Buffer}
use Rattle.frames.specs.Sizes.{greatest_frame, longest_body}
use Rattle.frames.specs.Check.{seal, both}

-- a body that can be sealed has 1 to 254 bytes
abbrev pub sealable : List ℕ → Bool
sealable body = both (nat_lt 0 (length body)) (nat_le (length body) longest_body)

-- the length of the frame; a refusal if the buffer is under 256 bytes, and then if the body's length is out of its range
abbrev pub sealing : List ℕ → ℕ → Result ℕ Refusal
sealing body buffer =
    cond (nat_lt buffer greatest_frame) (Err Buffer) (cond (sealable body) (Ok (length (seal body))) (Err Length))

-- the frame stands at the front of the buffer; a refusal leaves every byte as it was
abbrev pub written : Result ℕ Refusal → List ℕ → List ℕ → List ℕ
written (Ok n) frame old = over frame old
written (Err why) frame old = old
