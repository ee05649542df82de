-- What writing a block into a buffer answers.
use Rattle.std.specs.Prelude.{ℕ, Bool, true, cond, length, Ok, Err, Result, nat_le, nat_lt}
use Rattle.frames.specs.declared.refusal.Refusal.{Refusal}
use Rattle.frames.specs.declared.refusal.Refusal.TheVariants.{Setting, Length, Buffer}
use Rattle.frames.specs.Blocks.{Cid, without, numbered, Block, i_block, r_block, deselect, wait, bytes_of, frame_of}
use Rattle.frames.specs.Check.{both}
use Rattle.frames.specs.Sizes.{greatest_frame, longest_body}

-- card numbers are 0 to 14, power levels 0 to 3
abbrev pub cid_in_range : Cid → Bool
cid_in_range without = true
cid_in_range (numbered n p) = both (nat_lt n 15) (nat_lt p 4)

-- the block's numbers are in their ranges; multipliers are 1 to 59
abbrev pub in_range : Block → Bool
in_range (i_block c n a info) = cid_in_range a
in_range (r_block k n a) = cid_in_range a
in_range (deselect a) = cid_in_range a
in_range (wait m p a) = both (cid_in_range a) (both (nat_lt 0 m) (both (nat_lt m 60) (nat_lt p 4)))

-- an I-block has information
abbrev pub informed : Block → Bool
informed (i_block c n a info) = nat_lt 0 (length info)
informed (r_block k n a) = true
informed (deselect a) = true
informed (wait m p a) = true

-- the block's frame is no longer than the greatest
abbrev pub sendable : Block → Bool
sendable b = both (informed b) (nat_le (length (bytes_of b)) longest_body)

-- the length of the frame; a refusal if a number is out of its range, then if the buffer is under 256 bytes, then if the information is too little or too much
abbrev pub writing : Block → ℕ → Result ℕ Refusal
writing b buffer =
    cond (in_range b)
    (cond (nat_lt buffer greatest_frame) (Err Buffer) (cond (sendable b) (Ok (length (frame_of b))) (Err Length))) (Err Setting)
