-- When a block is written.
use Rattle.std.proofs.Common.{◌≡◌, ℕ, ◌≤◌, Bool, true, false, cond, ltb, leb, List, length, take, Ok, Err, Result, sym, refl, ap, ◌∙◌, ap₂, arith}
use Rattle.std.proofs.lemmas.Bool.{lt-ltb, ltb-true, ltb-false, le-ltb, le-leb, leb-true}
use Rattle.buffers.specs.Over.{over}
use Rattle.buffers.proofs.Overs.{take-over}
use Rattle.frames.specs.declared.refusal.Refusal.{Refusal}
use Rattle.frames.specs.declared.refusal.Refusal.TheVariants.{Setting, Length, Buffer}
use Rattle.frames.specs.Blocks.{Cid, without, numbered, Block, i_block, r_block, deselect, wait, ValidCid, ValidBlock, bytes_of, frame_of}
use Rattle.frames.specs.Check.{both, seal}
use Rattle.frames.specs.Exactly.{WrittenExactly}
use Rattle.frames.specs.Sealing.{sealable, sealing}
use Rattle.frames.specs.Sizes.{greatest_frame, longest_body}
use Rattle.frames.specs.Writing.{cid_in_range, in_range, informed, sendable, writing}
use Rattle.frames.proofs.Boths.{both_true}
use Rattle.frames.proofs.Sealed.{two_more}

-- a block in range that can be sent is written
pub writing_goes : (b : Block) (buffer : ℕ) → in_range b ≡ true → greatest_frame ≤ buffer → sendable b ≡ true → writing b buffer ≡ Ok (length (frame_of b))
writing_goes b buffer good room fits = rw (good, le-ltb buffer greatest_frame room, fits)

cid_in_lem : (a : Cid) → ValidCid a → cid_in_range a ≡ true
cid_in_lem without h = refl
cid_in_lem (numbered n p) h = ap₂ both (lt-ltb n 15 h.0) (lt-ltb p 4 h.1)

cid_valid : (a : Cid) → cid_in_range a ≡ true → ValidCid a
cid_valid without h = tt
cid_valid (numbered n p) h = let b = both_true (ltb n 15) (ltb p 4) h in (ltb-true n 15 b.0, ltb-true p 4 b.1)

in_range_lem : (b : Block) → ValidBlock b → in_range b ≡ true
in_range_lem (i_block c n a info) h = cid_in_lem a h.0
in_range_lem (r_block k n a) h = cid_in_lem a h
in_range_lem (deselect a) h = cid_in_lem a h
in_range_lem (wait m p a) h =
    ap₂ both (cid_in_lem a h.0) (ap₂ both (lt-ltb 0 m h.1) (ap₂ both (lt-ltb m 60 h.2) (lt-ltb p 4 h.3)))

has_information : (b : Block) → ValidBlock b → informed b ≡ true
has_information (i_block c n a info) h = lt-ltb 0 (length info) h.1
has_information (r_block k n a) h = refl
has_information (deselect a) h = refl
has_information (wait m p a) h = refl

is_valid : (b : Block) → in_range b ≡ true → informed b ≡ true → ValidBlock b
is_valid (i_block c n a info) h i = (cid_valid a h, ltb-true 0 (length info) i)
is_valid (r_block k n a) h i = cid_valid a h
is_valid (deselect a) h i = cid_valid a h
is_valid (wait m p a) h i =
    let x = both_true (cid_in_range a) (both (ltb 0 m) (both (ltb m 60) (ltb p 4))) h in
    let y = both_true (ltb 0 m) (both (ltb m 60) (ltb p 4)) x.1 in
    let z = both_true (ltb m 60) (ltb p 4) y.1 in
    (cid_valid a x.0, ltb-true 0 m y.0, ltb-true m 60 z.0, ltb-true p 4 z.1)

never : (why : Refusal) (n : ℕ) → ◌≡◌ {A = Result ℕ Refusal} (Err why) (Ok n) → ⊥
never why n e = let z : ◌≡◌ {A = ℕ} 0 1 = cc in omega arith

passed : (range small fits : Bool) (n : ℕ) → ◌≡◌ {A = Result ℕ Refusal} (cond range (cond small (Err Buffer) (cond fits (Ok n) (Err Length))) (Err Setting)) (Ok n) → (range ≡ true) × (small ≡ false) × (fits ≡ true)
passed true true fits n e = absurd (never Buffer n e)
passed true false true n e = (refl, refl, refl)
passed true false false n e = absurd (never Length n e)
passed false small fits n e = absurd (never Setting n e)

pub written_exactly : WrittenExactly
written_exactly b buffer = (
  λ e.
      let p = passed (in_range b) (ltb buffer greatest_frame) (sendable b) (length (frame_of b)) e in
      let s = both_true (informed b) (leb (length (bytes_of b)) longest_body) p.2 in
      let fits : length (frame_of b) ≤ greatest_frame = omega (arith, two_more (bytes_of b), leb-true (length (bytes_of b)) longest_body s.1) in
      (is_valid b p.0 s.0, fits, ltb-false buffer greatest_frame p.1),
  λ h.
      let fits : length (bytes_of b) ≤ longest_body = omega (arith, two_more (bytes_of b), h.1) in
      writing_goes b buffer (in_range_lem b h.0) h.2 (ap₂ both (has_information b h.0) (le-leb (length (bytes_of b)) longest_body fits)),
)

-- what is answered for a frame that was written
pub record Answered (n : ℕ) (frame : List ℕ) (buffer : ℕ) : Type 0 where
  pub long : n ≡ length frame
  pub small : n ≤ greatest_frame
  pub room : greatest_frame ≤ buffer

is_length : (range small fits : Bool) (m n : ℕ) → ◌≡◌ {A = Result ℕ Refusal} (cond range (cond small (Err Buffer) (cond fits (Ok m) (Err Length))) (Err Setting)) (Ok n) → n ≡ m
is_length true true fits m n e = absurd (never Buffer n e)
is_length true false true m n e = cc
is_length true false false m n e = absurd (never Length n e)
is_length false small fits m n e = absurd (never Setting n e)

pub written_answers : (b : Block) (buffer n : ℕ) → Ok n ≡ writing b buffer → Answered n (frame_of b) buffer
written_answers b buffer n e =
    let long = is_length (in_range b) (ltb buffer greatest_frame) (sendable b) (length (frame_of b)) n (sym e) in
    let w = (written_exactly b buffer).0 (sym e ∙ ap (λ k. Ok k) long) in
    record { long = long; small = omega (arith, w.1, long); room = w.2 }

pub sealed_answers : (body : List ℕ) (buffer n : ℕ) → Ok n ≡ sealing body buffer → Answered n (seal body) buffer
sealed_answers body buffer n e =
    let long = is_length true (ltb buffer greatest_frame) (sealable body) (length (seal body)) n (sym e) in
    let p = passed true (ltb buffer greatest_frame) (sealable body) (length (seal body)) (sym e ∙ ap (λ k. Ok k) long) in
    let s = both_true (ltb 0 (length body)) (leb (length body) longest_body) p.2 in
    record {
      long = long;
      small = omega (arith, long, two_more body, leb-true (length body) longest_body s.1);
      room = ltb-false buffer greatest_frame p.1;
    }

-- the frame stands at the front of the buffer
pub front_of_written : (n : ℕ) (frame old new : List ℕ) → n ≡ length frame → new ≡ over frame old → take n new ≡ frame
front_of_written n frame old new long e = ap (λ l. take n l) e ∙ take-over frame old n long
