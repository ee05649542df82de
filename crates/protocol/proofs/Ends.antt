-- Both ends of a run in short: what their settings give, and that each can take the blocks of the other.
use Rattle.std.proofs.Common.{◌≡◌, ℕ, zero, suc, ◌+◌, ◌*◌, ◌<◌, ◌≤◌, Bool, true, false, cond, eqb, List, [], ◌∷◌, length, refl, arith, lit<, lit≤}
use Rattle.std.proofs.lemmas.List.{length-append}
use Rattle.frames.specs.Blocks.{Block, i_block, r_block, deselect, wait, Cid, without, numbered, ValidCid, bytes_of, frame_of, cid_bytes}
use Rattle.frames.specs.Laws.{Takes}
use Rattle.frames.specs.Reading.{Agreed, number, zero_or_none, agrees}
use Rattle.frames.specs.Sizes.{size_of, greatest_code, greatest_frame}
use Rattle.protocol.specs.Card.{card_agreed, answer_cid}
use Rattle.protocol.specs.Reader.{agreed_of}
use Rattle.protocol.specs.Settings.{CardSettings, room_of}
use Rattle.protocol.proofs.Basics.{eqb_self}
use Rattle.protocol.proofs.Rests.{Laws}

-- every frame size is at least 16
pub size_least : (code : ℕ) → code ≤ greatest_code → 16 ≤ size_of code
size_least zero h = lit≤ tt
size_least (suc zero) h = lit≤ tt
size_least (suc (suc zero)) h = lit≤ tt
size_least (suc (suc (suc zero))) h = lit≤ tt
size_least (suc (suc (suc (suc zero)))) h = lit≤ tt
size_least (suc (suc (suc (suc (suc zero))))) h = lit≤ tt
size_least (suc (suc (suc (suc (suc (suc zero)))))) h = lit≤ tt
size_least (suc (suc (suc (suc (suc (suc (suc zero))))))) h = lit≤ tt
size_least (suc (suc (suc (suc (suc (suc (suc (suc zero)))))))) h = lit≤ tt
size_least (suc (suc (suc (suc (suc (suc (suc (suc (suc n))))))))) h = omega arith

-- every code stands for a size of no more than the greatest frame, or for none
pub size_most : (code : ℕ) → size_of code ≤ greatest_frame
size_most zero = lit≤ tt
size_most (suc zero) = lit≤ tt
size_most (suc (suc zero)) = lit≤ tt
size_most (suc (suc (suc zero))) = lit≤ tt
size_most (suc (suc (suc (suc zero)))) = lit≤ tt
size_most (suc (suc (suc (suc (suc zero))))) = lit≤ tt
size_most (suc (suc (suc (suc (suc (suc zero)))))) = lit≤ tt
size_most (suc (suc (suc (suc (suc (suc (suc zero))))))) = lit≤ tt
size_most (suc (suc (suc (suc (suc (suc (suc (suc zero)))))))) = lit≤ tt
size_most (suc (suc (suc (suc (suc (suc (suc (suc (suc n))))))))) = lit≤ tt

-- what is needed of a card number in the blocks of a session, at both ends
pub record Fits (cs : CardSettings) (n : ℕ) (k : Cid) : Type 0 where
  pub good : ValidCid k
  pub reader_agrees : agrees (agreed_of k) k ≡ true
  pub card_agrees : agrees (card_agreed cs n) k ≡ true
  pub answered : answer_cid k ≡ k
  pub room : (size : ℕ) → 16 ≤ size → 1 + length (cid_bytes k) + room_of size k + 2 ≤ size
  pub room_pos : (size : ℕ) → 16 ≤ size → 0 < room_of size k
  pub short : length (cid_bytes k) ≤ 1

-- the card number that a session's blocks have
abbrev pub cid_for : Bool → ℕ → Cid
cid_for supports n = cond supports (numbered n 0) without

agrees_own : (n : ℕ) (b : Bool) → eqb n 0 ≡ b → agrees (cond b zero_or_none (number n)) (numbered n 0) ≡ true
agrees_own n true e = e
agrees_own n false e = eqb_self n

fits_at : (cs : CardSettings) (n : ℕ) → n < 15 → (b : Bool) → cs.supports ≡ b → Fits cs n (cid_for b n)
fits_at cs n h true e =
    record {
      good = (h, lit< tt);
      reader_agrees = eqb_self n;
      card_agrees = rw e (agrees_own n (eqb n 0) refl);
      answered = refl;
      room = λ size p. omega arith;
      room_pos = λ size p. omega arith;
      short = lit≤ tt;
    }
fits_at cs n h false e =
    record {
      good = tt;
      reader_agrees = refl;
      card_agrees = rw e refl;
      answered = refl;
      room = λ size p. omega arith;
      room_pos = λ size p. omega arith;
      short = lit≤ tt;
    }

pub fits : (cs : CardSettings) (n : ℕ) → n < 15 → Fits cs n (cid_for cs.supports n)
fits cs n h = fits_at cs n h cs.supports refl

module _ (laws : Laws) where
  -- a frame's length, by its information
  pub frame_length : (b : Block) → length (frame_of b) ≡ length (bytes_of b) + 2
  frame_length b = laws.two_more (bytes_of b)

  module _ (cs : CardSettings) (n : ℕ) (k : Cid) (f : Fits cs n k) (size : ℕ) (big : 16 ≤ size) where
    -- R, wait and deselect fit every frame
    pub takes_r : (agreed : Agreed) → agrees agreed k ≡ true → (nak m : Bool) → Takes size agreed (r_block nak m k)
    takes_r agreed ok nak m =
        (f.good, (let e = frame_length (r_block nak m k) in let s = f.short in omega arith), ok)

    pub takes_deselect : (agreed : Agreed) → agrees agreed k ≡ true → Takes size agreed (deselect k)
    takes_deselect agreed ok =
        (f.good, (let e = frame_length (deselect k) in let s = f.short in omega arith), ok)

    pub takes_wait : (agreed : Agreed) → agrees agreed k ≡ true → (m : ℕ) → 1 ≤ m → m ≤ 59 → Takes size agreed (wait m 0 k)
    takes_wait agreed ok m lo hi = (
      (f.good, lo, omega arith, lit< tt),
      (let e = frame_length (wait m 0 k) in
          let a = length-append (cid_bytes k) ((64 * 0 + m) ∷ []) in
          let s = f.short in
          omega arith),
      ok,
    )

    -- and so does I with as much information as there is room for
    pub takes_i_lem : (agreed : Agreed) → agrees agreed k ≡ true → (c m : Bool) (info : List ℕ) → 0 < length info → length info ≤ room_of size k → Takes size agreed (i_block c m k info)
    takes_i_lem agreed ok c m info lo hi = (
      (f.good, lo),
      (let e = frame_length (i_block c m k info) in
          let a = length-append (cid_bytes k) info in
          let r = f.room size big in
          omega arith),
      ok,
    )
