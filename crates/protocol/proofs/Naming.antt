-- Each frame of an exchange is named by itself as what the reader wrote it for.
use Rattle.std.proofs.Common.{◌≡◌, ℕ, Bool, true, false, not, eqb, List, [], ◌∷◌, length, get_or, sym, refl, ap, ◌∙◌, arith}
use Rattle.std.proofs.lemmas.List.{get_or-take}
use Rattle.std.proofs.lemmas.Bool.{eqb-true, false≢true}
use Rattle.frames.specs.Blocks.{Block, i_block, r_block, wait, Cid, follows, bytes_of, frame_of, i_control, r_control, wait_control}
use Rattle.frames.specs.Reading.{i_kind, r_kind, wait_kind, kind_of, has}
use Rattle.protocol.specs.Turns.{control_byte, is_wait, is_nak, same_bytes}
use Rattle.protocol.proofs.Basics.{both_left, both_right, both_from, eqb_self}
use Rattle.protocol.proofs.Delivery.{weigh_le, bytes_pos}
use Rattle.protocol.proofs.Rests.{Laws}

pub same_bytes_lem : (xs ys : List ℕ) → same_bytes xs ys ≡ true → xs ≡ ys
same_bytes_lem [] [] e = refl
same_bytes_lem [] (y ∷ ys) e = absurd (false≢true e)
same_bytes_lem (x ∷ xs) [] e = absurd (false≢true e)
same_bytes_lem (x ∷ xs) (y ∷ ys) e =
    let h : x ≡ y = eqb-true x y (both_left _ _ e) in
    let t : xs ≡ ys = same_bytes_lem xs ys (both_right (eqb x y) _ e) in
    λ i. h i ∷ t i

pub bytes_same : (xs : List ℕ) → same_bytes xs xs ≡ true
bytes_same [] = refl
bytes_same (x ∷ xs) = both_from (eqb x x) (same_bytes xs xs) (eqb_self x) (bytes_same xs)

pub bytes_apart : (xs ys : List ℕ) → (xs ≡ ys → ⊥) → same_bytes xs ys ≡ false
bytes_apart xs ys h = go (same_bytes xs ys) refl
  where
    go : (b : Bool) → same_bytes xs ys ≡ b → same_bytes xs ys ≡ false
    go true e = absurd (h (same_bytes_lem xs ys e))
    go false e = e

abbrev pub control : Block → ℕ
control b = get_or (bytes_of b) 0 0

kind_i : (c f m : Bool) → kind_of (i_control c f m) ≡ i_kind
kind_i true true true = refl
kind_i true true false = refl
kind_i true false true = refl
kind_i true false false = refl
kind_i false true true = refl
kind_i false true false = refl
kind_i false false true = refl
kind_i false false false = refl

kind_r : (c f m : Bool) → kind_of (r_control c f m) ≡ r_kind
kind_r true true true = refl
kind_r true true false = refl
kind_r true false true = refl
kind_r true false false = refl
kind_r false true true = refl
kind_r false true false = refl
kind_r false false true = refl
kind_r false false false = refl

nak_r : (c f m : Bool) → has 0x10 (r_control c f m) ≡ c
nak_r true true true = refl
nak_r true true false = refl
nak_r true false true = refl
nak_r true false false = refl
nak_r false true true = refl
nak_r false true false = refl
nak_r false false true = refl
nak_r false false false = refl

kind_wait : (f : Bool) → kind_of (wait_control f) ≡ wait_kind
kind_wait true = refl
kind_wait false = refl

-- the block numbers of two I-blocks, or of two R-blocks, show in their control bytes
i_numbers : (c d f n : Bool) → i_control c f (not n) ≡ i_control d f n → ⊥
i_numbers true true f true e = omega arith
i_numbers true true f false e = omega arith
i_numbers true false f true e = omega arith
i_numbers true false f false e = omega arith
i_numbers false true f true e = omega arith
i_numbers false true f false e = omega arith
i_numbers false false f true e = omega arith
i_numbers false false f false e = omega arith

r_numbers : (f n : Bool) → r_control false f (not n) ≡ r_control false f n → ⊥
r_numbers f true e = omega arith
r_numbers f false e = omega arith

module _ (laws : Laws) where
  -- a frame begins with its block's control byte
  pub begins_with : (b : Block) → control_byte (frame_of b) ≡ control b
  begins_with b =
      sym (get_or-take (length (bytes_of b)) (frame_of b) 0 0 (bytes_pos b)) ∙ ap (λ f. get_or f 0 0) (laws.begins (bytes_of b))

  pub wait_i : (c m : Bool) (a : Cid) (info : List ℕ) → is_wait (frame_of (i_block c m a info)) ≡ false
  wait_i c m a info = rw (begins_with (i_block c m a info), kind_i c (follows a) m)

  pub nak_i : (c m : Bool) (a : Cid) (info : List ℕ) → is_nak (frame_of (i_block c m a info)) ≡ false
  nak_i c m a info = rw (begins_with (i_block c m a info), kind_i c (follows a) m)

  pub wait_r : (k m : Bool) (a : Cid) → is_wait (frame_of (r_block k m a)) ≡ false
  wait_r k m a = rw (begins_with (r_block k m a), kind_r k (follows a) m)

  pub nak_is : (k m : Bool) (a : Cid) → is_nak (frame_of (r_block k m a)) ≡ k
  nak_is k m a = rw (begins_with (r_block k m a), kind_r k (follows a) m, nak_r k (follows a) m)

  pub wait_is : (m p : ℕ) (a : Cid) → is_wait (frame_of (wait m p a)) ≡ true
  wait_is m p a = rw (begins_with (wait m p a), kind_wait (follows a))

  apart : (b d : Block) → (control b ≡ control d → ⊥) → same_bytes (frame_of b) (frame_of d) ≡ false
  apart b d h =
      bytes_apart (frame_of b) (frame_of d)
      (λ e. h (sym (begins_with b) ∙ (ap control_byte e ∙ begins_with d)))

  -- successive fresh frames differ
  pub next_part_differs : (c d n : Bool) (a : Cid) (p q : List ℕ) → same_bytes (frame_of (i_block c (not n) a p)) (frame_of (i_block d n a q)) ≡ false
  next_part_differs c d n a p q =
      apart (i_block c (not n) a p) (i_block d n a q) (i_numbers c d (follows a) n)

  pub first_ack_differs : (d m n : Bool) (a : Cid) (q : List ℕ) → same_bytes (frame_of (r_block false m a)) (frame_of (i_block d n a q)) ≡ false
  first_ack_differs d m n a q =
      apart (r_block false m a) (i_block d n a q)
      (λ e. omega (arith, e, weigh_le 0x10 d, weigh_le 0x08 (follows a), weigh_le 0x01 n))

  pub next_ack_differs : (n : Bool) (a : Cid) → same_bytes (frame_of (r_block false (not n) a)) (frame_of (r_block false n a)) ≡ false
  next_ack_differs n a = apart (r_block false (not n) a) (r_block false n a) (r_numbers (follows a) n)
