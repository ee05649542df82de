-- What the bits of a control byte and of a card number byte say, computed at all bytes.
use Rattle.std.proofs.Common.{◌≡◌, ℕ, ◌%◌, ◌<◌, Bool, true, false, cond, eqb, ltb, map, get_or, sym, refl, ap, ◌∙◌, arith}
use lib.Bits.{bit_and}
use Rattle.std.specs.List.{range_with_len}
use Rattle.std.proofs.lemmas.List.FromFn.{get_or-map-range_with_len}
use Rattle.frames.specs.Blocks.{i_control, r_control, deselect_control, wait_control}
use Rattle.frames.specs.Reading.{Kind, i_kind, r_kind, deselect_kind, wait_kind, no_kind, kind_of, is_kind, has}

-- two functions of a byte that are equal at all bytes
pub at_all : {X : Type 0} (f g : ℕ → X) (d : X) → map f (range_with_len 0 256) ≡ map g (range_with_len 0 256) → (v : ℕ) → v < 256 → f v ≡ g v
at_all f g d e v small =
    sym (get_or-map-range_with_len f 0 256 v v d small (omega arith)) ∙ ap (λ l. get_or l v d) e
    ∙ get_or-map-range_with_len g 0 256 v v d small (omega arith)

-- b6 b5 are 00 where the six low bits are below 16
pub reserved_bits : (v : ℕ) → v < 256 → eqb (bit_and v 0x30) 0 ≡ ltb (v % 64) 16
reserved_bits = at_all (λ v. eqb (bit_and v 0x30) 0) (λ v. ltb (v % 64) 16) true refl

-- the control byte of a kind, from the bits that it is free in
abbrev pub control : Kind → Bool → Bool → Bool → ℕ
control i_kind high card low = i_control high card low
control r_kind high card low = r_control high card low
control deselect_kind high card low = deselect_control card
control wait_kind high card low = wait_control card
control no_kind high card low = 0

-- a control byte with a kind is its kind's, with its bits
pub control_back : (c : ℕ) → c < 256 → is_kind (kind_of c) ≡ true → control (kind_of c) (has 0x10 c) (has 0x08 c) (has 0x01 c) ≡ c
control_back c small is =
    ap (λ b. cond b (control (kind_of c) (has 0x10 c) (has 0x08 c) (has 0x01 c)) c) (sym is)
    ∙ at_all (λ b. cond (is_kind (kind_of b)) (control (kind_of b) (has 0x10 b) (has 0x08 b) (has 0x01 b)) b) (λ b. b) 0 refl c small

-- what a control byte says
pub record Says (k : Kind) (c : ℕ) (card : Bool) : Type 0 where
  pub kind : kind_of c ≡ k
  pub follows : has 0x08 c ≡ card

pub i_says : (high card low : Bool) → Says i_kind (i_control high card low) card
i_says true true true = record { kind = refl; follows = refl }
i_says true true false = record { kind = refl; follows = refl }
i_says true false true = record { kind = refl; follows = refl }
i_says true false false = record { kind = refl; follows = refl }
i_says false true true = record { kind = refl; follows = refl }
i_says false true false = record { kind = refl; follows = refl }
i_says false false true = record { kind = refl; follows = refl }
i_says false false false = record { kind = refl; follows = refl }

pub r_says : (high card low : Bool) → Says r_kind (r_control high card low) card
r_says true true true = record { kind = refl; follows = refl }
r_says true true false = record { kind = refl; follows = refl }
r_says true false true = record { kind = refl; follows = refl }
r_says true false false = record { kind = refl; follows = refl }
r_says false true true = record { kind = refl; follows = refl }
r_says false true false = record { kind = refl; follows = refl }
r_says false false true = record { kind = refl; follows = refl }
r_says false false false = record { kind = refl; follows = refl }

pub deselect_says : (card : Bool) → Says deselect_kind (deselect_control card) card
deselect_says true = record { kind = refl; follows = refl }
deselect_says false = record { kind = refl; follows = refl }

pub wait_says : (card : Bool) → Says wait_kind (wait_control card) card
wait_says true = record { kind = refl; follows = refl }
wait_says false = record { kind = refl; follows = refl }

-- the bits that I and R are free in
pub i_high : (high card low : Bool) → has 0x10 (i_control high card low) ≡ high
i_high true true true = refl
i_high true true false = refl
i_high true false true = refl
i_high true false false = refl
i_high false true true = refl
i_high false true false = refl
i_high false false true = refl
i_high false false false = refl

pub i_low : (high card low : Bool) → has 0x01 (i_control high card low) ≡ low
i_low true true true = refl
i_low true true false = refl
i_low true false true = refl
i_low true false false = refl
i_low false true true = refl
i_low false true false = refl
i_low false false true = refl
i_low false false false = refl

pub r_high : (high card low : Bool) → has 0x10 (r_control high card low) ≡ high
r_high true true true = refl
r_high true true false = refl
r_high true false true = refl
r_high true false false = refl
r_high false true true = refl
r_high false true false = refl
r_high false false true = refl
r_high false false false = refl

pub r_low : (high card low : Bool) → has 0x01 (r_control high card low) ≡ low
r_low true true true = refl
r_low true true false = refl
r_low true false true = refl
r_low true false false = refl
r_low false true true = refl
r_low false true false = refl
r_low false false true = refl
r_low false false false = refl
