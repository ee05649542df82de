-- RATS: the reader asks a card to wake, tells it the size of the reader's frames, and gives it a number.
use Rattle.std.specs.Prelude.{ℕ, ◌+◌, ◌*◌, ◌/◌, ◌%◌, Bool, cond, List, [], ◌∷◌, ◌==◌, nat_le, nat_lt}
use Rattle.frames.specs.Check.{both}
use Rattle.frames.specs.Sizes.{greatest_code}

-- E0, then the code of the frame size above the card number
abbrev pub rats_of : ℕ → ℕ → List ℕ
rats_of fsdi cid = 0xE0 ∷ (16 * fsdi + cid) ∷ []

pub data RatsRead : Type 0 where
  rats : (fsdi cid : ℕ) → RatsRead
  no_rats : RatsRead

-- the size codes above the greatest and the number 15 are reserved
abbrev pub rats_good : ℕ → ℕ → Bool
rats_good start p = both (start == 0xE0) (both (nat_le (p / 16) greatest_code) (nat_lt (p % 16) 15))

-- a body of two bytes, without reserved values
abbrev pub read_rats : List ℕ → RatsRead
read_rats [] = no_rats
read_rats (start ∷ []) = no_rats
read_rats (start ∷ p ∷ []) = cond (rats_good start p) (rats (p / 16) (p % 16)) no_rats
read_rats (start ∷ p ∷ x ∷ more) = no_rats
