-- What a receiver takes as a block, and what a sender writes, said exactly.
use Rattle.std.specs.Prelude.{◌≡◌, ℕ, ◌≤◌, ◌↔◌, List, length, Ok}
use Rattle.frames.specs.Blocks.{Block, ValidBlock, frame_of}
use Rattle.frames.specs.Laws.{Bytes, Takes}
use Rattle.frames.specs.Reading.{Agreed, valid, read_frame}
use Rattle.frames.specs.Sizes.{greatest_frame}
use Rattle.frames.specs.Writing.{writing}

-- a frame is accepted as a block exactly when it is that block's frame, and the receiver can take the block
abbrev pub AcceptedExactly : Type 0
AcceptedExactly =
    (limit : ℕ) (agreed : Agreed) (f : List ℕ) (b : Block)
    → Bytes f
    → (read_frame limit agreed f ≡ valid b) ↔ ((f ≡ frame_of b) × Takes limit agreed b)

-- a block has one frame: whatever is accepted as the block, by whatever receiver, is the same frame
abbrev pub OneFrame : Type 0
OneFrame =
    (limit limit' : ℕ) (agreed agreed' : Agreed) (f g : List ℕ) (b : Block)
    → Bytes f
    → Bytes g
    → read_frame limit agreed f ≡ valid b
    → read_frame limit' agreed' g ≡ valid b
    → f ≡ g

-- a block is written exactly when it is one, its frame is not above the greatest, and the buffer holds the greatest
abbrev pub WrittenExactly : Type 0
WrittenExactly =
    (b : Block) (buffer : ℕ)
    → (writing b buffer ≡ Ok (length (frame_of b)))
    ↔ (ValidBlock b × (length (frame_of b) ≤ greatest_frame) × (greatest_frame ≤ buffer))
