-- The laws of frames and blocks. The layers above rest on these and open no definition of the check.
use Rattle.std.specs.Prelude.{◌≡◌, ℕ, ◌+◌, ◌<◌, ◌≤◌, true, List, [], ◌∷◌, ◌++◌, length, take, ◌≢◌, slice_index}
use Rattle.frames.specs.Check.{seal, opened, open_frame}
use Rattle.frames.specs.Blocks.{Block, i_block, r_block, deselect, wait, Cid, ValidBlock, frame_of}
use Rattle.frames.specs.Reading.{Agreed, agrees, valid, read_frame}

-- the card number that a block is sent with
abbrev pub cid_in : Block → Cid
cid_in (i_block c n a info) = a
cid_in (r_block k n a) = a
cid_in (deselect a) = a
cid_in (wait m p a) = a

-- bytes are below 256
abbrev pub Bytes : List ℕ → Type 0
Bytes f = (k : ℕ) → slice_index f k < 256

-- noise: no body of one byte or more has this as its frame
abbrev pub Noise : List ℕ → Type 0
Noise f = (body : List ℕ) → 0 < length body → seal body ≢ f

-- a receiver of this frame size and agreement can take the block
abbrev pub Takes : ℕ → Agreed → Block → Type 0
Takes limit agreed b = ValidBlock b × (length (frame_of b) ≤ limit) × (agrees agreed (cid_in b) ≡ true)

-- the check has two bytes
abbrev pub TwoMore : Type 0
TwoMore = (body : List ℕ) → length (seal body) ≡ length body + 2

-- a frame begins with its body
abbrev pub BeginsWithItsBody : Type 0
BeginsWithItsBody = (body : List ℕ) → take (length body) (seal body) ≡ body

-- a frame within the limit opens to the body that it was made of
abbrev pub OpensToItsBody : Type 0
OpensToItsBody =
    (limit : ℕ) (body : List ℕ) → 0 < length body → length (seal body) ≤ limit → open_frame limit (seal body) ≡ opened body

-- what opens was made by sealing what it opens to, one byte or more, and is within the limit
abbrev pub OpensIfSealed : Type 0
OpensIfSealed =
    (limit : ℕ) (f body : List ℕ)
    → open_frame limit f ≡ opened body
    → (f ≡ seal body) × (0 < length body) × (length f ≤ limit)

-- a block's frame is read as that block
abbrev pub ReadsItsFrame : Type 0
ReadsItsFrame =
    (limit : ℕ) (agreed : Agreed) (b : Block) → Takes limit agreed b → read_frame limit agreed (frame_of b) ≡ valid b

-- noise is never read as a block
abbrev pub NeverReadsNoise : Type 0
NeverReadsNoise =
    (limit : ℕ) (agreed : Agreed) (f : List ℕ) (b : Block) → Noise f → read_frame limit agreed f ≢ valid b

-- what is read as a block is that block's frame, and the receiver can take the block
abbrev pub ReadsOnlyItsFrame : Type 0
ReadsOnlyItsFrame =
    (limit : ℕ) (agreed : Agreed) (f : List ℕ) (b : Block)
    → Bytes f
    → read_frame limit agreed f ≡ valid b
    → (f ≡ frame_of b) × Takes limit agreed b

-- two blocks have two frames
abbrev pub FramesDiffer : Type 0
FramesDiffer = (a b : Block) → ValidBlock a → ValidBlock b → frame_of a ≡ frame_of b → a ≡ b

-- a frame with another byte in the place of its last one is noise
abbrev pub SpoiltIsNoise : Type 0
SpoiltIsNoise =
    (body : List ℕ) (front : List ℕ) (x y : ℕ) → seal body ≡ front ++ (x ∷ []) → (x ≢ y) → Noise (front ++ (y ∷ []))

-- three bytes 0 are noise
abbrev pub ZerosAreNoise : Type 0
ZerosAreNoise = Noise (0 ∷ 0 ∷ 0 ∷ [])
