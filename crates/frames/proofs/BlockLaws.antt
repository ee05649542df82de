-- The laws of blocks and their frames.
use Rattle.std.proofs.Common.{◌≡◌, ℕ, ◌<◌, ◌≤◌, List, length, IfOk, Ok, Err, Result, sym, refl, ap, ◌∙◌, subst, ⊎_elim, arith}
use Rattle.std.proofs.lemmas.List.{get_or_append_left, get_or_past}
use Rattle.std.proofs.lemmas.Bool.{cases_lt}
use Rattle.frames.specs.Blocks.{Block, i_block, r_block, deselect, wait, ValidBlock, bytes_of, frame_of}
use Rattle.frames.specs.Check.{seal, check_of, Opened, opened, unopened, open_frame}
use Rattle.frames.specs.Laws.{Bytes, ReadsItsFrame, NeverReadsNoise, ReadsOnlyItsFrame, FramesDiffer}
use Rattle.frames.specs.Reading.{Agreed, valid, read_body, read_opened, read_frame}
use Rattle.frames.specs.Views.{block_seen, seen}
use Rattle.frames.specs.declared.block.Block as coded
use Rattle.frames.specs.declared.fault.BlockFault.{BlockFault}
use Rattle.frames.proofs.Decoding.{decode, decodes, reads_bytes}
use Rattle.frames.proofs.Encoding.{same_block, never, read_back}
use Rattle.frames.proofs.FrameLaws.{opens_to_its_body, opens_if_sealed, seal_apart}

some_bytes : (b : Block) → 0 < length (bytes_of b)
some_bytes (i_block c n a info) = omega arith
some_bytes (r_block k n a) = omega arith
some_bytes (deselect a) = omega arith
some_bytes (wait m p a) = omega arith

pub reads_its_frame : ReadsItsFrame
unfolding read_frame
reads_its_frame limit agreed b h =
    ap (read_opened agreed) (opens_to_its_body limit (bytes_of b) (some_bytes b) h.1)
    ∙ reads_bytes agreed b h.0 h.2

-- a frame that is read as a block opened
opened_as_lem : (agreed : Agreed) (o : Opened) (b : Block) → read_opened agreed o ≡ valid b → (body : List ℕ) × (o ≡ opened body) × (read_body agreed body ≡ valid b)
opened_as_lem agreed (opened body) b e = (body, refl, e)
opened_as_lem agreed (unopened why) b e = absurd (never why b e)

pub never_reads_noise : NeverReadsNoise
unfolding read_frame
never_reads_noise limit agreed f b noise e =
    let o = opened_as_lem agreed (open_frame limit f) b e in
    let s = opens_if_sealed limit f o.0 o.1 in
    noise o.0 s.1 (sym s.0)

-- the bytes of a body are bytes of its frame
front_bytes : (body : List ℕ) → Bytes (seal body) → Bytes body
unfolding seal
front_bytes body small k =
    ⊎_elim (λ h. subst (λ x. x < 256) (get_or_append_left body (check_of body) 0 k h) (small k))
    (λ h. subst (λ x. x < 256) (sym (get_or_past body k 0 h)) (let z : 0 < 256 = omega arith in z)) (cases_lt k (length body))

pub reads_only_its_frame : ReadsOnlyItsFrame
unfolding read_frame
reads_only_its_frame limit agreed f b small e =
    let o = opened_as_lem agreed (open_frame limit f) b e in
    let s = opens_if_sealed limit f o.0 o.1 in
    let r = read_back agreed o.0 b (front_bytes o.0 (subst Bytes s.0 small)) o.2 in
    let is : f ≡ frame_of b = s.0 ∙ ap seal (sym r.0) in
    (is, (r.1, subst (λ l. length l ≤ limit) is s.2, r.2))

-- a block that was read is one
pub valid_read : (limit : ℕ) (agreed : Agreed) (f : List ℕ) (r : Result coded.Block BlockFault) → Bytes f → seen r ≡ read_frame limit agreed f → IfOk r (λ b. ValidBlock (block_seen b))
valid_read limit agreed f (Ok b) small e = (reads_only_its_frame limit agreed f (block_seen b) small (sym e)).1.0
valid_read limit agreed f (Err why) small e = tt

pub frames_differ : FramesDiffer
frames_differ a b va vb e =
    same_block a b (sym (decodes a va) ∙ ap decode (seal_apart (bytes_of a) (bytes_of b) e) ∙ decodes b vb)
