-- A block's bytes are read as that block.
use Rattle.std.proofs.Common.{◌≡◌, ℕ, ◌+◌, ◌*◌, ◌/◌, ◌%◌, ◌<◌, Bool, true, cond, List, [], ◌∷◌, ◌++◌, length, drop, sym, refl, ap, ◌∙◌, ap₂, append-nil, arith, length-append}
use Rattle.std.proofs.lemmas.Bool.{lt-ltb, eq-eqb}
use Rattle.frames.specs.Blocks.{Cid, Block, i_block, r_block, deselect, wait, ValidCid, ValidBlock, follows, i_control, r_control, deselect_control, wait_control, cid_bytes, bytes_of}
use Rattle.frames.specs.Causes.{without_kind, length_wrong, card_wrong, multiplier_reserved}
use Rattle.frames.specs.Check.{both}
use Rattle.frames.specs.Laws.{cid_in}
use Rattle.frames.specs.Reading.{Kind, i_kind, r_kind, deselect_kind, wait_kind, kind_of, is_kind, has, Agreed, agrees, Reading, valid, invalid, cid_size, length_fits, cid_of, cid_good, multiplier_good, block_of, read_rest, read_body}
use Rattle.frames.proofs.Cids.{cid_there, behind_cid, cid_good_lem, cid_long}
use Rattle.frames.proofs.Controls.{Says, i_says, r_says, deselect_says, wait_says, i_high, i_low, r_high, r_low}

-- the block that bytes make by their control byte, whatever their length and their card number
abbrev pub decode : List ℕ → Reading
decode [] = invalid without_kind
decode (c ∷ rest) = block_of (kind_of c) c (cid_of (has 0x08 c) rest) (drop (cid_size (has 0x08 c)) rest)

module _ (k : Kind) (c : ℕ) (a : Cid) (info : List ℕ) (says : Says k c (follows a)) (good : ValidCid a) where
  pub decode_parts : decode (c ∷ (cid_bytes a ++ info)) ≡ block_of k c a info
  decode_parts =
      ap₂ (λ K f. block_of K c (cid_of f (cid_bytes a ++ info)) (drop (cid_size f) (cid_bytes a ++ info))) says.kind says.follows
      ∙ ap₂ (λ x l. block_of k c x l) (cid_there a info good) (behind_cid a info)

  pub read_parts : (agreed : Agreed) → is_kind k ≡ true → length_fits k (follows a) (length (cid_bytes a ++ info)) ≡ true → agrees agreed a ≡ true → read_body agreed (c ∷ (cid_bytes a ++ info)) ≡ block_of k c a info
  read_parts agreed is long agree =
      let rest = cid_bytes a ++ info in
      let fits : length_fits (kind_of c) (has 0x08 c) (length rest) ≡ true =
      ap₂ (λ K f. length_fits K f (length rest)) says.kind says.follows ∙ long in
      let card : both (cid_good (has 0x08 c) rest) (agrees agreed (cid_of (has 0x08 c) rest)) ≡ true =
      ap (λ f. both (cid_good f rest) (agrees agreed (cid_of f rest))) says.follows
      ∙ ap₂ (λ x y. both x (agrees agreed y)) (cid_good_lem a info good) (cid_there a info good) ∙ agree in
      let kind : is_kind (kind_of c) ≡ true = ap is_kind says.kind ∙ is in
      ap (λ t. cond t (read_rest agreed (kind_of c) c rest) (invalid without_kind)) kind
      ∙ ap (λ t. cond t (cond (both (cid_good (has 0x08 c) rest) (agrees agreed (cid_of (has 0x08 c) rest))) (decode (c ∷ rest)) (invalid card_wrong)) (invalid length_wrong)) fits
      ∙ ap (λ t. cond t (decode (c ∷ rest)) (invalid card_wrong)) card
      ∙ decode_parts

-- the block that a control byte and its parts make is the one that they were made of
i_made : (x n : Bool) (a : Cid) (info : List ℕ) → block_of i_kind (i_control x (follows a) n) a info ≡ valid (i_block x n a info)
i_made x n a info = ap₂ (λ s t. valid (i_block s t a info)) (i_high x (follows a) n) (i_low x (follows a) n)

r_made : (x n : Bool) (a : Cid) (info : List ℕ) → block_of r_kind (r_control x (follows a) n) a info ≡ valid (r_block x n a)
r_made x n a info = ap₂ (λ s t. valid (r_block s t a)) (r_high x (follows a) n) (r_low x (follows a) n)

wait_made : (m p : ℕ) (a : Cid) → 0 < m → m < 60 → p < 4 → block_of wait_kind (wait_control (follows a)) a ((64 * p + m) ∷ []) ≡ valid (wait m p a)
wait_made m p a some small level =
    let v : ℕ = 64 * p + m in
    let low : v % 64 ≡ m = omega arith in
    let high : v / 64 ≡ p = omega arith in
    let good : multiplier_good v ≡ true = ap₂ both (lt-ltb 0 (v % 64) (omega arith)) (lt-ltb (v % 64) 60 (omega arith)) in
    ap (λ t. cond t (valid (wait (v % 64) (v / 64) a)) (invalid (multiplier_reserved (2 + cid_size (has 0x08 (wait_control (follows a))))))) good
    ∙ ap₂ (λ x y. valid (wait x y a)) low high

-- bytes that end with the card number
no_more : (c : ℕ) (a : Cid) → c ∷ cid_bytes a ≡ c ∷ (cid_bytes a ++ [])
no_more c a = ap (λ l. c ∷ l) (sym (append-nil (cid_bytes a)))

long_by : (a : Cid) (info : List ℕ) → length (cid_bytes a ++ info) ≡ cid_size (follows a) + length info
long_by a info = length-append (cid_bytes a) info ∙ ap (λ n. n + length info) (cid_long a)

pub decodes : (b : Block) → ValidBlock b → decode (bytes_of b) ≡ valid b
decodes (i_block x n a info) h = decode_parts i_kind (i_control x (follows a) n) a info (i_says x (follows a) n) h.0 ∙ i_made x n a info
decodes (r_block x n a) h =
    ap decode (no_more (r_control x (follows a) n) a)
    ∙ decode_parts r_kind (r_control x (follows a) n) a [] (r_says x (follows a) n) h ∙ r_made x n a []
decodes (deselect a) h =
    ap decode (no_more (deselect_control (follows a)) a) ∙ decode_parts deselect_kind (deselect_control (follows a)) a [] (deselect_says (follows a)) h
decodes (wait m p a) h =
    decode_parts wait_kind (wait_control (follows a)) a ((64 * p + m) ∷ []) (wait_says (follows a)) h.0
    ∙ wait_made m p a h.1 h.2 h.3

pub reads_bytes : (agreed : Agreed) (b : Block) → ValidBlock b → agrees agreed (cid_in b) ≡ true → read_body agreed (bytes_of b) ≡ valid b
reads_bytes agreed (i_block x n a info) h agree =
    read_parts i_kind (i_control x (follows a) n) a info (i_says x (follows a) n) h.0 agreed refl
    (lt-ltb (cid_size (follows a)) (length (cid_bytes a ++ info)) (omega (arith, long_by a info, h.1))) agree
    ∙ i_made x n a info
reads_bytes agreed (r_block x n a) h agree =
    ap (read_body agreed) (no_more (r_control x (follows a) n) a)
    ∙ read_parts r_kind (r_control x (follows a) n) a [] (r_says x (follows a) n) h agreed refl
    (eq-eqb (length (cid_bytes a ++ [])) (cid_size (follows a)) (omega (arith, long_by a []))) agree
    ∙ r_made x n a []
reads_bytes agreed (deselect a) h agree =
    ap (read_body agreed) (no_more (deselect_control (follows a)) a)
    ∙ read_parts deselect_kind (deselect_control (follows a)) a [] (deselect_says (follows a)) h agreed refl
    (eq-eqb (length (cid_bytes a ++ [])) (cid_size (follows a)) (omega (arith, long_by a []))) agree
reads_bytes agreed (wait m p a) h agree =
    read_parts wait_kind (wait_control (follows a)) a ((64 * p + m) ∷ []) (wait_says (follows a)) h.0 agreed refl
    (eq-eqb (length (cid_bytes a ++ ((64 * p + m) ∷ []))) (cid_size (follows a) + 1) (long_by a ((64 * p + m) ∷ []))) agree
    ∙ wait_made m p a h.1 h.2 h.3
