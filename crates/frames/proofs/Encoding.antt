-- What is read as a block is that block's bytes.
use Rattle.std.proofs.Common.{◌≡◌, ℕ, suc, ◌+◌, ◌-◌, ◌*◌, ◌/◌, ◌%◌, ◌<◌, ◌≤◌, Bool, true, false, cond, ltb, List, [], ◌∷◌, ◌++◌, length, get_or, drop, sym, refl, ap, ◌∙◌, subst, ap₂, append-nil, arith, length-drop}
use Rattle.std.proofs.lemmas.List.{nil_from_length, get_or-drop}
use Rattle.std.proofs.lemmas.Bool.{ltb-true, eqb-true, false≢true}
use Rattle.frames.specs.Blocks.{Cid, Block, wait, ValidBlock, i_control, r_control, deselect_control, wait_control, cid_bytes, bytes_of}
use Rattle.frames.specs.Causes.{Cause, without_kind, length_wrong, card_wrong, multiplier_reserved}
use Rattle.frames.specs.Laws.{Bytes, cid_in}
use Rattle.frames.specs.Reading.{Kind, i_kind, r_kind, deselect_kind, wait_kind, no_kind, kind_of, has, Agreed, agrees, Reading, valid, invalid, cid_size, length_fits, cid_of, cid_good, multiplier_good, block_of, read_body}
use Rattle.frames.proofs.Boths.{both_true}
use Rattle.frames.proofs.Cids.{ReadBack, cid_back}
use Rattle.frames.proofs.Controls.{control, control_back}

pub never : (why : Cause) (b : Block) → invalid why ≡ valid b → ⊥
never why b e = let z : ◌≡◌ {A = ℕ} 0 1 = cc in omega arith

pub same_block : (a b : Block) → valid a ≡ valid b → a ≡ b
same_block a b e = cc

-- the tests that lead to a block were all passed
passed : (kind long good : Bool) (x y z : Cause) (r : Reading) (b : Block) → cond kind (cond long (cond good r (invalid x)) (invalid y)) (invalid z) ≡ valid b → (kind ≡ true) × (long ≡ true) × (good ≡ true) × (r ≡ valid b)
passed true true true x y z r b e = (refl, refl, refl, e)
passed true true false x y z r b e = absurd (never x b e)
passed true false good x y z r b e = absurd (never y b e)
passed false long good x y z r b e = absurd (never z b e)

-- a block that is made of these bytes
pub record Made (b : Block) (body : List ℕ) (a : Cid) : Type 0 where
  pub bytes : bytes_of b ≡ body
  pub good : ValidBlock b
  pub card : cid_in b ≡ a

-- the length leaves room for the card number
room : (k : Kind) (flag : Bool) (n : ℕ) → length_fits k flag n ≡ true → cid_size flag ≤ n
room i_kind flag n h = omega (arith, ltb-true (cid_size flag) n h)
room r_kind flag n h = omega (arith, eqb-true n (cid_size flag) h)
room deselect_kind flag n h = omega (arith, eqb-true n (cid_size flag) h)
room wait_kind flag n h = omega (arith, eqb-true n (cid_size flag + 1) h)
room no_kind flag n h = absurd (false≢true h)

-- one byte
one_byte : (l : List ℕ) → length l ≡ 1 → l ≡ get_or l 0 0 ∷ []
one_byte [] h = absurd (omega arith)
one_byte (x ∷ []) h = refl
one_byte (x ∷ y ∷ l) h = absurd (omega arith)

module _ (c : ℕ) (rest : List ℕ) (small : Bytes rest) (back : ReadBack (has 0x08 c) rest) where
  abbrev flag : Bool
  flag = has 0x08 c

  abbrev card : Cid
  card = cid_of flag rest

  abbrev info : List ℕ
  info = drop (cid_size flag) rest

  left : length info ≡ length rest - cid_size flag
  left = length-drop (cid_size flag) rest

  -- with no information the card number is all
  nothing_left : length rest ≡ cid_size flag → cid_bytes card ≡ rest
  nothing_left e =
      sym (append-nil (cid_bytes card))
      ∙ ap (λ l. cid_bytes card ++ l) (sym (nil_from_length info (omega (arith, left, e)))) ∙ back.whole

  waiting : (b : Block) → wait_control flag ≡ c → length rest ≡ cid_size flag + 1 → (good : Bool) → multiplier_good (get_or info 0 0) ≡ good → cond good (valid (wait (get_or info 0 0 % 64) (get_or info 0 0 / 64) card)) (invalid (multiplier_reserved (2 + cid_size flag))) ≡ valid b → Made b (c ∷ rest) card
  waiting b at long true range e =
      let v : ℕ = get_or info 0 0 in
      let byte : v < 256 = subst (λ x. x < 256) (sym (get_or-drop (cid_size flag) rest 0 0)) (small (cid_size flag + 0)) in
      let parts = both_true (ltb 0 (v % 64)) (ltb (v % 64) 60) range in
      let some = ltb-true 0 (v % 64) parts.0 in
      let less = ltb-true (v % 64) 60 parts.1 in
      let whole : 64 * (v / 64) + v % 64 ≡ v = omega arith in
      let tail : cid_bytes card ++ ((64 * (v / 64) + v % 64) ∷ []) ≡ rest =
      ap (λ x. cid_bytes card ++ (x ∷ [])) whole
      ∙ ap (λ l. cid_bytes card ++ l) (sym (one_byte info (omega (arith, left, long)))) ∙ back.whole in
      subst (λ x. Made x (c ∷ rest) card) (same_block _ b e) (record {
        bytes = ap₂ (λ f l. wait_control f ∷ l) back.flagged tail ∙ ap (λ x. x ∷ rest) at;
        good = (back.valid, some, less, omega arith);
        card = refl;
      })
  waiting b at long false range e = absurd (never _ b e)

  by_kind : (k : Kind) (b : Block) → control k (has 0x10 c) flag (has 0x01 c) ≡ c → length_fits k flag (length rest) ≡ true → block_of k c card info ≡ valid b → Made b (c ∷ rest) card
  by_kind i_kind b at long e =
      subst (λ x. Made x (c ∷ rest) card) (same_block _ b e) (record {
        bytes = ap₂ (λ f l. i_control (has 0x10 c) f (has 0x01 c) ∷ l) back.flagged back.whole ∙ ap (λ x. x ∷ rest) at;
        good = (back.valid, omega (arith, left, ltb-true (cid_size flag) (length rest) long));
        card = refl;
      })
  by_kind r_kind b at long e =
      subst (λ x. Made x (c ∷ rest) card) (same_block _ b e) (record {
        bytes =
            ap₂ (λ f l. r_control (has 0x10 c) f (has 0x01 c) ∷ l) back.flagged (nothing_left (eqb-true (length rest) (cid_size flag) long))
            ∙ ap (λ x. x ∷ rest) at;
        good = back.valid;
        card = refl;
      })
  by_kind deselect_kind b at long e =
      subst (λ x. Made x (c ∷ rest) card) (same_block _ b e) (record {
        bytes =
            ap₂ (λ f l. deselect_control f ∷ l) back.flagged (nothing_left (eqb-true (length rest) (cid_size flag) long))
            ∙ ap (λ x. x ∷ rest) at;
        good = back.valid;
        card = refl;
      })
  by_kind wait_kind b at long e =
      waiting b at (eqb-true (length rest) (cid_size flag + 1) long) (multiplier_good (get_or info 0 0)) refl e
  by_kind no_kind b at long e = absurd (false≢true long)

-- bytes that are read as a block are its bytes, and its card number is agreed
pub read_back : (agreed : Agreed) (body : List ℕ) (b : Block) → Bytes body → read_body agreed body ≡ valid b → (bytes_of b ≡ body) × ValidBlock b × (agrees agreed (cid_in b) ≡ true)
read_back agreed [] b small e = absurd (never without_kind b e)
read_back agreed (c ∷ rest) b small e =
    let behind : Bytes rest = λ k. small (suc k) in
    let p = passed _ _ _ card_wrong length_wrong without_kind _ b e in
    let card = both_true (cid_good (has 0x08 c) rest) (agrees agreed (cid_of (has 0x08 c) rest)) p.2 in
    let back = cid_back (has 0x08 c) rest behind (room (kind_of c) (has 0x08 c) (length rest) p.1) card.0 in
    let made = by_kind c rest behind back (kind_of c) b (control_back c (small 0) p.0) p.1 p.3 in
    (made.bytes, made.good, ap (agrees agreed) made.card ∙ card.1)
