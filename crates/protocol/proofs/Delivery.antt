-- A block's frame at an awake card: it is read as that block, and never taken for a PPS.
use Rattle.std.proofs.Common.{◌≡◌, ℕ, ◌+◌, ◌*◌, ◌<◌, ◌≤◌, Bool, true, false, cond, eqb, List, [], ◌∷◌, ◌++◌, length, refl, ap, ◌∙◌, arith}
use Rattle.std.proofs.lemmas.Bool.{ne_eqb}
use Rattle.activation.specs.Pps.{read_pps, no_pps}
use Rattle.applications.specs.App.{App}
use Rattle.frames.specs.Blocks.{Block, i_block, r_block, deselect, wait, weigh, follows, bytes_of, frame_of, cid_bytes, i_control, r_control, deselect_control, wait_control}
use Rattle.frames.specs.Check.{opened, open_frame}
use Rattle.frames.specs.Laws.{Takes}
use Rattle.frames.specs.Reading.{read_frame}
use Rattle.frames.specs.Sizes.{size_of}
use Rattle.protocol.specs.Card.{Awake, awake, takes, card_agreed, on_block, on_reading, on_pps, pps_in}
use Rattle.protocol.specs.Settings.{CardSettings}
use Rattle.protocol.proofs.Rests.{Laws}

pub weigh_le : (w : ℕ) (b : Bool) → weigh w b ≤ w
weigh_le w true = omega arith
weigh_le w false = omega arith

-- only D and the card number begin a PPS
no_pps_lem : (n c : ℕ) (rest : List ℕ) → eqb c (0xD0 + n) ≡ false → read_pps n (c ∷ rest) ≡ no_pps
no_pps_lem n c [] e = refl
no_pps_lem n c (a ∷ []) e = refl
no_pps_lem n c (a ∷ b ∷ []) e = rw e
no_pps_lem n c (a ∷ b ∷ x ∷ more) e = refl

pub pps_none : (n : ℕ) → n < 15 → (b : Block) → read_pps n (bytes_of b) ≡ no_pps
pps_none n h (i_block c m a info) =
    no_pps_lem n (i_control c (follows a) m) (cid_bytes a ++ info)
    (ne_eqb _ _ (λ e. omega (arith, weigh_le 0x10 c, weigh_le 0x08 (follows a), weigh_le 0x01 m)))
pps_none n h (r_block k m a) =
    no_pps_lem n (r_control k (follows a) m) (cid_bytes a)
    (ne_eqb _ _ (λ e. omega (arith, weigh_le 0x10 k, weigh_le 0x08 (follows a), weigh_le 0x01 m)))
pps_none n h (deselect a) =
    no_pps_lem n (deselect_control (follows a)) (cid_bytes a) (ne_eqb _ _ (λ e. omega (arith, weigh_le 0x08 (follows a))))
pps_none n h (wait m p a) = no_pps_lem n (wait_control (follows a)) (cid_bytes a ++ ((64 * p + m) ∷ [])) (ne_eqb _ _ (λ e. omega arith))

pub bytes_pos : (b : Block) → 0 < length (bytes_of b)
bytes_pos (i_block c m a info) = omega arith
bytes_pos (r_block k m a) = omega arith
bytes_pos (deselect a) = omega arith
bytes_pos (wait m p a) = omega arith

module _ (laws : Laws) {S : Type 0} (app : App S) (cs : CardSettings) where
  opens_block : (agreed : _) (b : Block) → Takes (size_of cs.fsci) agreed b → open_frame (size_of cs.fsci) (frame_of b) ≡ opened (bytes_of b)
  opens_block agreed b t = laws.opens (size_of cs.fsci) (bytes_of b) (bytes_pos b) t.1

  no_pps_in : (w : Awake) (b : Block) (win : Bool) → w.cid < 15 → cond win (read_pps w.cid (bytes_of b)) no_pps ≡ no_pps
  no_pps_in w b true h = pps_none w.cid h b
  no_pps_in w b false h = refl

  -- an awake card takes a block that it can take for that block
  pub takes_block : (w : Awake) (s : S) (b : Block) → w.cid < 15 → Takes (size_of cs.fsci) (card_agreed cs w.cid) b → takes app cs (awake w) s (frame_of b) ≡ on_block app w s b
  takes_block w s b h t =
      ap (λ o. on_pps cs w s (pps_in cs w o) (on_reading app w s (read_frame (size_of cs.fsci) (card_agreed cs w.cid) (frame_of b)))) (opens_block (card_agreed cs w.cid) b t)
      ∙ (ap (λ q. on_pps cs w s q (on_reading app w s (read_frame (size_of cs.fsci) (card_agreed cs w.cid) (frame_of b)))) (no_pps_in w b w.window h)
      ∙ ap (λ r. on_reading app w s r) (laws.reads (size_of cs.fsci) (card_agreed cs w.cid) b t))
