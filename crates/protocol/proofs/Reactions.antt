-- What the card of a session does at each block that its reader sends.
use Rattle.std.proofs.Common.{◌≡◌, ℕ, ◌-◌, ◌≤◌, Bool, true, false, cond, not, List, [], ◌++◌, length, ap, ◌∙◌}
use Rattle.std.proofs.lemmas.Bool.{le-leb}
use Rattle.applications.specs.App.{longest_command}
use Rattle.frames.specs.Blocks.{Block, i_block, r_block, wait, Cid, frame_of}
use Rattle.protocol.specs.Card.{awake, Owed, owes_nothing, owes_waits, owes_rest, Sent, sent, reply, quiet, remains, on_block, on_r, sends, sends_answer, gives, asks_or_answers, answer_cid}
use Rattle.protocol.specs.Field.{Setup}
use Rattle.protocol.proofs.Basics.{same_self, not_same, eqb_self}
use Rattle.protocol.proofs.Ground.{Ground}
use Rattle.protocol.proofs.Phases.{cid, up, ack_of}

module _ {S : Type 0} (u : Setup S) (s₀ : S) (G : Ground u.reader u.card) (win : Bool) (dsi dri : ℕ) (m : Bool) (s : S) where
  kept : answer_cid (cid u s₀) ≡ cid u s₀
  kept = G.fitting.answered

  -- R(NAK) of the other number: R(ACK)
  pub at_nak : (g : List ℕ) (o : Owed) (l : Sent) → on_block u.app (up u s₀ win dsi dri m g o l) s (r_block true (not m) (cid u s₀)) ≡ sends (up u s₀ win dsi dri m g o l) s m g o (ack_of u s₀ m)
  at_nak g o l =
      ap (λ k. on_r (up u s₀ win dsi dri m g o l) s true k (cid u s₀)) (not_same m)
      ∙ ap (λ (a : Cid). sends (up u s₀ win dsi dri m g o l) s m g o (r_block false m a)) kept

  -- R of equal number: the last block again
  pub at_equal : (g : List ℕ) (o : Owed) (b : Block) (nak : Bool) → on_block u.app (up u s₀ win dsi dri m g o (sent b)) s (r_block nak m (cid u s₀)) ≡ remains (awake (up u s₀ false dsi dri m g o (sent b))) s (reply (frame_of b))
  at_equal g o b true = ap (λ k. on_r (up u s₀ win dsi dri m g o (sent b)) s true k (cid u s₀)) (same_self m)
  at_equal g o b false = ap (λ k. on_r (up u s₀ win dsi dri m g o (sent b)) s false k (cid u s₀)) (same_self m)

  -- R(ACK) of the other number: the next block of the answer
  pub at_next : (g : List ℕ) (ahead : List ℕ) (l : Sent) → on_block u.app (up u s₀ win dsi dri m g (owes_rest ahead) l) s (r_block false (not m) (cid u s₀)) ≡ sends_answer (up u s₀ win dsi dri m g (owes_rest ahead) l) s (not m) (cid u s₀) ahead
  at_next g ahead l =
      ap (λ k. on_r (up u s₀ win dsi dri m g (owes_rest ahead) l) s false k (cid u s₀)) (not_same m)
      ∙ ap (λ (a : Cid). sends_answer (up u s₀ win dsi dri m g (owes_rest ahead) l) s (not m) a ahead) kept

  -- I with more to come: R(ACK)
  pub at_chaining : (g p : List ℕ) (l : Sent) (n : Bool) → length (g ++ p) ≤ longest_command → on_block u.app (up u s₀ win dsi dri m g owes_nothing l) s (i_block true n (cid u s₀) p) ≡ sends (up u s₀ win dsi dri m g owes_nothing l) s (not m) (g ++ p) owes_nothing (ack_of u s₀ (not m))
  at_chaining g p l n few =
      ap (λ k. cond k (sends (up u s₀ win dsi dri m g owes_nothing l) s (not m) (g ++ p) owes_nothing (r_block false (not m) (answer_cid (cid u s₀)))) (remains (awake (up u s₀ false dsi dri m g owes_nothing l)) s quiet)) (le-leb _ _ few)
      ∙ ap (λ (a : Cid). sends (up u s₀ win dsi dri m g owes_nothing l) s (not m) (g ++ p) owes_nothing (r_block false (not m) a)) kept

  -- the last I: the application is given the command
  pub at_last : (g p : List ℕ) (l : Sent) (n : Bool) → length (g ++ p) ≤ longest_command → on_block u.app (up u s₀ win dsi dri m g owes_nothing l) s (i_block false n (cid u s₀) p) ≡ gives u.app (up u s₀ win dsi dri m g owes_nothing l) s (not m) (cid u s₀) (g ++ p)
  at_last g p l n few =
      ap (λ k. cond k (gives u.app (up u s₀ win dsi dri m g owes_nothing l) s (not m) (answer_cid (cid u s₀)) (g ++ p)) (remains (awake (up u s₀ false dsi dri m g owes_nothing l)) s quiet)) (le-leb _ _ few)
      ∙ ap (λ (a : Cid). gives u.app (up u s₀ win dsi dri m g owes_nothing l) s (not m) a (g ++ p)) kept

  -- a wait with the multiplier asked for
  pub at_granted : (k mu : ℕ) (answer : List ℕ) (l : Sent) → on_block u.app (up u s₀ win dsi dri m [] (owes_waits k mu answer) l) s (wait mu 0 (cid u s₀)) ≡ asks_or_answers (up u s₀ win dsi dri m [] (owes_waits k mu answer) l) s m (cid u s₀) (k - 1) mu answer
  at_granted k mu answer l =
      ap (λ b. cond b (asks_or_answers (up u s₀ win dsi dri m [] (owes_waits k mu answer) l) s m (answer_cid (cid u s₀)) (k - 1) mu answer) (remains (awake (up u s₀ false dsi dri m [] (owes_waits k mu answer) l)) s quiet)) (eqb_self mu)
      ∙ ap (λ (a : Cid). asks_or_answers (up u s₀ win dsi dri m [] (owes_waits k mu answer) l) s m a (k - 1) mu answer) kept
