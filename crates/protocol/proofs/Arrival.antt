-- A frame of the reader at the card of its session.
use Rattle.std.proofs.Common.{◌≡◌, ℕ, ◌<◌, ◌≤◌, Bool, cond, List, length, ap, ◌∙◌}
use Rattle.frames.specs.Blocks.{Block, i_block, r_block, deselect, wait, frame_of}
use Rattle.frames.specs.Laws.{Takes}
use Rattle.frames.specs.Sizes.{size_of}
use Rattle.protocol.specs.Card.{not_given, garbled, Awake, awake, CardMove, Owed, Sent, quiet, card_agreed, on_block, takes}
use Rattle.protocol.specs.Field.{Setup, world, Crossing, crossing, arrives, taken, Fate, whole, noted}
use Rattle.protocol.specs.Reader.{Reader, Stage, Exchange, at, Event, Outcome}
use Rattle.protocol.specs.Turns.{log_of, turn_of, out_in}
use Rattle.protocol.proofs.Basics.{eqb_self}
use Rattle.protocol.proofs.Delivery.{takes_block}
use Rattle.protocol.proofs.Ends.{takes_r, takes_wait, takes_i_lem, takes_deselect}
use Rattle.protocol.proofs.Ground.{Ground}
use Rattle.protocol.proofs.Past.{Past}
use Rattle.protocol.proofs.Phases.{cid, room_to, link_at, up}
use Rattle.protocol.proofs.Rests.{Laws}

-- the past after an event of an open exchange that was answered so, and a frame that crossed so
abbrev pub past_at : {S : Type 0} → Past S → Event → Outcome → Fate → Crossing S → Past S
past_at p e o fate x =
    record {
      now = x.after;
      begun = p.begun;
      given = noted x.command p.given;
      log = log_of (turn_of p.log.waiting p.now.answer e p.log.turns) (out_in o fate);
    }

abbrev pub crossed : {S : Type 0} → Reader → CardMove S → Crossing S
crossed r m = crossing (world r m.card m.state m.answer) m.command

module _ (laws : Laws) {S : Type 0} (u : Setup S) (s₀ : S) (G : Ground u.reader u.card) where
  abbrev pub ToCard : Block → Type 0
  ToCard b = Takes (size_of u.card.fsci) (card_agreed u.card u.reader.cid) b

  pub to_r : (nak n : Bool) → ToCard (r_block nak n (cid u s₀))
  to_r nak n =
      takes_r laws u.card u.reader.cid (cid u s₀) G.fitting (size_of u.card.fsci) G.fsc_least
      (card_agreed u.card u.reader.cid) G.fitting.card_agrees nak n

  pub to_deselect : ToCard (deselect (cid u s₀))
  to_deselect =
      takes_deselect laws u.card u.reader.cid (cid u s₀) G.fitting (size_of u.card.fsci) G.fsc_least
      (card_agreed u.card u.reader.cid) G.fitting.card_agrees

  pub to_wait : (m : ℕ) → 1 ≤ m → m ≤ 59 → ToCard (wait m 0 (cid u s₀))
  to_wait m lo hi =
      takes_wait laws u.card u.reader.cid (cid u s₀) G.fitting (size_of u.card.fsci) G.fsc_least
      (card_agreed u.card u.reader.cid) G.fitting.card_agrees m lo hi

  pub to_i : (c n : Bool) (p : List ℕ) → 0 < length p → length p ≤ room_to u s₀ → ToCard (i_block c n (cid u s₀) p)
  to_i c n p lo hi =
      takes_i_lem laws u.card u.reader.cid (cid u s₀) G.fitting (size_of u.card.fsci) G.fsc_least
      (card_agreed u.card u.reader.cid) G.fitting.card_agrees c n p lo hi

  -- a whole frame is taken for its block, and the reply can be heard
  pub arrive_whole : (st : Stage) (x : Exchange) (win : Bool) (dsi dri : ℕ) (m : Bool) (g : List ℕ) (o : Owed) (l : Sent) (s : S) (b : Block)
      → ToCard b
      → arrives u (at st (link_at u s₀ dsi dri) x) (awake (up u s₀ win dsi dri m g o l)) s (frame_of b) whole
      ≡ crossed (at st (link_at u s₀ dsi dri) x) (on_block u.app (up u s₀ win dsi dri m g o l) s b)
  arrive_whole st x win dsi dri m g o l s b t =
      let r : Reader = at st (link_at u s₀ dsi dri) x in
      let w : Awake = up u s₀ win dsi dri m g o l in
      let e = eqb_self dri in
      let d = eqb_self dsi in
      ap (λ k. cond k (taken r (awake w) (takes u.app u.card (awake w) s (frame_of b))) (crossing (world r (garbled (awake w)) s quiet) not_given)) e
      ∙ (ap (λ (v : CardMove S). taken r (awake w) v) (takes_block laws u.app u.card w s b G.number_most t)
      ∙ ap (λ k. crossing (world r (on_block u.app w s b).card (on_block u.app w s b).state (cond k (on_block u.app w s b).answer quiet)) (on_block u.app w s b).command) d)
