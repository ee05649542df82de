-- An open exchange goes on with an R sent for silence or noise.
use Rattle.std.proofs.Common.{◌≡◌, ℕ, ◌+◌, ◌<◌, ◌≤◌, Bool, true, false, cond, not, List, ◌∷◌, sym, refl, ap, ◌∙◌, arith}
use Rattle.frames.specs.Blocks.{i_block, r_block, frame_of}
use Rattle.frames.specs.Causes.{Cause}
use Rattle.protocol.specs.Card.{Awake, Reply, quiet, shut}
use Rattle.protocol.specs.Field.{Setup, Fate, whole, lost, spoilt}
use Rattle.protocol.specs.Reader.{Exchange, more, repeated, ask_again}
use Rattle.protocol.specs.Turns.{Turn, frames_of, is_fresh, is_bad, badness}
use Rattle.protocol.proofs.Counting.{count-repeat, stale_same, stale_nak}
use Rattle.protocol.proofs.Naming.{wait_r, nak_is}
use Rattle.protocol.proofs.Phases.{by_loss, by_spoiling, misses, missing, cid, link_at, unheard, Phase, behind, part_taken, waiting, answering, ack_missed, Count}
use Rattle.protocol.proofs.Rests.{Laws}

pub missing_most : (fate : Fate) → missing fate ≤ 1
missing_most whole = omega arith
missing_most lost = omega arith
missing_most spoilt = omega arith

pub bad_one : (t : Turn) → is_bad t ≡ true → badness t ≡ 1
bad_one t e = ap (λ b. cond b 1 0) e

module _ {S : Type 0} (u : Setup S) (s₀ : S) (dsi dri : ℕ) where
  -- the R does not arrive whole: the phase stays
  pub keeps_lost : {x : Exchange} {w : Awake} {a : Reply} {fate : Fate} {q : Bool} {bad : ℕ} {begun given : List (List ℕ)} (c : Cause) (more-bad : ℕ)
      → more-bad ≡ 1
      → Phase u s₀ dsi dri x w a fate q bad begun given
      → Phase u s₀ dsi dri (repeated c x) w quiet lost true (more-bad + bad) begun given
  keeps_lost c n e (behind cut ok lo hi b) = behind cut ok lo hi (unheard by_loss)
  keeps_lost c n e (part_taken cut ok mr ec) = part_taken cut ok mr (misses by_loss)
  keeps_lost c n e (waiting {fate = v} ok nr lo one₁ top few ec) =
      waiting ok nr lo one₁ top (let h = missing_most v in omega arith) (misses by_loss)
  keeps_lost c n e (answering ahead ok nr cut pos ec) = answering ahead ok nr cut pos (misses by_loss)
  keeps_lost c n e (ack_missed ok nr cut pos ma m) = ack_missed ok nr cut pos ma by_loss

  pub keeps_spoilt : {x : Exchange} {w : Awake} {a : Reply} {fate : Fate} {q : Bool} {bad : ℕ} {begun given : List (List ℕ)} (c : Cause) (more-bad : ℕ)
      → more-bad ≡ 1
      → Phase u s₀ dsi dri x w a fate q bad begun given
      → Phase u s₀ dsi dri (repeated c x) (shut w) quiet spoilt true (more-bad + bad) begun given
  keeps_spoilt c n e (behind cut ok lo hi b) = behind cut ok lo hi (unheard by_spoiling)
  keeps_spoilt c n e (part_taken cut ok mr ec) = part_taken cut ok mr (misses by_spoiling)
  keeps_spoilt c n e (waiting {fate = v} ok nr lo one₁ top few ec) =
      waiting ok nr lo one₁ top (let h = missing_most v in omega arith) (misses by_spoiling)
  keeps_spoilt c n e (answering ahead ok nr cut pos ec) = answering ahead ok nr cut pos (misses by_spoiling)
  keeps_spoilt c n e (ack_missed ok nr cut pos ma m) = ack_missed ok nr cut pos ma by_spoiling

module _ (laws : Laws) {S : Type 0} (u : Setup S) (s₀ : S) where
  -- the R is no fresh frame
  again_stale : (dsi dri : ℕ) (x : Exchange) (ts : List Turn) (f : List ℕ) (q : Bool) (begun : List (List ℕ)) → Count u s₀ x ts f q begun → is_fresh (frame_of (ask_again (link_at u s₀ dsi dri) x)) (f ∷ frames_of ts) ≡ false
  again_stale dsi dri x ts f q begun C = go (more x.answer) refl
    where
      go : (b : Bool) → more x.answer ≡ b → is_fresh (frame_of (r_block (not b) x.number (cid u s₀))) (f ∷ frames_of ts) ≡ false
      go true e =
          stale_same (frame_of (r_block false x.number (cid u s₀))) f (frames_of ts)
          (ap (λ b. frame_of (cond b (r_block false x.number (cid u s₀)) (i_block (more x.rest) x.number (cid u s₀) x.part))) (sym e) ∙ sym C.fresh_is)
      go false e =
          stale_nak (frame_of (r_block true x.number (cid u s₀))) f (frames_of ts) (nak_is laws true x.number (cid u s₀))

  pub again_count : (dsi dri : ℕ) (x : Exchange) (ts : List Turn) (t : Turn) (q : Bool) (begun : List (List ℕ)) (c : Cause)
      → Count u s₀ x ts t.frame q begun
      → is_bad t ≡ true
      → x.since < u.reader.repeats
      → Count u s₀ (repeated c x) (t ∷ ts) (frame_of (ask_again (link_at u s₀ dsi dri) x)) true begun
  again_count dsi dri x ts t q begun c C bad room =
      count-repeat u s₀ x (repeated c x) ts t (frame_of (ask_again (link_at u s₀ dsi dri) x)) q true begun C refl refl refl refl refl
      (wait_r laws (not (more x.answer)) x.number (cid u s₀)) (again_stale dsi dri x ts t.frame q begun C) room
      (let e = bad_one t bad in let h = C.since_bad in omega arith)
