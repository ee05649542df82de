-- The counts of an exchange, as one more frame is written.
use Rattle.std.proofs.Common.{◌≡◌, ℕ, ◌+◌, ◌*◌, ◌<◌, ◌≤◌, Bool, true, false, cond, not, List, ◌∷◌, length, sym, ap, ◌∙◌, subst, add-mul, arith}
use Rattle.frames.specs.Blocks.{frame_of}
use Rattle.frames.specs.Check.{both}
use Rattle.protocol.specs.Field.{Setup}
use Rattle.protocol.specs.Reader.{Exchange, Totals, totalled}
use Rattle.protocol.specs.Turns.{is_nak, same_bytes, Turn, frames_of, is_wait, is_fresh, tally, counted, last_fresh, badness, bad_since, blocks_for}
use Rattle.protocol.proofs.Basics.{both_false}
use Rattle.protocol.proofs.Naming.{bytes_same}
use Rattle.protocol.proofs.Phases.{Count, one_if, fresh_block, room_to, room_from, answer_left}

-- a frame that is a repeat, a wait or fresh, in the tally and for the last fresh frame
module _ (f g : List ℕ) (fs : List (List ℕ)) where
  tally_repeat : is_wait f ≡ false → is_fresh f (g ∷ fs) ≡ false → tally (f ∷ g ∷ fs) ≡ totalled (tally (g ∷ fs)).fresh ((tally (g ∷ fs)).repeats + 1) (tally (g ∷ fs)).waits
  tally_repeat w n = ap (λ b. counted b (is_fresh f (g ∷ fs)) (tally (g ∷ fs))) w ∙ ap (λ b. counted false b (tally (g ∷ fs))) n

  tally_wait : is_wait f ≡ true → tally (f ∷ g ∷ fs) ≡ totalled (tally (g ∷ fs)).fresh (tally (g ∷ fs)).repeats ((tally (g ∷ fs)).waits + 1)
  tally_wait w = ap (λ b. counted b (is_fresh f (g ∷ fs)) (tally (g ∷ fs))) w

  tally-fresh : is_wait f ≡ false → is_fresh f (g ∷ fs) ≡ true → tally (f ∷ g ∷ fs) ≡ totalled ((tally (g ∷ fs)).fresh + 1) (tally (g ∷ fs)).repeats (tally (g ∷ fs)).waits
  tally-fresh w n = ap (λ b. counted b (is_fresh f (g ∷ fs)) (tally (g ∷ fs))) w ∙ ap (λ b. counted false b (tally (g ∷ fs))) n

  last_kept : is_fresh f (g ∷ fs) ≡ false → last_fresh (f ∷ g ∷ fs) ≡ last_fresh (g ∷ fs)
  last_kept n = ap (λ b. cond b f (last_fresh (g ∷ fs))) n

  last_new : is_fresh f (g ∷ fs) ≡ true → last_fresh (f ∷ g ∷ fs) ≡ f
  last_new n = ap (λ b. cond b f (last_fresh (g ∷ fs))) n

  -- what makes a frame fresh or not, behind others
  pub stale_same : f ≡ last_fresh (g ∷ fs) → is_fresh f (g ∷ fs) ≡ false
  stale_same e =
      let b : same_bytes f (last_fresh (g ∷ fs)) ≡ true = subst (λ (h : List ℕ). same_bytes f h ≡ true) e (bytes_same f) in
      ap (λ k. both (not (is_wait f)) (both (not (is_nak f)) (not k))) b
      ∙ (ap (both (not (is_wait f))) (both_false (not (is_nak f))) ∙ both_false (not (is_wait f)))

  pub stale_nak : is_nak f ≡ true → is_fresh f (g ∷ fs) ≡ false
  stale_nak e =
      ap (λ k. both (not (is_wait f)) (both (not k) (not (same_bytes f (last_fresh (g ∷ fs)))))) e
      ∙ both_false (not (is_wait f))

  pub stale_wait : is_wait f ≡ true → is_fresh f (g ∷ fs) ≡ false
  stale_wait e = ap (λ k. both (not k) (both (not (is_nak f)) (not (same_bytes f (last_fresh (g ∷ fs)))))) e

  pub fresh_since : is_wait f ≡ false → is_nak f ≡ false → same_bytes f (last_fresh (g ∷ fs)) ≡ false → is_fresh f (g ∷ fs) ≡ true
  fresh_since w n d =
      ap (λ k. both (not k) (both (not (is_nak f)) (not (same_bytes f (last_fresh (g ∷ fs)))))) w
      ∙ (ap (λ k. both (not k) (not (same_bytes f (last_fresh (g ∷ fs))))) n ∙ ap not d)

module _ {S : Type 0} (u : Setup S) (s₀ : S) where
  -- the bad turns since the last fresh frame, before the turn of the frame that is out
  abbrev pub bad_before : List ℕ → List Turn → ℕ
  bad_before f ts = cond (is_fresh f (frames_of ts)) 0 (bad_since ts)

  module _ (x y : Exchange) (ts : List Turn) (t : Turn) (f : List ℕ) (q r : Bool) (begun : List (List ℕ)) (C : Count u s₀ x ts t.frame q begun) (rest-same : y.rest ≡ x.rest) (answer-same : y.answer ≡ x.answer) where
    -- a repeat
    pub count-repeat :
        y.totals ≡ totalled x.totals.fresh (x.totals.repeats + 1) x.totals.waits
        → y.since ≡ x.since + 1
        → fresh_block u s₀ y ≡ fresh_block u s₀ x
        → is_wait f ≡ false
        → is_fresh f (t.frame ∷ frames_of ts) ≡ false
        → x.since < u.reader.repeats
        → x.since + 1 + one_if r ≤ 2 * (badness t + bad_before t.frame ts)
        → Count u s₀ y (t ∷ ts) f r begun
    count-repeat et es eb nw nf room bads =
        record {
          tallied =
              tally_repeat f t.frame (frames_of ts) nw nf
              ∙ (ap (λ (k : Totals). totalled k.fresh (k.repeats + 1) k.waits) C.tallied ∙ sym et);
          fresh_is = last_kept f t.frame (frames_of ts) nf ∙ (C.fresh_is ∙ ap frame_of (sym eb));
          since_most = rw es (omega arith);
          repeats_most = rw (et, es) (omega (arith, C.repeats_most));
          since_bad = rw (es, nf) bads;
          waits_most = rw et C.waits_most;
          blocks_left = rw (et, rest-same, answer-same) C.blocks_left;
        }

    -- a wait
    pub count-wait :
        y.totals ≡ totalled x.totals.fresh x.totals.repeats (x.totals.waits + 1)
        → y.since ≡ x.since
        → fresh_block u s₀ y ≡ fresh_block u s₀ x
        → is_wait f ≡ true
        → is_fresh f (t.frame ∷ frames_of ts) ≡ false
        → x.totals.waits < u.reader.waits
        → Count u s₀ y (t ∷ ts) f false begun
    count-wait et es eb nw nf room =
        record {
          tallied =
              tally_wait f t.frame (frames_of ts) nw
              ∙ (ap (λ (k : Totals). totalled k.fresh k.repeats (k.waits + 1)) C.tallied ∙ sym et);
          fresh_is = last_kept f t.frame (frames_of ts) nf ∙ (C.fresh_is ∙ ap frame_of (sym eb));
          since_most = rw es C.since_most;
          repeats_most = rw (et, es) C.repeats_most;
          since_bad = rw (es, nf) (let h = C.since_bad in omega arith);
          waits_most = rw et (omega arith);
          blocks_left = rw (et, rest-same, answer-same) C.blocks_left;
        }

  -- a fresh frame takes one of the blocks that were left
  pub count_fresh : (x y : Exchange) (ts : List Turn) (t : Turn) (f : List ℕ) (q : Bool) (begun : List (List ℕ))
      → Count u s₀ x ts t.frame q begun
      → y.totals ≡ totalled (x.totals.fresh + 1) x.totals.repeats x.totals.waits
      → y.since ≡ 0
      → f ≡ frame_of (fresh_block u s₀ y)
      → is_wait f ≡ false
      → is_fresh f (t.frame ∷ frames_of ts) ≡ true
      → 1 + blocks_for (room_to u s₀) (length y.rest) + blocks_for (room_from u s₀) (answer_left u s₀ begun y.answer)
      ≤ blocks_for (room_to u s₀) (length x.rest) + blocks_for (room_from u s₀) (answer_left u s₀ begun x.answer)
      → Count u s₀ y (t ∷ ts) f false begun
  count_fresh x y ts t f q begun C et es ef nw nf fewer =
      record {
        tallied =
            tally-fresh f t.frame (frames_of ts) nw nf
            ∙ (ap (λ (k : Totals). totalled (k.fresh + 1) k.repeats k.waits) C.tallied ∙ sym et);
        fresh_is = last_new f t.frame (frames_of ts) nf ∙ ef;
        since_most = rw es (omega arith);
        repeats_most =
            rw (et, es) (let h = C.repeats_most in let k = C.since_most in let e = add-mul x.totals.fresh 1 u.reader.repeats in omega arith);
        since_bad = rw (es, nf) (omega arith);
        waits_most = rw et C.waits_most;
        blocks_left = rw et (let h = C.blocks_left in omega arith);
      }
