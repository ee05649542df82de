-- What the reader makes of what it hears: the card's last block, or nothing good, and then the turn was bad.
use Rattle.std.proofs.Common.{◌≡◌, ℕ, true, ◌⊎◌, List, sym, refl, subst, ⊎_elim, arith}
use Rattle.frames.specs.Blocks.{Block, bytes_of, frame_of}
use Rattle.frames.specs.Causes.{Cause}
use Rattle.frames.specs.Laws.{Noise, Takes}
use Rattle.frames.specs.Reading.{Agreed, Reading, valid, invalid, read_frame}
use Rattle.protocol.specs.Card.{Reply, quiet, reply}
use Rattle.protocol.specs.Field.{Fate, whole}
use Rattle.protocol.specs.Reader.{Event, bytes, no_bytes, read_as}
use Rattle.protocol.specs.Turns.{Turn, is_bad}
use Rattle.protocol.proofs.Delivery.{bytes_pos}
use Rattle.protocol.proofs.Naming.{bytes_apart}
use Rattle.protocol.proofs.Phases.{Missed, by_loss, by_spoiling, Echo, sounds, misses}
use Rattle.protocol.proofs.Rests.{Laws}

-- bytes come only if they are the reply, or noise
abbrev pub CanHear : Reply → Event → Type 0
CanHear a (bytes f) = (a ≡ reply f) ⊎ Noise f
CanHear a no_bytes = Unit {0}

abbrev pub turn : List ℕ → Fate → Reply → Event → Turn
turn f fate a e = record { frame = f; fate = fate; sent = a; event = e }

-- an event that is no block of the card's: silence, or noise
abbrev pub NoGood : Event → Type 0
NoGood (bytes g) = Noise g
NoGood no_bytes = Unit {0}

-- nothing good was heard, and the turn was bad; or the block that the card sent was, after a whole frame
pub data Heard (b : Block) (f : List ℕ) : Fate → Reply → Event → Reading → Type 0 where
  amiss : {fate : Fate} {a : Reply} {e : Event} (c : Cause) → NoGood e → is_bad (turn f fate a e) ≡ true → Heard b f fate a e (invalid c)
  well : Heard b f whole (reply (frame_of b)) (bytes (frame_of b)) (valid b)

pub quiet-reply : (f : List ℕ) → quiet ≡ reply f → ⊥
quiet-reply f e = let z : ◌≡◌ {A = ℕ} 0 1 = cc in omega arith

pub reply_inj : (f g : List ℕ) → reply f ≡ reply g → f ≡ g
reply_inj f g e = cc

module _ (laws : Laws) (limit : ℕ) (agreed : Agreed) where
  -- noise reads as invalid
  pub noise_invalid : (g : List ℕ) → Noise g → (c : Cause) × (read_frame limit agreed g ≡ invalid c)
  noise_invalid g n = go (read_frame limit agreed g) refl
    where
      go : (r : Reading) → read_frame limit agreed g ≡ r → (c : Cause) × (read_frame limit agreed g ≡ invalid c)
      go (valid d) e = absurd (laws.never limit agreed g d n e)
      go (invalid c) e = (c, e)

  missed_bad : (f : List ℕ) {fate : Fate} {a : Reply} (e : Event) → Missed fate a → is_bad (turn f fate a e) ≡ true
  missed_bad f e by_loss = refl
  missed_bad f e by_spoiling = refl

  pub hear_nothing : (b : Block) (f : List ℕ) {fate : Fate} {a : Reply} → Missed fate a → (e : Event) → CanHear a e → Heard b f fate a e (read_as limit agreed e)
  hear_nothing b f {fate} {a} m no_bytes can = amiss _ tt (missed_bad f no_bytes m)
  hear_nothing b f {fate} {a} m (bytes g) can =
      let n : Noise g = ⊎_elim (λ e. absurd (no_reply m e)) (λ n. n) can in
      let h = noise_invalid g n in
      rw h.1 (amiss h.0 n (missed_bad f (bytes g) m))
    where
      no_reply : {fate : Fate} {a : Reply} → Missed fate a → a ≡ reply g → ⊥
      no_reply by_loss e = quiet-reply g e
      no_reply by_spoiling e = quiet-reply g e

  noise_bad : (b : Block) (f g : List ℕ) → Noise g → is_bad (turn f whole (reply (frame_of b)) (bytes g)) ≡ true
  noise_bad b f g n = rw (bytes_apart g (frame_of b) (λ e. n (bytes_of b) (bytes_pos b) (sym e)))

  pub hear_echo : (b : Block) (f : List ℕ) {fate : Fate} {a : Reply} → Takes limit agreed b → Echo b fate a → (e : Event) → CanHear a e → Heard b f fate a e (read_as limit agreed e)
  hear_echo b f t (misses m) e can = hear_nothing b f m e can
  hear_echo b f t sounds no_bytes can = amiss _ tt refl
  hear_echo b f t sounds (bytes g) can = ⊎_elim of_reply of_noise can
    where
      of_reply : reply (frame_of b) ≡ reply g → Heard b f whole (reply (frame_of b)) (bytes g) (read_frame limit agreed g)
      of_reply e =
          subst (λ (h : List ℕ). Heard b f whole (reply (frame_of b)) (bytes h) (read_frame limit agreed h)) (reply_inj (frame_of b) g e)
          (rw (laws.reads limit agreed b t) well)

      of_noise : Noise g → Heard b f whole (reply (frame_of b)) (bytes g) (read_frame limit agreed g)
      of_noise n = let h = noise_invalid g n in rw h.1 (amiss h.0 n (noise_bad b f g n))
