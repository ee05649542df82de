-- Waking a card: what holds while the reader asks, and while it chooses rates.
use Rattle.std.proofs.Common.{◌≡◌, ℕ, zero, suc, ◌+◌, ◌*◌, ◌<◌, ◌≤◌, Bool, true, false, cond, List, [], ◌∷◌, length, sym, refl, ap, ◌∙◌, arith, lit≤}
use Rattle.activation.specs.Ats.{good, hear_ats, read_ats_opened, ats_of}
use Rattle.activation.specs.Pps.{PpsRead, no_pps, pps_of, pps_answer, read_pps, offered, greatest_rate}
use Rattle.activation.specs.Rats.{RatsRead, rats_of}
use Rattle.applications.specs.App.{App}
use Rattle.frames.specs.Blocks.{numbered, without}
use Rattle.frames.specs.Causes.{Cause, without_kind}
use Rattle.frames.specs.Check.{seal, Opened, opened, unopened, open_frame}
use Rattle.frames.specs.Laws.{Noise}
use Rattle.frames.specs.Reading.{Agreed, Reading, invalid, read_frame, read_opened, kind_of, has, no_kind}
use Rattle.frames.specs.Sizes.{size_of}
use Rattle.protocol.specs.Card.{Awake, asleep, awake, quiet, reply, takes, remains, on_rats, rats_in, on_pps, pps_in, on_reading, shut, woken, changed, card_agreed}
use Rattle.protocol.specs.Field.{Setup}
use Rattle.protocol.specs.Reader.{link_of}
use Rattle.protocol.specs.Settings.{CardSettings, ats_for}
use Rattle.protocol.proofs.Ends.{cid_for}
use Rattle.protocol.proofs.Ground.{Ground}
use Rattle.protocol.proofs.Phases.{link_at}
use Rattle.protocol.proofs.Rests.{Laws}

-- no block begins with D
kind_d : (n : ℕ) → n < 15 → kind_of (0xD0 + n) ≡ no_kind
kind_d zero h = refl
kind_d (suc zero) h = refl
kind_d (suc (suc zero)) h = refl
kind_d (suc (suc (suc zero))) h = refl
kind_d (suc (suc (suc (suc zero)))) h = refl
kind_d (suc (suc (suc (suc (suc zero))))) h = refl
kind_d (suc (suc (suc (suc (suc (suc zero)))))) h = refl
kind_d (suc (suc (suc (suc (suc (suc (suc zero))))))) h = refl
kind_d (suc (suc (suc (suc (suc (suc (suc (suc zero)))))))) h = refl
kind_d (suc (suc (suc (suc (suc (suc (suc (suc (suc zero))))))))) h = refl
kind_d (suc (suc (suc (suc (suc (suc (suc (suc (suc (suc zero)))))))))) h = refl
kind_d (suc (suc (suc (suc (suc (suc (suc (suc (suc (suc (suc zero))))))))))) h = refl
kind_d (suc (suc (suc (suc (suc (suc (suc (suc (suc (suc (suc (suc zero)))))))))))) h = refl
kind_d (suc (suc (suc (suc (suc (suc (suc (suc (suc (suc (suc (suc (suc zero))))))))))))) h = refl
kind_d (suc (suc (suc (suc (suc (suc (suc (suc (suc (suc (suc (suc (suc (suc zero)))))))))))))) h = refl
kind_d (suc (suc (suc (suc (suc (suc (suc (suc (suc (suc (suc (suc (suc (suc (suc n))))))))))))))) h = absurd (omega arith)

module _ (laws : Laws) where
  -- noise does not open
  pub noise_unopened : (limit : ℕ) (g : List ℕ) → Noise g → (c : Cause) × (open_frame limit g ≡ unopened c)
  noise_unopened limit g n = go (open_frame limit g) refl
    where
      go : (o : Opened) → open_frame limit g ≡ o → (c : Cause) × (open_frame limit g ≡ unopened c)
      go (opened body) e = let h = laws.sealed limit g body e in absurd (n body h.1 (sym h.0))
      go (unopened c) e = (c, e)

  -- a frame is read as its body is
  pub read_opened_lem : (limit : ℕ) (agreed : Agreed) (f : List ℕ) (o : Opened) → open_frame limit f ≡ o → read_frame limit agreed f ≡ read_opened agreed o
  unfolding read_frame
  read_opened_lem limit agreed f o e = ap (read_opened agreed) e

  module _ {S : Type 0} (app : App S) (cs : CardSettings) (big : 16 ≤ size_of cs.fsci) where
    short_opens : (body : List ℕ) → 0 < length body → length body ≤ 3 → open_frame (size_of cs.fsci) (seal body) ≡ opened body
    short_opens body lo hi = laws.opens (size_of cs.fsci) body lo (let e = laws.two_more body in omega arith)

    -- a sleeping card wakes at RATS
    pub rats_wakes : (fsdi n : ℕ) (s : S) → fsdi ≤ 8 → n < 15 → takes app cs asleep s (seal (rats_of fsdi n)) ≡ remains (awake (woken fsdi n)) s (reply (seal (ats_of (ats_for cs))))
    rats_wakes fsdi n s lo hi =
        ap (λ (o : Opened). on_rats cs s (rats_in o)) (short_opens (rats_of fsdi n) (lit≤ tt) (lit≤ tt))
        ∙ ap (λ (r : RatsRead). on_rats cs s r) (laws.rats fsdi n lo hi)

    no_pps_two : (win : Bool) (n a b : ℕ) → cond win (read_pps n (a ∷ b ∷ [])) no_pps ≡ no_pps
    no_pps_two true n a b = refl
    no_pps_two false n a b = refl

    -- what is neither a PPS that is awaited nor a block only closes the window
    ignores : (w : Awake) (s : S) (body : List ℕ) → 0 < length body → length body ≤ 3 → pps_in cs w (opened body) ≡ no_pps → read_opened (card_agreed cs w.cid) (opened body) ≡ invalid without_kind → takes app cs (awake w) s (seal body) ≡ remains (awake (shut w)) s quiet
    ignores w s body lo hi np nb =
        ap (λ (o : Opened). on_pps cs w s (pps_in cs w o) (on_reading app w s (read_frame (size_of cs.fsci) (card_agreed cs w.cid) (seal body)))) (short_opens body lo hi)
        ∙ (ap (λ (q : PpsRead). on_pps cs w s q (on_reading app w s (read_frame (size_of cs.fsci) (card_agreed cs w.cid) (seal body)))) np
        ∙ ap (λ (r : Reading). on_reading app w s r)
        (read_opened_lem (size_of cs.fsci) (card_agreed cs w.cid) (seal body) (opened body) (short_opens body lo hi) ∙ nb))

    -- an awake card does not answer RATS
    pub rats_ignored : (w : Awake) (s : S) (fsdi n : ℕ) → takes app cs (awake w) s (seal (rats_of fsdi n)) ≡ remains (awake (shut w)) s quiet
    rats_ignored w s fsdi n =
        ignores w s (rats_of fsdi n) (lit≤ tt) (lit≤ tt) (no_pps_two w.window w.cid 0xE0 (16 * fsdi + n)) refl

    -- once the window is closed, nor a PPS
    pub pps_ignored : (w : Awake) (s : S) (n dsi dri : ℕ) → n < 15 → w.window ≡ false → takes app cs (awake w) s (seal (pps_of n dsi dri)) ≡ remains (awake (shut w)) s quiet
    pps_ignored w s n dsi dri h shut-is =
        ignores w s (pps_of n dsi dri) (lit≤ tt) (lit≤ tt) (rw shut-is) (rw (kind_d n h))

    -- while it is open, a PPS that is offered is answered
    pub pps_taken : (w : Awake) (s : S) (dsi dri : ℕ) → dsi ≤ greatest_rate → dri ≤ greatest_rate → w.window ≡ true → offered cs.ta dsi dri ≡ true → takes app cs (awake w) s (seal (pps_of w.cid dsi dri)) ≡ remains (awake (changed w dsi dri)) s (reply (seal (pps_answer w.cid)))
    pps_taken w s dsi dri lo hi win ok =
        ap (λ (o : Opened). on_pps cs w s (pps_in cs w o) (on_reading app w s (read_frame (size_of cs.fsci) (card_agreed cs w.cid) (seal (pps_of w.cid dsi dri))))) (short_opens (pps_of w.cid dsi dri) (lit≤ tt) (lit≤ tt))
        ∙ (ap (λ (b : Bool). on_pps cs w s (cond b (read_pps w.cid (pps_of w.cid dsi dri)) no_pps) (on_reading app w s (read_frame (size_of cs.fsci) (card_agreed cs w.cid) (seal (pps_of w.cid dsi dri))))) win
        ∙ (ap (λ (q : PpsRead). on_pps cs w s q (on_reading app w s (read_frame (size_of cs.fsci) (card_agreed cs w.cid) (seal (pps_of w.cid dsi dri))))) (laws.pps w.cid dsi dri lo hi)
        ∙ ap (λ (b : Bool). cond b (remains (awake (changed w dsi dri)) s (reply (seal (pps_answer w.cid)))) (on_reading app w s (read_frame (size_of cs.fsci) (card_agreed cs w.cid) (seal (pps_of w.cid dsi dri))))) ok))

  module _ {S : Type 0} (u : Setup S) (s₀ : S) (G : Ground u.reader u.card) where
    -- the reader hears the card's ATS for what it says
    pub ats_heard : hear_ats (size_of u.reader.fsdi) (seal (ats_of (ats_for u.card))) ≡ good (ats_for u.card)
    ats_heard =
        ap (read_ats_opened (size_of u.reader.fsdi))
        (laws.opens (size_of u.reader.fsdi) (ats_of (ats_for u.card)) (omega arith)
        (let e = laws.two_more (ats_of (ats_for u.card)) in let h = G.few_historical in let b = G.fsd_least in omega arith))
        ∙ laws.ats (size_of u.reader.fsdi) (ats_for u.card) G.ats_good
        (let h = G.few_historical in let b = G.fsd_least in omega arith)

    supports_as_set : (b : Bool) → cond (has 0x02 (cond b 0x02 0x00)) (numbered u.reader.cid 0) without ≡ cid_for b u.reader.cid
    supports_as_set true = refl
    supports_as_set false = refl

    -- and holds the card's parameters
    pub link_is : link_of u.reader (ats_for u.card) ≡ link_at u s₀ 0 0
    link_is =
        λ i. record {
          fsc = size_of u.card.fsci;
          fwi = u.card.fwi;
          ta = u.card.ta;
          cid = supports_as_set u.card.supports i;
          dsi = 0;
          dri = 0;
        }

    pub pps_heard : open_frame (size_of u.reader.fsdi) (seal (pps_answer u.reader.cid)) ≡ opened (pps_answer u.reader.cid)
    pps_heard =
        laws.opens (size_of u.reader.fsdi) (pps_answer u.reader.cid) (lit≤ tt)
        (let e = laws.two_more (pps_answer u.reader.cid) in let b = G.fsd_least in omega arith)
