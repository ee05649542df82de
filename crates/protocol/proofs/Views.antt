-- The reader's state is a function of its view.
use Rattle.std.proofs.Common.{◌≡◌, ℕ, Bool, true, false, cond, not, eqb, ltb, leb, List, [], ◌∷◌, ◌++◌, length, sym, refl, ap, ◌∙◌}
use Rattle.std.proofs.lemmas.Bool.{cond_both, false≢true, true≢false}
use Rattle.activation.specs.Ats.{AtsRead, good, bad}
use Rattle.activation.specs.Pps.{offered, greatest_rate}
use Rattle.applications.specs.App.{longest_answer}
use Rattle.frames.specs.Blocks.{Block, i_block, r_block, deselect, wait}
use Rattle.frames.specs.Causes.{Cause}
use Rattle.frames.specs.Check.{both, Opened, opened, unopened}
use Rattle.frames.specs.Reading.{Reading, valid, invalid}
use Rattle.frames.specs.Refusals.{setting_refused, rate_refused, length_refused, stage_refused, buffer_refused}
use Rattle.frames.specs.Sizes.{size_of, greatest_frame}
use Rattle.protocol.specs.Card.{takes, garbled, quiet, not_given, Card}
use Rattle.protocol.specs.Field.{hears_at, taken, crossing, world, Crossing, Setup, World, Fate, whole, lost, spoilt, Step, crosses, arrives, after, accepted, move_of, Seen, Asked, made, turned_down, seen_of, call_number, view_of}
use Rattle.protocol.specs.Reader.{read_as, agreed_of, Stage, unwoken, asking, woken, rating, failed, idle, busy, ended, closing, closed, Reader, new_reader, Move, Outcome, refused, wrote, wakes, active, answered, over, stopped, off, unanswered, fetched, Call, ask, rate, start, begin, heard, silent, give_up, close, fetch, Event, bytes, no_bytes, is_at, listens, may_close, stage_number, guarded, refuse, hear, do_call, asks, rates, begins, stops, closes, is_command, to, on_ats, on_pps, on_pps_answer, on_deselect, on_reading, on_block, on_information, on_answer, on_ack, on_equal, on_other, Exchange, Link, ats_in, open_in, or_else}
use Rattle.protocol.specs.Settings.{ReaderSettings}

-- a step does not change the reader behind its call's back
arrives-reader : {S : Type 0} (u : Setup S) (r : Reader) (c : Card) (s : S) (f : List ℕ) (fate : Fate) → (arrives u r c s f fate).after.reader ≡ r
arrives-reader {S} u r c s f whole =
    cond_both (eqb r.link.dri (hears_at c)) (taken r c (takes u.app u.card c s f)) (crossing (world r (garbled c) s quiet) not_given)
    (λ (z : Crossing S). z.after.reader ≡ r) (λ e. refl) (λ e. refl)
arrives-reader u r c s f lost = refl
arrives-reader u r c s f spoilt = refl

pub crosses-reader : {S : Type 0} (u : Setup S) (w : World S) (r : Reader) (o : Outcome) (fate : Fate) → (crosses u w r o fate).after.reader ≡ r
crosses-reader u w r (refused n) fate = refl
crosses-reader u w r (wrote f t) fate = arrives-reader u r w.card w.state f fate
crosses-reader u w r (wakes a) fate = refl
crosses-reader u w r active fate = refl
crosses-reader u w r (answered n s t) fate = refl
crosses-reader u w r (over e s t) fate = refl
crosses-reader u w r (stopped s t) fate = refl
crosses-reader u w r off fate = refl
crosses-reader u w r unanswered fate = refl
crosses-reader u w r (fetched a) fate = refl

-- What is heard where it is listened for is never refused.

abbrev Taken : Move → Type 0
Taken m = accepted m.outcome ≡ true

taken_either : (b : Bool) (m n : Move) → Taken m → Taken n → Taken (cond b m n)
taken_either true m n h k = h
taken_either false m n h k = k

module _ (repeats waits : ℕ) (l : Link) (x : Exchange) where
  taken_equal : (b : Bool) → Taken (on_equal repeats waits l x b)
  taken_equal true = refl
  taken_equal false = refl

  taken_other : (b : Bool) → Taken (on_other repeats waits l x b)
  taken_other true = refl
  taken_other false = taken_either (ltb x.since repeats) _ _ refl refl

  taken_ack : (b : Bool) → Taken (on_ack repeats waits l x b)
  taken_ack true = taken_equal _
  taken_ack false = taken_other _

  taken_answer : (b : Bool) (i : List ℕ) → Taken (on_answer repeats waits l x b i)
  taken_answer true i = refl
  taken_answer false i = refl

  taken_information : (b c : Bool) (i : List ℕ) → Taken (on_information repeats waits l x b c i)
  taken_information true c i = taken_either (leb (length (x.answer ++ i)) longest_answer) _ _ (taken_answer c i) refl
  taken_information false c i = refl

  taken_block : (b : Block) → Taken (on_block repeats waits l x b)
  taken_block (i_block c n a i) = taken_information _ c i
  taken_block (r_block true n a) = refl
  taken_block (r_block false n a) = taken_ack _
  taken_block (deselect a) = refl
  taken_block (wait m p a) = taken_either (ltb x.totals.waits waits) _ _ refl refl

  taken_reading : (r : Reading) → Taken (on_reading repeats waits l x r)
  taken_reading (valid b) = taken_block b
  taken_reading (invalid c) = taken_either (ltb x.since repeats) _ _ refl refl

module _ (s : ReaderSettings) where
  taken_ats : (l : Link) (x : Exchange) (r : AtsRead) → Taken (on_ats s l x r)
  taken_ats l x (good a) = refl
  taken_ats l x (bad c) = taken_either (ltb x.since s.repeats) _ _ refl refl

  taken_pps : (dsi dri : ℕ) (l : Link) (x : Exchange) (b : Bool) (c : Cause) → Taken (on_pps_answer s dsi dri l x b c)
  taken_pps dsi dri l x true c = refl
  taken_pps dsi dri l x false c = taken_either (ltb x.since s.repeats) _ _ refl refl

  taken_open : (dsi dri : ℕ) (l : Link) (x : Exchange) (o : Opened) → Taken (on_pps s dsi dri l x o)
  taken_open dsi dri l x (opened b) = taken_pps dsi dri l x _ _
  taken_open dsi dri l x (unopened c) = taken_pps dsi dri l x false c

  taken_deselect : (l : Link) (x : Exchange) (b : Bool) → Taken (on_deselect s l x b)
  taken_deselect l x true = refl
  taken_deselect l x false = taken_either (ltb x.since s.repeats) _ _ refl refl

  abbrev pub listens_at : Stage → Bool
  listens_at st = or_else (eqb (stage_number st) 1) (or_else (eqb (stage_number st) 3) (or_else (eqb (stage_number st) 6) (eqb (stage_number st) 8)))

  pub taken_hear : (st : Stage) (r : Reader) (e : Event) → listens_at st ≡ true → Taken (hear s st r e)
  taken_hear unwoken r e h = absurd (false≢true h)
  taken_hear asking r e h = taken_ats r.link r.exchange (ats_in (size_of s.fsdi) e)
  taken_hear woken r e h = absurd (false≢true h)
  taken_hear (rating a b) r e h = taken_open a b r.link r.exchange (open_in (size_of s.fsdi) e)
  taken_hear failed r e h = absurd (false≢true h)
  taken_hear idle r e h = absurd (false≢true h)
  taken_hear busy r e h = taken_reading s.repeats s.waits r.link r.exchange (read_as (size_of s.fsdi) (agreed_of r.link.cid) e)
  taken_hear ended r e h = absurd (false≢true h)
  taken_hear closing r e h = taken_deselect r.link r.exchange _
  taken_hear closed r e h = absurd (false≢true h)

  -- A refused call leaves the reader.

  abbrev Kept : Reader → Move → Type 0
  Kept r m = accepted m.outcome ≡ false → m.reader ≡ r

  kept_taken : (r : Reader) (m : Move) → Taken m → Kept r m
  kept_taken r m t e = absurd (true≢false (sym t ∙ e))

  kept_guarded : (b : Bool) (room least : ℕ) (r : Reader) (m : Move) → (b ≡ true → Kept r m) → Kept r (guarded b room least r m)
  kept_guarded true room least r m h q = go (ltb room least) q
    where
      go : (b : Bool) → Kept r (cond b (refuse buffer_refused r) m)
      go true e = refl
      go false e = h refl e
  kept_guarded false room least r m h q = refl

  kept_test : (b : Bool) (n : ℕ) (r : Reader) (m : Move) → (b ≡ true → Kept r m) → Kept r (cond b m (refuse n r))
  kept_test true n r m h q = h refl q
  kept_test false n r m h q = refl

  pub kept_call : (r : Reader) (c : Call) → Kept r (do_call s r c)
  kept_call r (ask room) = kept_guarded (is_at unwoken r) room greatest_frame r (asks s r) (λ w. kept_taken r (asks s r) refl)
  kept_call r (rate dsi dri room) =
      kept_test (both (leb dsi greatest_rate) (leb dri greatest_rate)) setting_refused r (guarded (is_at woken r) room greatest_frame r (cond (offered r.link.ta dsi dri) (rates s r dsi dri) (refuse rate_refused r)))
      (λ k.
      kept_guarded (is_at woken r) room greatest_frame r (cond (offered r.link.ta dsi dri) (rates s r dsi dri) (refuse rate_refused r))
      (λ w. kept_test (offered r.link.ta dsi dri) rate_refused r (rates s r dsi dri) (λ o. kept_taken r (rates s r dsi dri) refl)))
  kept_call r start = kept_test (is_at woken r) stage_refused r (to idle r.link r.exchange active) (λ w. kept_taken r (to idle r.link r.exchange active) refl)
  kept_call r (begin c room) =
      kept_guarded (is_at idle r) room greatest_frame r (cond (is_command c) (begins r c) (refuse length_refused r))
      (λ w. kept_test (is_command c) length_refused r (begins r c) (λ o. kept_taken r (begins r c) refl))
  kept_call r (heard f room) =
      kept_guarded (listens r) room greatest_frame r (hear s r.stage r (bytes f))
      (λ w. kept_taken r (hear s r.stage r (bytes f)) (taken_hear r.stage r (bytes f) w))
  kept_call r (silent room) =
      kept_guarded (listens r) room greatest_frame r (hear s r.stage r no_bytes)
      (λ w. kept_taken r (hear s r.stage r no_bytes) (taken_hear r.stage r no_bytes w))
  kept_call r give_up = kept_test (is_at busy r) stage_refused r (stops r) (λ w. kept_taken r (stops r) refl)
  kept_call r (close room) = kept_guarded (may_close r) room greatest_frame r (closes r) (λ w. kept_taken r (closes r) refl)
  kept_call r (fetch room) = kept_guarded (not (is_at closed r)) room longest_answer r (record { reader = r; outcome = fetched r.exchange.answer }) (λ w e. refl)

  -- the reader that saw this
  replayed : Asked → Reader → Reader
  replayed (made c) r = (do_call s r c).reader
  replayed (turned_down n) r = r

  replay : List Seen → Reader
  replay [] = new_reader
  replay (v ∷ vs) = replayed v.asked (replay vs)

module _ {S : Type 0} (u : Setup S) (s₀ : S) where
  replayed_step : (r : Reader) (c : Call) (b : Bool) → accepted (do_call u.reader r c).outcome ≡ b → replayed u.reader (cond b (made c) (turned_down (call_number c))) r ≡ (do_call u.reader r c).reader
  unfolding replayed
  replayed_step r c true e = refl
  replayed_step r c false e = sym (kept_call u.reader r c e)

  replay-run : (run : List Step) → replay u.reader (view_of u s₀ run) ≡ (after u s₀ run).reader
  unfolding replay
  replay-run [] = refl
  replay-run (st ∷ run) =
      ap (replayed u.reader (seen_of st.call (move_of u (after u s₀ run) st.call).outcome).asked) (replay-run run)
      ∙ (replayed_step (after u s₀ run).reader st.call (accepted (move_of u (after u s₀ run) st.call).outcome) refl
      ∙ sym (crosses-reader u (after u s₀ run) (move_of u (after u s₀ run) st.call).reader (move_of u (after u s₀ run) st.call).outcome st.fate))

  -- two runs of one view have the same reader
  pub same_reader : (run other : List Step) → view_of u s₀ other ≡ view_of u s₀ run → (after u s₀ other).reader ≡ (after u s₀ run).reader
  same_reader run other e = sym (replay-run other) ∙ (ap (replay u.reader) e ∙ replay-run run)
