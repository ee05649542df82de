-- An ATS that wakes a reader has no more historical bytes than a store for answers holds.
use Rattle.std.proofs.Common.{◌≡◌, ℕ, ◌+◌, ◌≤◌, Bool, true, false, cond, not, ltb, leb, List, ◌++◌, length, refl, ap, ◌∙◌, arith, length-append}
use Rattle.activation.specs.Ats.{Ats, AtsRead, good, bad, read_ats_opened}
use Rattle.activation.specs.Pps.{greatest_rate, offered, is_pps_answer, pps_answer_wrong}
use Rattle.activation.proofs.Whole.{good_is_whole}
use Rattle.applications.specs.App.{longest_answer}
use Rattle.frames.specs.Blocks.{Block, i_block, r_block, deselect, wait}
use Rattle.frames.specs.Causes.{Cause}
use Rattle.frames.specs.Check.{both, Opened, opened, unopened, open_frame}
use Rattle.frames.specs.Reading.{Reading, valid, invalid}
use Rattle.frames.specs.Sizes.{size_of, greatest_frame}
use Rattle.protocol.specs.Reader.{Move, Link, Exchange, on_invalid, on_ack, on_equal, on_other, more, on_information, on_block, on_reading, same, on_ats, on_pps_answer, on_pps, on_deselect, Event, bytes, no_bytes, ats_in, open_in, read_as, agreed_of, is_deselect, Stage, unwoken, asking, woken, rating, failed, idle, busy, ended, closing, closed, Reader, hear, guarded, Call, ask, rate, start, begin, heard, silent, give_up, close, fetch, do_call, is_at, listens, may_close, asks, is_command}
use Rattle.protocol.specs.Settings.{ReaderSettings}
use Rattle.pair.specs.Answers.{Short}

abbrev pub ShortMove : Move → Type 0
ShortMove m = Short m.outcome

pick : (b : Bool) (m n : Move) → ShortMove m → ShortMove n → ShortMove (cond b m n)
pick true m n x y = x
pick false m n x y = y

-- in an exchange nothing wakes
module _ (repeats waits : ℕ) (l : Link) (x : Exchange) where
  at_invalid : (c : Cause) → ShortMove (on_invalid repeats waits l x c)
  at_invalid c = pick (ltb x.since repeats) _ _ tt tt

  at_ack : (equal : Bool) → ShortMove (on_ack repeats waits l x equal)
  at_ack true = equals (more x.rest)
    where
      equals : (b : Bool) → ShortMove (on_equal repeats waits l x b)
      equals true = tt
      equals false = tt
  at_ack false = others (more x.answer)
    where
      others : (b : Bool) → ShortMove (on_other repeats waits l x b)
      others true = tt
      others false = pick (ltb x.since repeats) _ _ tt tt

  at_information : (fits chaining : Bool) (info : List ℕ) → ShortMove (on_information repeats waits l x fits chaining info)
  at_information true true info = pick (leb (length (x.answer ++ info)) longest_answer) _ _ tt tt
  at_information true false info = pick (leb (length (x.answer ++ info)) longest_answer) _ _ tt tt
  at_information false chaining info = tt

  at_block : (b : Block) → ShortMove (on_block repeats waits l x b)
  at_block (i_block chaining n a info) = at_information (both (same n x.number) (not (more x.rest))) chaining info
  at_block (r_block true n a) = tt
  at_block (r_block false n a) = at_ack (same n x.number)
  at_block (deselect a) = tt
  at_block (wait m p a) = pick (ltb x.totals.waits waits) _ _ tt tt

  at_reading : (r : Reading) → ShortMove (on_reading repeats waits l x r)
  at_reading (valid b) = at_block b
  at_reading (invalid c) = at_invalid c

-- an ATS within a frame is short
short_ats : (fsd : ℕ) (o : Opened) (a : Ats) → fsd ≤ greatest_frame → read_ats_opened fsd o ≡ good a → length a.historical ≤ 258
short_ats fsd (opened body) a small e =
    let w = good_is_whole fsd body a e in
    let split : length body ≡ length w.ends.0 + length a.historical = ap length w.ends.1 ∙ length-append w.ends.0 a.historical in
    omega (arith, split, w.held, small)
short_ats fsd (unopened why) a small e = absurd (clash e)
  where
    clash : {why : Cause} {a : Ats} → bad why ≡ good a → ⊥
    clash e = let z : ◌≡◌ {A = ℕ} 0 1 = cc in omega arith

module _ (s : ReaderSettings) (small : size_of s.fsdi ≤ greatest_frame) where
  at_ats : (l : Link) (x : Exchange) (e : Event) (r : AtsRead) → ats_in (size_of s.fsdi) e ≡ r → ShortMove (on_ats s l x r)
  at_ats l x (bytes f) (good a) is = short_ats (size_of s.fsdi) (open_frame (size_of s.fsdi) f) a small is
  at_ats l x no_bytes (good a) is = absurd (clash is)
    where
      clash : {why : Cause} {a : Ats} → bad why ≡ good a → ⊥
      clash e = let z : ◌≡◌ {A = ℕ} 0 1 = cc in omega arith
  at_ats l x e (bad c) is = pick (ltb x.since s.repeats) _ _ tt tt

  at_pps : (dsi dri : ℕ) (l : Link) (x : Exchange) (good : Bool) (c : Cause) → ShortMove (on_pps_answer s dsi dri l x good c)
  at_pps dsi dri l x true c = tt
  at_pps dsi dri l x false c = pick (ltb x.since s.repeats) _ _ tt tt

  at_opened : (dsi dri : ℕ) (l : Link) (x : Exchange) (o : Opened) → ShortMove (on_pps s dsi dri l x o)
  at_opened dsi dri l x (opened body) = at_pps dsi dri l x (is_pps_answer s.cid body) pps_answer_wrong
  at_opened dsi dri l x (unopened c) = at_pps dsi dri l x false c

  at_deselect_lem : (l : Link) (x : Exchange) (good : Bool) → ShortMove (on_deselect s l x good)
  at_deselect_lem l x true = tt
  at_deselect_lem l x false = pick (ltb x.since s.repeats) _ _ tt tt

  at_event : (st : Stage) (r : Reader) (e : Event) → ShortMove (hear s st r e)
  at_event unwoken r e = tt
  at_event asking r e = at_ats r.link r.exchange e (ats_in (size_of s.fsdi) e) refl
  at_event woken r e = tt
  at_event (rating dsi dri) r e = at_opened dsi dri r.link r.exchange (open_in (size_of s.fsdi) e)
  at_event failed r e = tt
  at_event idle r e = tt
  at_event busy r e =
      at_reading s.repeats s.waits r.link r.exchange (read_as (size_of s.fsdi) (agreed_of r.link.cid) e)
  at_event ended r e = tt
  at_event closing r e =
      at_deselect_lem r.link r.exchange (is_deselect (read_as (size_of s.fsdi) (agreed_of r.link.cid) e))
  at_event closed r e = tt

  held : (b : Bool) (room least : ℕ) (r : Reader) (m : Move) → ShortMove m → ShortMove (guarded b room least r m)
  held true room least r m x = pick (ltb room least) _ _ tt x
  held false room least r m x = tt

  -- whatever is called
  pub short_call : (r : Reader) (c : Call) → ShortMove (do_call s r c)
  short_call r (ask room) = held (is_at unwoken r) room greatest_frame r (asks s r) tt
  short_call r (rate dsi dri room) =
      pick (both (leb dsi greatest_rate) (leb dri greatest_rate)) _ _
      (held (is_at woken r) room greatest_frame r _ (pick (offered r.link.ta dsi dri) _ _ tt tt)) tt
  short_call r start = pick (is_at woken r) _ _ tt tt
  short_call r (begin command room) =
      held (is_at idle r) room greatest_frame r _ (pick (is_command command) _ _ tt tt)
  short_call r (heard f room) = held (listens r) room greatest_frame r _ (at_event r.stage r (bytes f))
  short_call r (silent room) = held (listens r) room greatest_frame r _ (at_event r.stage r no_bytes)
  short_call r give_up = pick (is_at busy r) _ _ tt tt
  short_call r (close room) = held (may_close r) room greatest_frame r _ tt
  short_call r (fetch room) = held (not (is_at closed r)) room longest_answer r _ tt
