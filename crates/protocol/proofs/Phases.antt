-- An open exchange is in one of five phases.
use Rattle.std.proofs.Common.{◌≡◌, ℕ, ◌+◌, ◌-◌, ◌*◌, ◌<◌, ◌≤◌, Bool, true, false, cond, not, List, [], ◌∷◌, ◌++◌, length}
use Rattle.applications.specs.App.{IsCommand}
use Rattle.frames.specs.Blocks.{Block, i_block, r_block, wait, Cid, frame_of}
use Rattle.frames.specs.Causes.{Cause}
use Rattle.frames.specs.Sizes.{size_of}
use Rattle.protocol.specs.Card.{Awake, awake, Owed, owes_nothing, owes_waits, owes_rest, Sent, sent, Reply, quiet, reply, owed_after, answer_block}
use Rattle.protocol.specs.Field.{Setup, world, Fate, whole, lost, spoilt, moved}
use Rattle.protocol.specs.Reader.{Link, Exchange, running, totalled, more, at, busy}
use Rattle.protocol.specs.Settings.{room_of}
use Rattle.protocol.specs.Turns.{Turn, log_of, out, frames_of, tally, last_fresh, is_fresh, bad_since, bad_turns, blocks_for}
use Rattle.protocol.proofs.Ends.{cid_for}
use Rattle.protocol.proofs.Past.{Past}

-- the frame that went out did not arrive whole, and there is nothing to hear
pub data Missed : Fate → Reply → Type 0 where
  by_loss : Missed lost quiet
  by_spoiling : Missed spoilt quiet

-- the card's last block can be heard, if the frame that went out arrived whole
pub data Echo (b : Block) : Fate → Reply → Type 0 where
  sounds : Echo b whole (reply (frame_of b))
  misses : {fate : Fate} {r : Reply} → Missed fate r → Echo b fate r

-- one if a frame did not arrive whole
abbrev pub missing : Fate → ℕ
missing whole = 0
missing lost = 1
missing spoilt = 1

abbrev pub one_if : Bool → ℕ
one_if b = cond b 1 0

abbrev pub ex : Bool → List ℕ → List ℕ → List ℕ → ℕ → ℕ → ℕ → ℕ → Cause → ℕ → Bool → Exchange
ex n p r a fresh repeats waits since why stretch came =
    record {
      progress = running;
      number = n;
      part = p;
      rest = r;
      answer = a;
      totals = totalled fresh repeats waits;
      since = since;
      why = why;
      stretch = stretch;
      other = false;
      came = came;
    }

module _ {S : Type 0} (u : Setup S) (s₀ : S) where
  -- the card number in the session's blocks
  abbrev pub cid : Cid
  cid = cid_for u.card.supports u.reader.cid

  -- how much a block to the card has room for, and one from the card
  abbrev pub room_to : ℕ
  room_to = room_of (size_of u.card.fsci) cid

  abbrev pub room_from : ℕ
  room_from = room_of (size_of u.reader.fsdi) cid

  abbrev pub link_at : ℕ → ℕ → Link
  link_at dsi dri =
      record {
        fsc = size_of u.card.fsci;
        fwi = u.card.fwi;
        ta = u.card.ta;
        cid = cid;
        dsi = dsi;
        dri = dri;
      }

  abbrev pub up : Bool → ℕ → ℕ → Bool → List ℕ → Owed → Sent → Awake
  up win dsi dri m g o l =
      record {
        fsdi = u.reader.fsdi;
        cid = u.reader.cid;
        window = win;
        dsi = dsi;
        dri = dri;
        number = m;
        gathered = g;
        owes = o;
        last = l;
      }

  abbrev pub answer_to : List ℕ → List (List ℕ) → List ℕ
  answer_to c cs = u.app.answer (moved u.app s₀ cs) c

  abbrev pub waits_for : List ℕ → List (List ℕ) → ℕ
  waits_for c cs = u.app.waits (moved u.app s₀ cs) c

  abbrev pub ack_of : Bool → Block
  ack_of m = r_block false m cid

  -- the card is behind: nothing to hear, or its R(ACK) to an R(NAK)
  pub data Behind (m : Bool) : Bool → Fate → Reply → Type 0 where
    unheard : {q : Bool} {fate : Fate} {a : Reply} → Missed fate a → Behind m q fate a
    acked : Behind m true whole (reply (frame_of (ack_of m)))

  -- The phases, by the exchange, the card, what can be heard, the fate of the frame that is out, whether that frame is an R
  -- sent for silence or noise, the bad turns so far, and the commands begun and given.
  pub data Phase (dsi dri : ℕ) : Exchange → Awake → Reply → Fate → Bool → ℕ → List (List ℕ) → List (List ℕ) → Type 0 where
    -- the card has not taken the part that is out
    behind : {win m : Bool} {g p r : List ℕ} {l : Sent} {fr rp i st : ℕ} {y : Cause} {a : Reply} {fate : Fate} {q : Bool} {bad : ℕ} {c : List ℕ} {cs : List (List ℕ)}
        → g ++ (p ++ r) ≡ c
        → IsCommand c
        → 0 < length p
        → length p ≤ room_to
        → Behind m q fate a
        → Phase dsi dri (ex (not m) p r [] fr rp 0 i y st false) (up win dsi dri m g owes_nothing l) a fate q bad (c ∷ cs) cs
    -- the card has taken the part, and there is more of the command
    part_taken : {win m : Bool} {g p r : List ℕ} {fr rp i st : ℕ} {y : Cause} {a : Reply} {fate : Fate} {q : Bool} {bad : ℕ} {c : List ℕ} {cs : List (List ℕ)}
        → g ++ r ≡ c
        → IsCommand c
        → more r ≡ true
        → Echo (ack_of m) fate a
        → Phase dsi dri (ex m p r [] fr rp 0 i y st false) (up win dsi dri m g owes_nothing (sent (ack_of m))) a fate q bad (c ∷ cs) cs
    -- the command was given, and the card asks for a wait
    waiting : {win m : Bool} {p r : List ℕ} {fr rp wt i st k mu : ℕ} {y : Cause} {came : Bool} {a : Reply} {fate : Fate} {q : Bool} {bad : ℕ} {c : List ℕ} {cs : List (List ℕ)}
        → IsCommand c
        → more r ≡ false
        → 1 ≤ k
        → 1 ≤ mu
        → mu ≤ 59
        → wt + k ≤ waits_for c cs + bad + missing fate
        → Echo (wait mu 0 cid) fate a
        → Phase dsi dri (ex m p r [] fr rp wt i y st came) (up win dsi dri m [] (owes_waits k mu (answer_to c cs)) (sent (wait mu 0 cid))) a fate q bad (c ∷ cs) (c ∷ cs)
    -- the card's answer block is out
    answering : {win m : Bool} {p r ga : List ℕ} {fr rp wt i st : ℕ} {y : Cause} {came : Bool} {a : Reply} {fate : Fate} {q : Bool} {bad : ℕ} {c : List ℕ} {cs : List (List ℕ)}
        → (ahead : List ℕ)
        → IsCommand c
        → more r ≡ false
        → ga ++ ahead ≡ answer_to c cs
        → 0 < length ahead
        → Echo (answer_block room_from m cid ahead) fate a
        → Phase dsi dri (ex m p r ga fr rp wt i y st came) (up win dsi dri m [] (owed_after room_from ahead) (sent (answer_block room_from m cid ahead))) a fate q bad (c ∷ cs) (c ∷ cs)
    -- the reader's acknowledgement has not reached the card
    ack_missed : {win m : Bool} {p r ga ahead : List ℕ} {l : Sent} {fr rp wt i st : ℕ} {y : Cause} {a : Reply} {fate : Fate} {q : Bool} {bad : ℕ} {c : List ℕ} {cs : List (List ℕ)}
        → IsCommand c
        → more r ≡ false
        → ga ++ ahead ≡ answer_to c cs
        → 0 < length ahead
        → more ga ≡ true
        → Missed fate a
        → Phase dsi dri (ex (not m) p r ga fr rp wt i y st true) (up win dsi dri m [] (owes_rest ahead) l) a fate q bad (c ∷ cs) (c ∷ cs)

  -- the block of the last fresh frame
  abbrev pub fresh_block : Exchange → Block
  fresh_block x = cond (more x.answer) (r_block false x.number cid) (i_block (more x.rest) x.number cid x.part)

  -- the blocks of the latest command and its answer
  abbrev pub blocks_in : List (List ℕ) → ℕ
  blocks_in [] = 0
  blocks_in (c ∷ cs) = blocks_for room_to (length c) + blocks_for room_from (length (answer_to c cs))

  abbrev pub answer_left : List (List ℕ) → List ℕ → ℕ
  answer_left [] a = 0
  answer_left (c ∷ cs) a = length (answer_to c cs) - length a

  -- the counts of an open exchange: its turns are over, and the frame f is out
  pub record Count (x : Exchange) (ts : List Turn) (f : List ℕ) (q : Bool) (begun : List (List ℕ)) : Type 0 where
    pub tallied : tally (f ∷ frames_of ts) ≡ x.totals
    pub fresh_is : last_fresh (f ∷ frames_of ts) ≡ frame_of (fresh_block x)
    pub since_most : x.since ≤ u.reader.repeats
    pub repeats_most : x.totals.repeats + u.reader.repeats ≤ x.totals.fresh * u.reader.repeats + x.since
    pub since_bad : x.since + one_if q ≤ 2 * cond (is_fresh f (frames_of ts)) 0 (bad_since ts)
    pub waits_most : x.totals.waits ≤ u.reader.waits
    pub blocks_left : x.totals.fresh + blocks_for room_to (length x.rest) + blocks_for room_from (answer_left begun x.answer) ≤ blocks_in begun

  pub data BusyInv : Past S → Type 0 where
    in_phase : {dsi dri : ℕ} {x : Exchange} {w : Awake} {a : Reply} {fate : Fate} {q : Bool} {ts : List Turn} {f : List ℕ} {begun given : List (List ℕ)}
        → Phase dsi dri x w a fate q (bad_turns ts) begun given
        → Count x ts f q begun
        → BusyInv (record {
          now = world (at busy (link_at dsi dri) x) (awake w) (moved u.app s₀ given) a;
          begun = begun;
          given = given;
          log = log_of ts (out f fate);
        })
