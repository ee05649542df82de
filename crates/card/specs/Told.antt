-- What the card's calls tell of the model's moves.
use Rattle.std.specs.Prelude.{◌≡◌, ℕ, Bool, true, false, cond, List, length, Some, None, Option, is_some}
use Rattle.activation.specs.Ats.{ats_of}
use Rattle.activation.specs.Pps.{PpsRead, pps, no_pps, offered, pps_answer}
use Rattle.buffers.specs.Over.{over}
use Rattle.frames.specs.Blocks.{deselect, frame_of}
use Rattle.frames.specs.Check.{seal}
use Rattle.frames.specs.Views.{cid_seen}
use Rattle.protocol.specs.Card.{Awake, Card, asleep, awake, halted, Sent, unsent, sent, Reply, quiet, reply, Given, not_given, given, CardMove, remains}
use Rattle.protocol.specs.Settings.{CardSettings, ats_for}
use Rattle.card.specs.declared.awake.AwakeCard.{AwakeCard}
use Rattle.card.specs.declared.taken.Sends.{Sends}
use Rattle.card.specs.declared.taken.Sends.TheVariants.{Ats, PpsResponse, LastBlock, Deselect}
use Rattle.card.specs.declared.taken.Taken.{Taken}
use Rattle.card.specs.Held.{awake_of}

-- the last block's frame, if there is one
abbrev pub again : Sent → Reply
again unsent = quiet
again (sent b) = reply (frame_of b)

-- a PPS counts if the card offers its rates
abbrev pub chosen : CardSettings → PpsRead → PpsRead
chosen set (pps dsi dri) = cond (offered set.ta dsi dri) (pps dsi dri) no_pps
chosen set no_pps = no_pps

-- the number and the last block of an awake card; others have none
abbrev pub cid_held : Card → ℕ
cid_held asleep = 0
cid_held (awake w) = w.cid
cid_held halted = 0

abbrev pub last_held : Card → Sent
last_held asleep = unsent
last_held (awake w) = w.last
last_held halted = unsent

-- what is sent, as a reply
abbrev pub reply_for : CardSettings → Card → Option Sends → Reply
reply_for set c None = quiet
reply_for set c (Some Ats) = reply (seal (ats_of (ats_for set)))
reply_for set c (Some PpsResponse) = reply (seal (pps_answer (cid_held c)))
reply_for set c (Some LastBlock) = again (last_held c)
reply_for set c (Some (Deselect card)) = reply (frame_of (deselect (cid_seen card)))

-- the answer to a deselect is the last frame of all
abbrev pub ends : Option Sends → Bool
ends None = false
ends (Some Ats) = false
ends (Some PpsResponse) = false
ends (Some LastBlock) = false
ends (Some (Deselect card)) = true

-- an awake card after it sent this
abbrev pub card_after : Option Sends → Awake → Card
card_after sends w = cond (ends sends) halted (awake w)

-- what is told of a move: the card, its application's state, what is sent back, and whether a command was given
pub record Told (S : Type 0) : Type 0 where
  pub card : Card
  pub state : S
  pub answer : Reply
  pub given : Bool

abbrev pub was_given : Given → Bool
was_given not_given = false
was_given (given command) = true

abbrev pub told_of : {S : Type 0} → CardMove S → Told S
told_of m = record { card = m.card; state = m.state; answer = m.answer; given = was_given m.command }

-- what is told of a card, its application's state, and what it does
abbrev pub tells : {S : Type 0} → CardSettings → Card → S → Taken → Told S
tells set c s t = record { card = c; state = s; answer = reply_for set c t.sends; given = t.given }

-- an awake card speaks only to send its last block
abbrev pub SendsLast : Option Sends → Type 0
SendsLast sends = sends ≡ cond (is_some sends) (Some LastBlock) None

abbrev pub spoken : Awake → Option Sends → Reply
spoken w sends = cond (is_some sends) (again w.last) quiet

-- an awake card makes this move, in which its application has no part
pub record Steps (w : AwakeCard) (sends : Option Sends) (m : CardMove (Unit {0})) : Type 0 where
  pub moves : remains (awake (awake_of w)) tt (spoken (awake_of w) sends) ≡ m
  pub last : SendsLast sends

-- the same with its application in this state
pub record Tells {S : Type 0} (w : AwakeCard) (s : S) (t : Taken) (m : CardMove S) : Type 0 where
  pub told : ◌≡◌ {A = Told S} (record { card = awake (awake_of w); state = s; answer = spoken (awake_of w) t.sends; given = t.given }) (told_of m)
  pub last : SendsLast t.sends

-- the length of a reply, if there is one
abbrev pub reply_length : Reply → Option ℕ
reply_length quiet = None
reply_length (reply f) = Some (length f)

-- the reply stands at the front of the buffer, and the bytes behind it are as they were
abbrev pub replied : Reply → List ℕ → List ℕ
replied quiet old = old
replied (reply f) old = over f old
