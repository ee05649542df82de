-- What holds of a card at all times, so that each of its replies can be written.
use Rattle.std.specs.Prelude.{ℕ, ◌<◌, ◌≤◌, List, Some, None, Option, length}
use Rattle.std.specs.Coded.{×_prop, Unit-prop, le_prop}
use Rattle.applications.specs.App.{longest_answer}
use Rattle.frames.specs.Blocks.{Block, i_block, r_block, deselect, wait, Cid, without, numbered, ValidBlock, ValidCid, bytes_of}
use Rattle.frames.specs.Sizes.{greatest_code, longest_body}
use Rattle.frames.specs.Views.{cid_seen}
use Rattle.protocol.specs.Card.{Awake, Card, asleep, awake, halted, Owed, owes_nothing, owes_waits, owes_rest, Sent, unsent, sent}
use Rattle.card.specs.declared.taken.Sends.{Sends}
use Rattle.card.specs.declared.taken.Sends.TheVariants.{Ats, PpsResponse, LastBlock, Deselect}

-- a block that can be written
abbrev pub FitBlock : Block → Type 0
FitBlock b = ValidBlock b × (length (bytes_of b) ≤ longest_body)

-- one byte or more, and no more than the longest answer
abbrev pub FitAnswer : List ℕ → Type 0
FitAnswer answer = (0 < length answer) × (length answer ≤ longest_answer)

-- multipliers are 1 to 59
abbrev pub FitOwed : Owed → Type 0
FitOwed owes_nothing = Unit {0}
FitOwed (owes_waits left m answer) = FitAnswer answer × (0 < m) × (m < 60)
FitOwed (owes_rest answer) = FitAnswer answer

abbrev pub FitSent : Sent → Type 0
FitSent unsent = Unit {0}
FitSent (sent b) = FitBlock b

pub record Fit (w : Awake) : Type 0 where
  pub size : w.fsdi ≤ greatest_code
  pub card : w.cid < 15
  pub owed : FitOwed w.owes
  pub last : FitSent w.last

abbrev pub FitCard : Card → Type 0
FitCard asleep = Unit {0}
FitCard (awake w) = Fit w
FitCard halted = Unit {0}

-- the answer to a deselect has a card number in its range
abbrev pub FitSends : Option Sends → Type 0
FitSends None = Unit {0}
FitSends (Some Ats) = Unit {0}
FitSends (Some PpsResponse) = Unit {0}
FitSends (Some LastBlock) = Unit {0}
FitSends (Some (Deselect card)) = ValidCid (cid_seen card)

-- Each of these facts has at most one proof, so that a struct may keep it.

cid_prop : (a : Cid) → IsProp (ValidCid a)
cid_prop without = Unit-prop
cid_prop (numbered n p) = ×_prop le_prop le_prop

valid_prop : (b : Block) → IsProp (ValidBlock b)
valid_prop (i_block chaining n a info) = ×_prop (cid_prop a) le_prop
valid_prop (r_block nak n a) = cid_prop a
valid_prop (deselect a) = cid_prop a
valid_prop (wait m p a) = Prim.hlevel (cid_prop, le_prop)

sent_prop : (s : Sent) → IsProp (FitSent s)
sent_prop unsent = Unit-prop
sent_prop (sent b) = ×_prop (valid_prop b) le_prop

owed_prop : (o : Owed) → IsProp (FitOwed o)
owed_prop owes_nothing = Unit-prop
owed_prop (owes_waits left m answer) = Prim.hlevel le_prop
owed_prop (owes_rest answer) = ×_prop le_prop le_prop

awake_prop : (w : Awake) → IsProp (Fit w)
awake_prop w = Prim.hlevel (le_prop, owed_prop, sent_prop)

pub FitCard-prop : (c : Card) → IsProp (FitCard c)
FitCard-prop asleep = Unit-prop
FitCard-prop (awake w) = awake_prop w
FitCard-prop halted = Unit-prop

pub FitSends-prop : (s : Option Sends) → IsProp (FitSends s)
FitSends-prop None = Unit-prop
FitSends-prop (Some Ats) = Unit-prop
FitSends-prop (Some PpsResponse) = Unit-prop
FitSends-prop (Some LastBlock) = Unit-prop
FitSends-prop (Some (Deselect card)) = cid_prop (cid_seen card)
