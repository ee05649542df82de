-- The model's card that the code's values stand for.
use Rattle.std.specs.Prelude.{ℕ, Bool, false, List, Some, None, Option, take, drop, nat_le}
use Rattle.buffers.specs.Stores.{held}
use Rattle.frames.specs.Blocks.{i_block, r_block, wait}
use Rattle.frames.specs.Check.{both}
use Rattle.frames.specs.Views.{cid_seen}
use Rattle.protocol.specs.Card as model
use Rattle.protocol.specs.Card.{Awake, Card, asleep, awake, halted, Sent, unsent, sent, owes_nothing, owes_waits, owes_rest}
use Rattle.protocol.specs.Settings as range
use Rattle.protocol.specs.Settings.{card_in_range}
use Rattle.card.specs.declared.awake.AwakeCard.{AwakeCard}
use Rattle.card.specs.declared.last.LastBlock.{LastBlock}
use Rattle.card.specs.declared.last.LastBlock.TheVariants.{Acknowledged, Waiting, Part}
use Rattle.card.specs.declared.last.Owed.{Owed}
use Rattle.card.specs.declared.last.Owed.TheVariants.{Waits, Rest}
use Rattle.card.specs.declared.settings.CardSettings.{CardSettings}
use Rattle.card.specs.declared.state.CardState.{CardState}
use Rattle.card.specs.declared.state.CardState.TheVariants as states

-- the settings; the historical bytes are as many as are counted
abbrev pub settings_of : CardSettings → range.CardSettings
settings_of s =
    record {
      fsci = s.fsci;
      fwi = s.fwi;
      sfgi = s.sfgi;
      ta = s.ta;
      historical = take s.historical_len s.historical;
      supports = s.supports;
    }

-- every setting is in its range, and no more historical bytes are counted than there can be
abbrev pub settings_good : CardSettings → Bool
settings_good s = both (nat_le s.historical_len 9) (card_in_range (settings_of s))

-- what is owed, over the application's answer
abbrev pub owed_of : Option Owed → List ℕ → model.Owed
owed_of None answer = owes_nothing
owed_of (Some (Waits left multiplier)) answer = owes_waits left multiplier answer
owed_of (Some (Rest from)) answer = owes_rest (drop from answer)

-- the blocks that a card sends have power level 00
abbrev pub last_of : Option LastBlock → List ℕ → Sent
last_of None answer = unsent
last_of (Some (Acknowledged number card)) answer = sent (r_block false number (cid_seen card))
last_of (Some (Waiting multiplier card)) answer = sent (wait multiplier 0 (cid_seen card))
last_of (Some (Part chaining number card from room)) answer =
    sent (i_block chaining number (cid_seen card) (take room (drop from answer)))

abbrev pub awake_of : AwakeCard → Awake
awake_of w =
    record {
      fsdi = w.fsdi;
      cid = w.cid;
      window = w.window;
      dsi = w.dsi;
      dri = w.dri;
      number = w.number;
      gathered = held w.gathered;
      owes = owed_of w.owes (held w.answer);
      last = last_of w.last (held w.answer);
    }

abbrev pub card_of : CardState → Card
card_of states.Asleep = asleep
card_of (states.Awake w) = awake (awake_of w)
card_of states.Halted = halted

-- the awake card, if it is one
abbrev pub awake_in : CardState → Option AwakeCard
awake_in states.Asleep = None
awake_in (states.Awake w) = Some w
awake_in states.Halted = None
