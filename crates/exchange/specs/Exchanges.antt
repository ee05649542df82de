-- What an exchange stands for.
use Rattle.std.specs.Prelude.{ℕ, take, drop}
use Rattle.buffers.specs.Stores.{held}
use Rattle.protocol.specs.Reader.{Exchange}
use Rattle.protocol.specs.Settings.{room_of}
use Rattle.exchange.specs.declared.exchange.Exchange as coded
use Rattle.exchange.specs.declared.link.Link as held
use Rattle.exchange.specs.Links.{link_seen}
use Rattle.exchange.specs.Views.{progress_seen, totals_seen, why_seen}

-- how much information a block over this link carries at most
abbrev pub room_for : held.Link → ℕ
room_for l = room_of (link_seen l).fsc (link_seen l).cid

-- The part in the last block begins at a place of the command, and the rest stands behind it.
abbrev pub exchange_seen : coded.Exchange → Exchange
exchange_seen x =
    record {
      progress = progress_seen x.progress;
      number = x.number;
      part = take (room_for x.link) (drop x.from (held x.command));
      rest = drop (room_for x.link) (drop x.from (held x.command));
      answer = held x.answer;
      totals = totals_seen x.totals;
      since = x.since;
      why = why_seen x.why;
      stretch = x.stretch;
      other = x.other;
      came = x.came;
    }
