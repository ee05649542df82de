-- The row that the crate's values stand for.
use Rattle.exchange.specs.Views.{says_seen}
use Rattle.sweeping.specs.Rows.{Row}
use Rattle.sweeping.specs.declared.row.Row as held

abbrev pub row_seen : held.Row → Row
row_seen r = record { result = r.result; frames = r.frames; says = says_seen r.says; times = r.times }
