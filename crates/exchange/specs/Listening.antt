-- What the reader hears, and what it reads it as.
use Rattle.std.specs.Prelude.{ℕ, List, Some, None, Ok, Err, Option, Result}
use Rattle.std.specs.Borrow.{Bor}
use Rattle.frames.specs.Reading.{Reading, valid, invalid}
use Rattle.frames.specs.Views.{block_seen}
use Rattle.frames.specs.declared.block.Block.{Block}
use Rattle.protocol.specs.Reader.{Event, bytes, no_bytes}
use Rattle.exchange.specs.declared.fault.SessionFault.{SessionFault}
use Rattle.exchange.specs.Faults.{session_cause}

-- bytes, or silence
abbrev pub event_seen : Option (Bor (List ℕ)) → Event
event_seen (Some frame) = bytes frame.now
event_seen None = no_bytes

-- a block that was read, or a fault
abbrev pub reading_seen : Result Block SessionFault → Reading
reading_seen (Ok block) = valid (block_seen block)
reading_seen (Err why) = invalid (session_cause why)
