-- What can be heard of the card.
use Rattle.protocol.specs.Card.{Reply, quiet, reply}
use Rattle.protocol.specs.Reader.{Event, bytes, no_bytes}
use Rattle.pair.specs.Fronts.{front_of}
use Rattle.pair.specs.declared.air.Air.{Air}

abbrev pub reply_seen : Air → Reply
reply_seen a = front_of a.reply a.bytes

-- a reply as what is heard
abbrev pub event_in : Reply → Event
event_in quiet = no_bytes
event_in (reply f) = bytes f
