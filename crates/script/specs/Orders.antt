-- The calls that the crate's values stand for.
use Rattle.std.specs.Prelude.{vec_items}
use Rattle.pair.specs.Pairs.{fate_seen}
use Rattle.script.specs.declared.call.Order as coded
use Rattle.script.specs.declared.call.Order.TheVariants.{Begin, Hear, Mute, Spoil, Close}
use Rattle.script.specs.declared.call.Entry as held
use Rattle.script.specs.declared.call.Entry.TheVariants.{Call, Stop}
use Rattle.script.specs.Calls.{Order, begin, hear, mute, spoil, close, Entry, call, stop}

abbrev pub order_seen : coded.Order → Order
order_seen (Begin command) = begin (vec_items command)
order_seen Hear = hear
order_seen Mute = mute
order_seen Spoil = spoil
order_seen Close = close

abbrev pub entry_seen : held.Entry → Entry
entry_seen (Call order going) = call (order_seen order) (fate_seen going)
entry_seen Stop = stop
