-- The order that the crate's values stand for.
use Rattle.std.specs.Prelude.{◌≡◌, ℕ, ⊤, Ok, Err, vec_items, Result}
use Rattle.script.specs.SetupViews.{values_seen}
use Rattle.text.specs.declared.error.ReadError.{ReadError}
use Rattle.text.specs.declared.error.ReadError.TheVariants as reads
use Rattle.sweeping.specs.declared.order.Order as held
use Rattle.sweeping.specs.declared.order.OrderError.{OrderError}
use Rattle.sweeping.specs.declared.order.OrderError.TheVariants.{Line, OutOfMemory}
use Rattle.sweeping.specs.Orders.{Order, Reading, ready, bad}

abbrev pub order_seen : held.Order → Order
order_seen o = record { values = values_seen o.values; command = vec_items o.command; losses = o.losses }

-- what a line does not give, by the number of the line
abbrev pub error_at : ℕ → ReadError → OrderError
error_at n reads.Unreadable = Line n
error_at n (reads.OutOfMemory e) = OutOfMemory e

-- an order is read, or the line is told that cannot be, as the definition has it; unless memory is refused
abbrev pub ReadsOrder : Reading → Result held.Order OrderError → Type 0
ReadsOrder due (Ok o) = ready (order_seen o) ≡ due
ReadsOrder due (Err (Line n)) = bad n ≡ due
ReadsOrder due (Err (OutOfMemory e)) = ⊤
