-- A reply at the front of a buffer.
use Rattle.std.specs.Prelude.{ℕ, Bool, true, List, take, Some, None, Option, nat_le}
use Rattle.frames.specs.Sizes.{greatest_frame}
use Rattle.protocol.specs.Card.{Reply, quiet, reply}

-- so many bytes, or nothing
abbrev pub front_of : Option ℕ → List ℕ → Reply
front_of None buffer = quiet
front_of (Some n) buffer = reply (take n buffer)

-- no more than the greatest frame
abbrev pub fits : Option ℕ → Bool
fits None = true
fits (Some n) = nat_le n greatest_frame
