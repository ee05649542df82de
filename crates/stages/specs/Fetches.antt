-- What fetch has to show.
use Rattle.std.specs.Prelude.{◌≡◌, ℕ, ◌≤◌, cond, List, length, take, Ok, Err, Result, nat_lt}
use Rattle.applications.specs.App.{longest_answer}
use Rattle.exchange.specs.Moves.{buffer_after}
use Rattle.frames.specs.Refusals.{buffer_refused}
use Rattle.frames.specs.Refused.{refusal_number}
use Rattle.frames.specs.declared.refusal.Refusal.{Refusal}
use Rattle.protocol.specs.Reader.{Reader, Outcome, refused, fetched, do_call, fetch}
use Rattle.protocol.specs.Settings.{ReaderSettings}

-- the outcome of a fetch, with the buffer after it
abbrev pub fetch_seen : Result ℕ Refusal → List ℕ → Outcome
fetch_seen (Ok n) buffer = fetched (take n buffer)
fetch_seen (Err why) buffer = refused (refusal_number why)

-- the length that a fetch tells
abbrev pub fetch_told : Result ℕ Refusal → ℕ
fetch_told (Ok n) = n
fetch_told (Err why) = 0

-- an answer goes to the front of a buffer that holds the longest
abbrev pub fetching : List ℕ → ℕ → Outcome
fetching answer room = cond (nat_lt room longest_answer) (refused buffer_refused) (fetched answer)

pub record Copies (answer : List ℕ) (r : Result ℕ Refusal) (old new : List ℕ) : Type 0 where
  pub outcome : fetch_seen r new ≡ fetching answer (length old)
  pub buffer : new ≡ buffer_after (fetching answer (length old)) old
  pub within : fetch_told r ≤ length new

-- a session that is fetched from stays as it is, and answers as the model's does
pub record Fetches (s : ReaderSettings) (r : Reader) (got : Result ℕ Refusal) (old new : List ℕ) : Type 0 where
  pub move : record { reader = r; outcome = fetch_seen got new } ≡ do_call s r (fetch (length old))
  pub buffer : new ≡ buffer_after (do_call s r (fetch (length old))).outcome old
  pub within : fetch_told got ≤ length new
