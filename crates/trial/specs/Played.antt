-- What playing an entry has to show.
use Rattle.std.specs.Prelude.{◌≡◌, ℕ, Bool, List, [], ◌++◌, is_some, IfOk, Option, Result}
use Rattle.std.specs.declared.alloc.AllocError.{AllocError}
use Rattle.applications.specs.App.{App}
use Rattle.pair.specs.Pairs.{world_seen, setup_seen}
use Rattle.pair.specs.declared.Pair.{Pair}
use Rattle.protocol.specs.Reader.{says}
use Rattle.script.specs.Calls.{Entry}
use Rattle.script.specs.Rows.{row_text}
use Rattle.trial.specs.Outputs.{row_for, world_for}
use Rattle.trial.specs.Rows.{world_of, row_of, fetched_from}

-- the answer is fetched, which moves nothing, and the row says done
pub record Fetches {A : Type 0} (app : App A) (before after : Pair A) (word : List ℕ) (r : Result (Unit {0}) AllocError) (old new : List ℕ) : Type 0 where
  pub setup : setup_seen app after ≡ setup_seen app before
  pub world : world_seen after ≡ world_seen before
  pub row : IfOk r (λ _. new ≡ old ++ row_text word 100 [] (fetched_from (setup_seen app before) (world_seen before)) (says (world_seen before).reader))

-- the entry's call is made, and its row is appended
pub record Rowed {A : Type 0} (app : App A) (e : Entry) (before after : Pair A) (r : Result (Unit {0}) AllocError) (old new : List ℕ) : Type 0 where
  pub setup : setup_seen app after ≡ setup_seen app before
  pub world : world_seen after ≡ world_of (setup_seen app before) (world_seen before) e
  pub row : IfOk r (λ _. new ≡ old ++ row_of (setup_seen app before) (world_seen before) e)

-- a line is played if it has an entry, and it is said whether it had
pub record Plays {A : Type 0} (app : App A) (e : Option Entry) (before after : Pair A) (ok : Bool) (old new : List ℕ) : Type 0 where
  pub read : ok ≡ is_some e
  pub setup : setup_seen app after ≡ setup_seen app before
  pub world : world_seen after ≡ world_for (setup_seen app before) (world_seen before) e
  pub row : new ≡ old ++ row_for (setup_seen app before) (world_seen before) e
