-- What is kept of calls on a pair.
use Rattle.std.specs.Prelude.{◌≡◌, ℕ, ◌+◌, ◌<◌, List, [], ◌++◌, map, length, replicate, Ok, Err, vec_items, vec_len, vec_capacity, Result}
use Rattle.std.specs.Global.{Vec}
use Rattle.std.specs.declared.alloc.AllocError.{AllocError}
use Rattle.applications.specs.App.{App}
use Rattle.buffers.specs.Rooms.{answer_room}
use Rattle.protocol.specs.Field as field
use Rattle.protocol.specs.Field.{outset, IsRun}
use Rattle.protocol.specs.Reader.{Outcome}
use Rattle.pair.specs.Answers.{answer_seen}
use Rattle.pair.specs.Deeds.{Act}
use Rattle.pair.specs.Pairs.{act_seen, world_seen, setup_seen}
use Rattle.pair.specs.Runs.{acted, ran, outcomes, Entry, entry_of, entries, steps}
use Rattle.pair.specs.declared.call.Step.{Step}
use Rattle.pair.specs.declared.pair.Pair.{Pair}
use Rattle.pair.specs.declared.recorded.Record.{Record}

abbrev pub step_seen : Step → Act
step_seen s = act_seen s.call s.fate

-- the buffer that a call is handed: room for every frame and every answer
abbrev pub blank : List ℕ
blank = replicate answer_room 0

abbrev pub outcome_kept : Record → Outcome
outcome_kept r = answer_seen r.answer.outcome r.bytes

abbrev pub record_seen : Record → Entry
record_seen r = record { outcome = outcome_kept r; buffer = r.bytes; given = r.answer.given }

-- One call does what the model's act does, and what is kept of it is what the act shows.
pub record Kept {A : Type 0} (app : App A) (act : Act) (before after : Pair A) (kept : Record) : Type 0 where
  pub setup : setup_seen app after ≡ setup_seen app before
  pub world : world_seen after ≡ acted (setup_seen app before) answer_room (world_seen before) act
  pub entry : record_seen kept ≡ entry_of (setup_seen app before) blank (world_seen before) act

-- The same of acts in time order: where they lead, what each answers, with its buffer, and which brought a command to the
-- application.
pub record Ran {A : Type 0} (app : App A) (acts : List Act) (before after : Pair A) (kept : List Record) : Type 0 where
  pub setup : setup_seen app after ≡ setup_seen app before
  pub world : world_seen after ≡ ran (setup_seen app before) answer_room (world_seen before) acts
  pub outcomes : map outcome_kept kept ≡ outcomes (setup_seen app before) answer_room (world_seen before) acts
  pub entries : map record_seen kept ≡ entries (setup_seen app before) blank (world_seen before) acts

-- All of it, behind the records that there were. Where memory is refused, nothing; and it is not refused where there was
-- room for as many more.
abbrev pub RunsInto : {A : Type 0} → App A → List Step → Pair A → Pair A → Vec Record → Vec Record → Result (Unit {0}) AllocError → Type 0
RunsInto app steps before after old new (Ok u) =
    (kept : List Record) × (vec_items new ≡ vec_items old ++ kept) × Ran app (map step_seen steps) before after kept
RunsInto app steps before after old new (Err e) =
    (after ≡ before) × (vec_items new ≡ vec_items old) × (vec_capacity old < vec_len old + length steps)

-- The same with records of its own; an empty list asks for no memory.
abbrev pub Runs : {A : Type 0} → App A → List Step → Pair A → Pair A → Result (Vec Record) AllocError → Type 0
Runs app steps before after (Ok kept) = Ran app (map step_seen steps) before after (vec_items kept)
Runs app steps before after (Err e) = (after ≡ before) × (0 < length steps)

-- A pair that starts at the outset makes a run of the model, and is where that run leads.
abbrev pub StartsARun : {A : Type 0} → App A → Type 0
StartsARun {A} app =
    (s : A) (acts : List Act) (before after : Pair A) (kept : List Record)
    → world_seen before ≡ outset s
    → Ran app acts before after kept
    → IsRun (setup_seen app before) s (steps (setup_seen app before) answer_room (outset s) acts [])
    × (world_seen after ≡ field.after (setup_seen app before) s (steps (setup_seen app before) answer_room (outset s) acts []))
