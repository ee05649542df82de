-- The row of each entry.
use Rattle.std.specs.Prelude.{ℕ, ◌-◌, List, [], length, take}
use Rattle.pair.specs.Deeds as deed
use Rattle.pair.specs.Runs.{acted, outcome_of}
use Rattle.protocol.specs.Field.{whole, Setup, World}
use Rattle.protocol.specs.Reader.{Outcome, refused, wrote, wakes, active, answered, over, stopped, off, unanswered, fetched, outcome_number, says}
use Rattle.script.specs.Calls.{Entry, entry_word}
use Rattle.script.specs.Rows.{row_text}
use Rattle.trial.specs.Benches.{room, act, act_of}

-- a frame without its check
abbrev pub without_check : List ℕ → List ℕ
without_check f = take (length f - 2) f

-- the frame that a call wrote
abbrev pub frame_in : Outcome → List ℕ
frame_in (refused n) = []
frame_in (wrote f t) = without_check f
frame_in (wakes a) = []
frame_in active = []
frame_in (answered n s t) = []
frame_in (over e s t) = []
frame_in (stopped s t) = []
frame_in off = []
frame_in unanswered = []
frame_in (fetched a) = []

abbrev pub copied : Outcome → List ℕ
copied (refused n) = []
copied (wrote f t) = []
copied (wakes a) = []
copied active = []
copied (answered n s t) = []
copied (over e s t) = []
copied (stopped s t) = []
copied off = []
copied unanswered = []
copied (fetched a) = a

-- what fetch copies
abbrev pub fetched_from : {S : Type 0} → Setup S → World S → List ℕ
fetched_from u w = copied (outcome_of u room w (act deed.fetch whole))

-- the answer, where the exchange is done
abbrev pub answer_at : {S : Type 0} → Setup S → World S → Outcome → List ℕ
answer_at u w (refused n) = []
answer_at u w (wrote f t) = []
answer_at u w (wakes a) = []
answer_at u w active = []
answer_at u w (answered n s t) = fetched_from u w
answer_at u w (over e s t) = []
answer_at u w (stopped s t) = []
answer_at u w off = []
answer_at u w unanswered = []
answer_at u w (fetched a) = []

-- the world after an entry, and what its call answered
abbrev pub world_of : {S : Type 0} → Setup S → World S → Entry → World S
world_of u w e = acted u room w (act_of e)

abbrev pub outcome_at : {S : Type 0} → Setup S → World S → Entry → Outcome
outcome_at u w e = outcome_of u room w (act_of e)

-- the row of a call that answered this and led to this world
abbrev pub shown_row : {S : Type 0} → Setup S → List ℕ → World S → Outcome → List ℕ
shown_row u word w o = row_text word (outcome_number o) (frame_in o) (answer_at u w o) (says w.reader)

abbrev pub row_of : {S : Type 0} → Setup S → World S → Entry → List ℕ
row_of u w e = shown_row u (entry_word e) (world_of u w e) (outcome_at u w e)
