-- What a pair's answers stand for.
use Rattle.std.specs.Prelude.{ℕ, ◌≤◌, List, [], length, Result}
use Rattle.activation.specs.Ats.{Ats, ats}
use Rattle.buffers.specs.Rooms.{answer_room}
use Rattle.buffers.specs.Stores.{held}
use Rattle.frames.specs.declared.Refusal.{Refusal}
use Rattle.protocol.specs.Reader.{Outcome, refused, wrote, wakes, active, answered, over, stopped, off, unanswered, fetched}
use Rattle.stages.specs.Outcomes.{answer_seen as told_by}
use Rattle.stages.specs.declared.Outcome as coded
use Rattle.pair.specs.declared.outcome.Woken.{Woken}

abbrev pub woken_seen : Woken → Ats
woken_seen w = ats w.fsci w.ta w.fwi w.sfgi w.tc (held w.historical)

-- an answer, with the buffer after the call: a frame written, or an answer fetched, stands at its front
abbrev pub answer_seen : Result (coded.Outcome Woken) Refusal → List ℕ → Outcome
answer_seen r buffer = (told_by woken_seen r buffer).outcome

-- the length that an answer tells, 0 where it tells none
abbrev pub size_in : Result (coded.Outcome Woken) Refusal → ℕ
size_in r = (told_by woken_seen r []).size

-- the historical bytes of an ATS fit into a store for answers
abbrev pub Short : Outcome → Type 0
Short (refused n) = Unit {0}
Short (wrote f t) = Unit {0}
Short (wakes a) = length a.historical ≤ answer_room
Short active = Unit {0}
Short (answered n s t) = Unit {0}
Short (over e s t) = Unit {0}
Short (stopped s t) = Unit {0}
Short off = Unit {0}
Short unanswered = Unit {0}
Short (fetched a) = Unit {0}
