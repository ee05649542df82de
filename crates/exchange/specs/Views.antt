-- What the crate's plain values stand for.
use Rattle.std.specs.Prelude.{Some, None, Option}
use Rattle.frames.specs.Causes.{Cause}
use Rattle.frames.specs.Faults.{cause_seen}
use Rattle.frames.specs.declared.fault.Cause as found
use Rattle.protocol.specs.Reader.{Says, none, done, taken, not_taken, doubt, Totals, totalled, Progress, no_cause, no_command, running, finished, Ending, spent, broken, waits_spent, answer_long}
use Rattle.exchange.specs.declared.progress.Progress as held
use Rattle.exchange.specs.declared.progress.Progress.TheVariants.{NoCommand, Running, Finished}
use Rattle.exchange.specs.declared.report.Ending as told
use Rattle.exchange.specs.declared.report.Ending.TheVariants.{Spent, Broken, WaitsSpent, AnswerLong}
use Rattle.exchange.specs.declared.report.Says as coded
use Rattle.exchange.specs.declared.report.Says.TheVariants.{Nothing, Done, Taken, NotTaken, Doubt}
use Rattle.exchange.specs.declared.report.Totals as counted

abbrev pub says_seen : coded.Says → Says
says_seen Nothing = none
says_seen Done = done
says_seen Taken = taken
says_seen NotTaken = not_taken
says_seen Doubt = doubt

abbrev pub totals_seen : counted.Totals → Totals
totals_seen t = totalled t.fresh t.repeats t.waits

-- the last cause since the last fresh frame, if one came
abbrev pub why_seen : Option found.Cause → Cause
why_seen (Some why) = cause_seen why
why_seen None = no_cause

abbrev pub ending_seen : told.Ending → Ending
ending_seen (Spent why) = spent (why_seen why)
ending_seen Broken = broken
ending_seen WaitsSpent = waits_spent
ending_seen AnswerLong = answer_long

abbrev pub progress_seen : held.Progress → Progress
progress_seen NoCommand = no_command
progress_seen Running = running
progress_seen Finished = finished
