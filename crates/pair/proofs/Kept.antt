-- What the session answered, kept by the pair.
use Rattle.std.proofs.Common.{◌≡◌, ℕ, List, [], Ok, Err, Result, sym, subst}
use Rattle.activation.specs.Views.{said_by}
use Rattle.activation.specs.declared.Ats.{Ats}
use Rattle.frames.specs.declared.Refusal.{Refusal}
use Rattle.protocol.specs.Reader.{Reader, Call, do_call}
use Rattle.protocol.proofs.Ends.{size_most}
use Rattle.protocol.specs.Settings.{ReaderSettings}
use Rattle.stages.specs.Outcomes.{answer_seen}
use Rattle.stages.specs.declared.Outcome as told
use Rattle.stages.specs.declared.Outcome.TheVariants.{Wrote, Wakes, Active, Answered, Over, Stopped, Off, Unanswered, Fetched}
use Rattle.pair.specs.Answers.{Short}
use Rattle.pair.proofs.Shorts.{short_call}

abbrev Told : Type 0
Told = Result (told.Outcome Ats) Refusal

-- whatever the buffer holds
short_any : (o : Told) (a b : List ℕ) → Short (answer_seen said_by o a).outcome → Short (answer_seen said_by o b).outcome
short_any (Err why) a b h = tt
short_any (Ok (Wrote sent)) a b h = tt
short_any (Ok (Wakes ats)) a b h = h
short_any (Ok Active) a b h = tt
short_any (Ok (Answered n report)) a b h = tt
short_any (Ok (Over ending report)) a b h = tt
short_any (Ok (Stopped report)) a b h = tt
short_any (Ok Off) a b h = tt
short_any (Ok Unanswered) a b h = tt
short_any (Ok (Fetched n)) a b h = tt

-- what a session answers can be kept
pub can_keep : (s : ReaderSettings) (r : Reader) (c : Call) (o : Told) (buffer : List ℕ) → (answer_seen said_by o buffer).outcome ≡ (do_call s r c).outcome → Short (answer_seen said_by o []).outcome
can_keep s r c o buffer is = short_any o buffer [] (subst Short (sym is) (short_call s (size_most s.fsdi) r c))
