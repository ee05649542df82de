-- Acts in time order, and the same as a run of the model, which has its latest step first.
use Rattle.std.specs.Prelude.{◌≡◌, ℕ, Bool, List, [], ◌∷◌, length}
use Rattle.card.specs.Told.{was_given}
use Rattle.exchange.specs.Moves.{buffer_after}
use Rattle.protocol.specs.Field.{Setup, World, Step, outset, step_from, move_of, after, IsRun}
use Rattle.protocol.specs.Reader.{Outcome}
use Rattle.pair.specs.Deeds.{Act, call_for, step_for}

-- the world after one act
abbrev pub acted : {S : Type 0} → Setup S → ℕ → World S → Act → World S
acted u room w a = (step_from u w (step_for w room a)).after

-- what the reader's call answers
abbrev pub outcome_of : {S : Type 0} → Setup S → ℕ → World S → Act → Outcome
outcome_of u room w a = (move_of u w (call_for w room a.deed)).outcome

-- the world after acts, in time order
abbrev pub ran : {S : Type 0} → Setup S → ℕ → World S → List Act → World S
ran u room w [] = w
ran u room w (a ∷ rest) = ran u room (acted u room w a) rest

-- what each answers, in time order
abbrev pub outcomes : {S : Type 0} → Setup S → ℕ → World S → List Act → List Outcome
outcomes u room w [] = []
outcomes u room w (a ∷ rest) = outcome_of u room w a ∷ outcomes u room (acted u room w a) rest

-- What an act shows: what it answers, the buffer that it was handed as it is afterwards, and whether it brought a command to
-- the application.
pub record Entry : Type 0 where
  pub outcome : Outcome
  pub buffer : List ℕ
  pub given : Bool

abbrev pub entry_of : {S : Type 0} → Setup S → List ℕ → World S → Act → Entry
entry_of u buffer w a =
    record {
      outcome = outcome_of u (length buffer) w a;
      buffer = buffer_after (outcome_of u (length buffer) w a) buffer;
      given = was_given (step_from u w (step_for w (length buffer) a)).command;
    }

-- what each shows, in time order, each with a buffer like this
abbrev pub entries : {S : Type 0} → Setup S → List ℕ → World S → List Act → List Entry
entries u buffer w [] = []
entries u buffer w (a ∷ rest) = entry_of u buffer w a ∷ entries u buffer (acted u (length buffer) w a) rest

-- the steps of acts, put in front of those before, the latest first
abbrev pub steps : {S : Type 0} → Setup S → ℕ → World S → List Act → List Step → List Step
steps u room w [] before = before
steps u room w (a ∷ rest) before = steps u room (acted u room w a) rest (step_for w room a ∷ before)

-- Acts from the outset are a run, and lead to the world that the run leads to.
abbrev pub ActsAreRuns : Type 0 → Type 0
ActsAreRuns S =
    (u : Setup S) (room : ℕ) (s : S) (acts : List Act)
    → IsRun u s (steps u room (outset s) acts [])
    × (ran u room (outset s) acts ≡ after u s (steps u room (outset s) acts []))
