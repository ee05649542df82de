-- The exchanges of a table are runs of the model.
use Rattle.std.specs.Prelude.{◌≡◌, ℕ, zero, suc, Bool, true, false, cond, List, [], ◌∷◌}
use Rattle.applications.specs.App.{Keeps}
use Rattle.frames.specs.Sizes.{greatest_frame}
use Rattle.pair.specs.Deeds.{ask, start, begin, hear, Act}
use Rattle.pair.specs.Runs.{ran}
use Rattle.protocol.specs.Field.{Setup, outset}
use Rattle.protocol.specs.Settings.{reader_in_range, card_in_range}
use Rattle.sweeping.specs.Plans.{loss_in, fate_under, turn_of, plan_after}
use Rattle.sweeping.specs.Rows.{Row, row_after, most_turns, disagrees}
use Rattle.sweeping.specs.Trails.{Trail, unharmed, and_then, woken_from, begun, driven}
use Rattle.sweeping.specs.declared.plan.Plan.{Plan}

-- the acts of a plan's turns, as long as the exchange goes on, and no more than so many
unfoldable pub turns_of : {S : Type 0} → ℕ → Setup S → Plan → Trail S → List Act
turns_of zero u p t = []
turns_of (suc n) u p t =
    cond t.told.goes_on (turn_of p ∷ turns_of n u (plan_after p) (and_then u t.world t.times (turn_of p))) []

-- the acts of an exchange: ask, hear, start, begin, and its turns
abbrev pub acts_of : {S : Type 0} → Setup S → S → List ℕ → Plan → List Act
acts_of u s command p =
    unharmed ask
    ∷ unharmed hear
    ∷ unharmed start
    ∷ record { deed = begin command; fate = fate_under (loss_in p) }
    ∷ turns_of most_turns u p (begun u (woken_from u (outset s)) command p)

-- The world that a row tells of is the one to which these acts lead.
abbrev pub RowsAreRuns : Type 0 → Type 0
RowsAreRuns S =
    (u : Setup S) (s : S) (command : List ℕ) (p : Plan)
    → (driven most_turns u p (begun u (woken_from u (outset s)) command p)).world
    ≡ ran u greatest_frame (outset s) (acts_of u s command p)

abbrev pub row_disagrees : Row → Bool
row_disagrees r = disagrees r.says r.times

-- Where the command's first frame was written, under any losses, the row is no disagreement: what the reader says is true
-- at the card, and the application was not given the command twice.
abbrev pub RowsAreTrue : Type 0 → Type 0
RowsAreTrue S =
    (u : Setup S) (s : S) (command : List ℕ) (p : Plan)
    → reader_in_range u.reader ≡ true
    → card_in_range u.card ≡ true
    → Keeps u.app
    → (begun u (woken_from u (outset s)) command p).told.goes_on ≡ true
    → row_disagrees (row_after (driven most_turns u p (begun u (woken_from u (outset s)) command p))) ≡ false
