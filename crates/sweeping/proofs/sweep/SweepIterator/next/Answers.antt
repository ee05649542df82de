use Rattle.std.proofs.Common.{◌≡◌, ℕ, Some, ap, ◌∙◌, rules}
use Rattle.sweeping.specs.Runs.{following}
use Rattle.sweeping.specs.Sweeps.{sweep_seen, place_of, left_at, lines_left}
use Rattle.sweeping.specs.declared.sweep.Place.{Place}
use Rattle.sweeping.specs.declared.sweep.Place.TheVariants.{Losses}
use Rattle.sweeping.proofs.Leaving.{left_falls}
use Rattle.sweeping.proofs.sweep.SweepIterator.next.Goals as goal

pub returns-in-Losses-clause-goes : goal.returns-in-Losses-clause-goes
returns-in-Losses-clause-goes c =
    let losses : ℕ = c.args.self.now.order.losses in
    let turns : ℕ = c.args.self.now.turns in
    let run = c.in-Losses.run' in
    let next = c.place_of-in-Losses.ensures ∙ ap place_of c.next-next.ensures in
    let moved : lines_left (sweep_seen c.play-in-Losses.new.self) ≡ left_at losses turns (Some (place_of (following losses turns run))) =
    ap lines_left c.play-in-Losses.ensures.sweep ∙ ap (λ (p : Place). left_at losses turns (Some p)) next in
    let stood : lines_left (sweep_seen c.args.self.now) ≡ left_at losses turns (Some (Losses run)) =
    ap (left_at losses turns) (c.in_ok-self.was ∙ ap (λ (p : Place). Some p) c.in-Losses.is) in
    record {
      on = λ f. (search rules, search rules, rw (moved, stood) (left_falls losses turns run));
      keeps = search rules;
      rests = search rules;
    }
