-- A sweep: its table, line by line.
use Rattle.std.specs.Prelude.{◌≡◌, ℕ, ◌+◌, ◌-◌, ◌*◌, Bool, true, cond, List, Some, None, Option, nat_lt}
use Rattle.frames.specs.Check.{both}
use Rattle.sweeping.specs.OrderViews.{order_seen}
use Rattle.sweeping.specs.Orders.{Order}
use Rattle.sweeping.specs.Rows.{Row, row_of, disagrees}
use Rattle.sweeping.specs.Runs.{no_losses, following, after_unharmed, plan_from}
use Rattle.sweeping.specs.Texts.{names_text, row_text, sum_text, line_text}
use Rattle.sweeping.specs.declared.line.Line as printed
use Rattle.sweeping.specs.declared.run.Run.{Run}
use Rattle.sweeping.specs.declared.sweep.Place.{Place}
use Rattle.sweeping.specs.declared.sweep.Place.TheVariants.{Names, Unharmed, Losses, Sum}
use Rattle.sweeping.specs.declared.sweep.Sweep as held

-- what is swept, the turns of the exchange in which nothing is lost, the next line, if one is left, and what has been counted
pub record Sweep : Type 0 where
  pub order : Order
  pub turns : ℕ
  pub place : Option Place
  pub runs : ℕ
  pub disagreements : ℕ

abbrev pub sweep_seen : held.Sweep → Sweep
sweep_seen s =
    record {
      order = order_seen s.order;
      turns = s.turns;
      place = s.place;
      runs = s.runs;
      disagreements = s.disagreements;
    }

-- before the first line; a turn is a frame of the exchange in which nothing is lost
abbrev pub sweep_for : Order → Sweep
sweep_for o =
    record {
      order = o;
      turns = (row_of o.values o.command (plan_from no_losses)).frames;
      place = Some Names;
      runs = 0;
      disagreements = 0;
    }

-- one more, if it counts; counts end at a number that no sweep comes to
abbrev pub counted : ℕ → Bool → ℕ
counted n more = cond (both more (nat_lt n 1000000000000)) (n + 1) n

-- a line, and the sweep behind it
pub record Line : Type 0 where
  pub text : List ℕ
  pub after : Sweep

-- with another next line
abbrev pub gone_to : Sweep → Option Place → Sweep
gone_to s p =
    record { order = s.order; turns = s.turns; place = p; runs = s.runs; disagreements = s.disagreements }

-- the place of a run of losses; behind the last one stands the last line
abbrev pub place_of : Option Run → Place
place_of (Some r) = Losses r
place_of None = Sum

-- a run with its row, counted
abbrev pub line_of : Sweep → Run → Place → Row → Line
line_of s run next r =
    record {
      text = row_text run r;
      after = record {
        order = s.order;
        turns = s.turns;
        place = Some next;
        runs = counted s.runs true;
        disagreements = counted s.disagreements (disagrees r.says r.times);
      };
    }

abbrev pub run_line : Sweep → Run → Place → Line
run_line s run next = line_of s run next (row_of s.order.values s.order.command (plan_from run))

-- the line at a place
abbrev pub line_at : Sweep → Place → Line
line_at s Names = record { text = names_text; after = gone_to s (Some Unharmed) }
line_at s Unharmed = run_line s no_losses (place_of (after_unharmed s.turns))
line_at s (Losses run) = run_line s run (place_of (following s.order.losses s.turns run))
line_at s Sum = record { text = sum_text s.runs s.disagreements; after = gone_to s None }

-- this line is printed, and the sweep stands behind it
pub record Lined (l : Line) (line : printed.Line) (after : Sweep) : Type 0 where
  pub text : line_text line ≡ l.text
  pub sweep : after ≡ l.after

-- the next line, where one is left
abbrev pub GoesFrom : Option Place → Sweep → Option printed.Line → Sweep → Type 0
GoesFrom (Some p) s (Some line) t = Lined (line_at s p) line t
GoesFrom (Some p) s None t = ⊥
GoesFrom None s (Some line) t = ⊥
GoesFrom None s None t = t ≡ s

abbrev pub Goes : Sweep → Option printed.Line → Sweep → Type 0
Goes s line t = GoesFrom s.place s line t

-- no more lines than this are left: losses from count on, turns from first on, digits from code on
abbrev pub losses_left : ℕ → ℕ → Run → ℕ
losses_left losses turns r = (losses - r.count) * (1024 * (turns + 1)) + (1024 * (turns - r.first) + (1023 - r.code))

abbrev pub left_at : ℕ → ℕ → Option Place → ℕ
left_at losses turns None = 0
left_at losses turns (Some Sum) = 1
left_at losses turns (Some (Losses run)) = 2 + losses_left losses turns run
left_at losses turns (Some Unharmed) = 3 + losses_left losses turns no_losses
left_at losses turns (Some Names) = 4 + losses_left losses turns no_losses

abbrev pub lines_left : Sweep → ℕ
lines_left s = left_at s.order.losses s.turns s.place
