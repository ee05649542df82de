-- What the metre counter promises to whoever draws from it, over any sequence of commands.
use Rattle.std.specs.Prelude.{◌≡◌, ℕ, ◌+◌, ◌-◌, ◌<◌, ◌≤◌, ◌⊎◌, List, [], ◌∷◌, ◌++◌}
use Rattle.applications.specs.App.{App, after}
use Rattle.applications.specs.History.{Exchange, exchange, history}
use Rattle.applications.specs.Metre.{number_of, count_bytes}
use Rattle.applications.specs.Status.{word_of}
use Rattle.applications.specs.declared.metre.Metre.{Metre}
use Rattle.applications.specs.declared.status.StatusWord.TheVariants.{Good, ConditionsNotSatisfied}

-- the metres of a draw, as the four bytes that it brings
pub record Metres : Type 0 where
  pub b3 : ℕ
  pub b2 : ℕ
  pub b1 : ℕ
  pub b0 : ℕ

abbrev pub amount : Metres → ℕ
amount n = number_of n.b3 n.b2 n.b1 n.b0

-- the command that draws: class 80, instruction 10, 00 00, four bytes follow, and the metres
abbrev pub draw_command : Metres → List ℕ
draw_command n = 0x80 ∷ 0x10 ∷ 0x00 ∷ 0x00 ∷ 0x04 ∷ n.b3 ∷ n.b2 ∷ n.b1 ∷ n.b0 ∷ []

-- the command that asks: class 80, instruction 12, 00 00, four bytes are wanted
abbrev pub ask_command : List ℕ
ask_command = 0x80 ∷ 0x12 ∷ 0x00 ∷ 0x00 ∷ 0x04 ∷ []

-- a good draw: a command that draws, answered with 9000 behind whatever else
pub record GoodDraw (e : Exchange) : Type 0 where
  pub metres : Metres
  pub told : List ℕ
  pub commanded : e.command ≡ draw_command metres
  pub answered : e.answer ≡ told ++ word_of Good

-- the metres of all good draws of a history
pub data Drawn : List Exchange → ℕ → Type 0 where
  none : Drawn [] 0
  good : (e : Exchange) (es : List Exchange) (n : ℕ) (d : GoodDraw e) → Drawn es n → Drawn (e ∷ es) (amount d.metres + n)
  other : (e : Exchange) (es : List Exchange) (n : ℕ) → (GoodDraw e → ⊥) → Drawn es n → Drawn (e ∷ es) n

pub record MetreLaws (a : App Metre) : Type 0 where
  -- after any commands, the count and all metres answered with 9000 to a draw are the count that it started with
  pub books : (m : Metre) (cs : List (List ℕ)) → (n : ℕ) × Drawn (history a m cs) n × ((after a m cs).count + n ≡ m.count)
  -- nothing but a good draw changes the count
  pub only_draws_change : (m : Metre) (c : List ℕ) → (a.next m c ≡ m) ⊎ GoodDraw (exchange a m c)
  -- an ask tells the count and never changes it
  pub asks : (m : Metre) → (a.answer m ask_command ≡ count_bytes m.count ++ word_of Good) × (a.next m ask_command ≡ m)
  -- a draw of no more than the count is good and tells the count that remains
  pub draws_enough :
      (m : Metre) (n : Metres) → amount n ≤ m.count
      → a.answer m (draw_command n) ≡ count_bytes (m.count - amount n) ++ word_of Good
  -- a draw of more gets 6985 behind the count, which stays
  pub draws_too_much :
      (m : Metre) (n : Metres) → m.count < amount n
      → (a.answer m (draw_command n) ≡ count_bytes m.count ++ word_of ConditionsNotSatisfied) × (a.next m (draw_command n) ≡ m)
  -- each draw asks for one wait with multiplier 2
  pub draws_wait : (m : Metre) (n : Metres) → (a.waits m (draw_command n) ≡ 1) × (a.multiplier m (draw_command n) ≡ 2)
  -- nothing else asks for a wait
  pub only_draws_wait : (m : Metre) (c : List ℕ) → (a.waits m c ≡ 0) ⊎ ((n : Metres) × (c ≡ draw_command n))
