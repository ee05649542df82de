-- What an application on the card is: its state and a command fix its answer, how many waits it asks for and with
-- which multiplier, and its next state. Nothing else moves the state.
use Rattle.std.specs.Prelude.{ℕ, ◌<◌, ◌≤◌, List, [], ◌∷◌, length}
use Rattle.buffers.specs.Rooms.{command_room, answer_room}

pub record App (S : Type 0) : Type 0 where
  pub answer : S → List ℕ → List ℕ
  pub waits : S → List ℕ → ℕ
  pub multiplier : S → List ℕ → ℕ
  pub next : S → List ℕ → S

-- the longest command that a card gathers, and the longest answer that a reader gathers
abbrev pub longest_command : ℕ
longest_command = command_room

abbrev pub longest_answer : ℕ
longest_answer = answer_room

-- a command is 1 to 261 bytes
abbrev pub IsCommand : List ℕ → Type 0
IsCommand c = (0 < length c) × (length c ≤ longest_command)

-- what every application keeps, in every state and at every command: an answer of 2 to 258 bytes, at most 9 waits,
-- a multiplier of 1 to 59
pub record Keeps {S : Type 0} (a : App S) : Type 0 where
  pub answer_low : (s : S) (c : List ℕ) → IsCommand c → 2 ≤ length (a.answer s c)
  pub answer_high : (s : S) (c : List ℕ) → IsCommand c → length (a.answer s c) ≤ longest_answer
  pub waits_high : (s : S) (c : List ℕ) → IsCommand c → a.waits s c ≤ 9
  pub multiplier_low : (s : S) (c : List ℕ) → IsCommand c → 1 ≤ a.multiplier s c
  pub multiplier_high : (s : S) (c : List ℕ) → IsCommand c → a.multiplier s c ≤ 59

-- the state after a list of commands, the first one first
abbrev pub after : {S : Type 0} → App S → S → List (List ℕ) → S
after a s [] = s
after a s (c ∷ cs) = after a (a.next s c) cs
