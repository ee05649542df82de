-- How much the stores hold.
use Rattle.std.specs.Prelude.{ℕ}

-- the longest command
abbrev pub command_room : ℕ
command_room = 261

-- the longest answer
abbrev pub answer_room : ℕ
answer_room = 258
