-- The calls of a script, a line each.
use Rattle.std.specs.Prelude.{ℕ, Bool, cond, List, Some, None, codes, Option}
use Rattle.frames.specs.Check.{both}
use Rattle.protocol.specs.Field.{Fate, whole, lost, spoilt}
use Rattle.text.specs.Hex.{bytes_in}
use Rattle.text.specs.Words.{Cut, cut_of, spells}

-- a command is begun; the card's reply is heard, or silence where there is none; silence; bytes that fail the check; the
-- session is closed
pub data Order : Type 0 where
  begin : (command : List ℕ) → Order
  hear : Order
  mute : Order
  spoil : Order
  close : Order

-- a call with the fate of the frame that it writes, or stop, which writes none
pub data Entry : Type 0 where
  call : Order → Fate → Entry
  stop : Entry

-- the third line
abbrev pub call_names : List ℕ
call_names = codes "call data going"

abbrev pub order_word : Order → List ℕ
order_word (begin c) = codes "begin"
order_word hear = codes "hear"
order_word mute = codes "mute"
order_word spoil = codes "spoil"
order_word close = codes "close"

abbrev pub entry_word : Entry → List ℕ
entry_word (call o f) = order_word o
entry_word stop = codes "stop"

-- a field that says nothing
abbrev pub is_dash : List ℕ → Bool
is_dash field = spells (codes "-") field

abbrev pub fate_in : List ℕ → Option Fate
fate_in field =
    cond (spells (codes "w") field) (Some whole)
    (cond (spells (codes "l") field) (Some lost) (cond (spells (codes "s") field) (Some spoilt) None))

abbrev pub called : Order → Option Fate → Option Entry
called o None = None
called o (Some f) = Some (call o f)

-- a call without data
abbrev pub bare_in : Order → List ℕ → List ℕ → Option Entry
bare_in o field going = cond (is_dash field) (called o (fate_in going)) None

-- begin: its data is the command, a dash the empty one
abbrev pub begun_with : Option (List ℕ) → Option Fate → Option Entry
begun_with None f = None
begun_with (Some c) f = called (begin c) f

-- stop: a dash exactly here, since it writes no frame
abbrev pub stop_in : List ℕ → List ℕ → Option Entry
stop_in field going = cond (both (is_dash field) (is_dash going)) (Some stop) None

-- the call without data that a word stands for
abbrev pub order_in : List ℕ → Option Order
order_in word =
    cond (spells (codes "hear") word) (Some hear)
    (cond (spells (codes "mute") word) (Some mute)
    (cond (spells (codes "spoil") word) (Some spoil) (cond (spells (codes "close") word) (Some close) None)))

abbrev pub bare_with : Option Order → List ℕ → List ℕ → Option Entry
bare_with None field going = None
bare_with (Some o) field going = bare_in o field going

-- by the word in front, then DATA and GOING
abbrev pub by_word : List ℕ → List ℕ → List ℕ → Option Entry
by_word word field going =
    cond (spells (codes "begin") word) (begun_with (bytes_in field) (fate_in going))
    (cond (spells (codes "stop") word) (stop_in field going) (bare_with (order_in word) field going))

abbrev pub with_data : List ℕ → Option Cut → Option Entry
with_data word None = None
with_data word (Some k) = by_word word k.first k.rest

-- WORD, then the rest
abbrev pub behind_word : Option Cut → Option Entry
behind_word None = None
behind_word (Some k) = with_data k.first (cut_of k.rest)

-- what a line asks for, if it can be read
abbrev pub entry_in : List ℕ → Option Entry
entry_in line = behind_word (cut_of line)
