-- What is done with a pair. The reader makes a call; what it hears is what the field lets through.
use Rattle.std.specs.Prelude.{ℕ, List, length}
use Rattle.frames.specs.Check.{Opened, opened, unopened, open_frame}
use Rattle.protocol.specs.Card.{Reply, quiet, reply}
use Rattle.protocol.specs.Field.{Fate, World, Step}
use Rattle.protocol.specs.Reader as reader

pub data Deed : Type 0 where
  ask : Deed
  start : Deed
  begin : (command : List ℕ) → Deed
  -- the card's reply to the last frame is heard, or silence where there is none
  hear : Deed
  -- nothing is heard
  mute : Deed
  -- these bytes are heard, if they fail the check; a frame is no noise, and nothing is heard in its place
  noise : (bytes : List ℕ) → Deed
  give_up : Deed
  close : Deed
  fetch : Deed

abbrev pub hearing : Reply → ℕ → reader.Call
hearing quiet room = reader.silent room
hearing (reply f) room = reader.heard f room

abbrev pub unless_opened : Opened → List ℕ → ℕ → reader.Call
unless_opened (opened body) f room = reader.silent room
unless_opened (unopened why) f room = reader.heard f room

abbrev pub hearing_noise : List ℕ → ℕ → reader.Call
hearing_noise f room = unless_opened (open_frame (length f) f) f room

-- the reader's call, with a buffer of this size
abbrev pub call_for : {S : Type 0} → World S → ℕ → Deed → reader.Call
call_for w room ask = reader.ask room
call_for w room start = reader.start
call_for w room (begin c) = reader.begin c room
call_for w room hear = hearing w.answer room
call_for w room mute = reader.silent room
call_for w room (noise f) = hearing_noise f room
call_for w room give_up = reader.give_up
call_for w room close = reader.close room
call_for w room fetch = reader.fetch room

-- a deed, and the fate of the frame that it writes, if it writes one
pub record Act : Type 0 where
  pub deed : Deed
  pub fate : Fate

abbrev pub step_for : {S : Type 0} → World S → ℕ → Act → Step
step_for w room a = record { call = call_for w room a.deed; fate = a.fate }
