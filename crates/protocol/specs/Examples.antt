-- Cases that anyone can work out by hand.
use Rattle.std.specs.Prelude.{◌≡◌, ℕ, true, false, [], ◌∷◌, replicate}
use Rattle.activation.specs.Examples.{Waiting15Fails}
use Rattle.frames.specs.Blocks.{r_block, without, frame_of}
use Rattle.frames.specs.Causes.{silence}
use Rattle.frames.specs.Examples.{Examples}
use Rattle.frames.specs.Sizes.{size_of, greatest_frame}
use Rattle.protocol.specs.Reader.{Reader, Link, Move, wrote, over, spent, not_taken, doubt, totalled, at, idle, blank_exchange, begun, more, next_part, do_call, begin, heard, silent, listening}
use Rattle.protocol.specs.Settings.{ReaderSettings, room_of}

-- a reader that repeats so often
abbrev pub repeating : ℕ → ReaderSettings
repeating n = record { fsdi = 0; cid = 0; repeats = n; waits = 0 }

-- an idle session with a card of the least frame size, without card number
abbrev pub least_link : Link
least_link = record { fsc = size_of 0; fwi = 4; ta = 0; cid = without; dsi = 0; dri = 0 }

abbrev pub idle_reader : Reader
idle_reader = at idle least_link blank_exchange

-- a command of one byte is begun
abbrev pub after_begin : ℕ → Reader
after_begin n = (do_call (repeating n) idle_reader (begin (0 ∷ []) greatest_frame)).reader

-- and its frame was lost
abbrev pub after_silence : ℕ → Move
after_silence n = do_call (repeating n) (after_begin n) (silent greatest_frame)

pub record Worked : Type 0 where
  -- 13 is I, chaining, number 1; B2 is R(NAK) 0; C3, E2 and 06 have no kind
  pub control_bytes : Examples
  -- the ATS 05 78 00 F0 02 fails, with 28 at place 4
  pub waiting_time : Waiting15Fails
  -- with frames of 16 bytes to the card and no card number, 13 bytes go in one block and 14 in two
  pub one_block : more (begun (room_of (size_of 0) without) false (replicate 13 0)).rest ≡ false
  pub two_blocks : more (begun (room_of (size_of 0) without) false (replicate 14 0)).rest ≡ true
  pub no_third : more (next_part (room_of (size_of 0) without) (begun (room_of (size_of 0) without) false (replicate 14 0))).rest ≡ false
  -- one repeat, the first frame lost, R(ACK) 1 heard to the R(NAK): 6, and not taken
  pub asks_again : (after_silence 1).outcome ≡ wrote (frame_of (r_block true false without)) (listening least_link 0)
  pub ends_not_taken :
      (do_call (repeating 1) (after_silence 1).reader (heard (frame_of (r_block false true without)) greatest_frame)).outcome
      ≡ over (spent silence) not_taken (totalled 1 1 0)
  -- no repeat, and silence: 6, and in doubt
  pub in_doubt : (after_silence 0).outcome ≡ over (spent silence) doubt (totalled 1 0 0)
