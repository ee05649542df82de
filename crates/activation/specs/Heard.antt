-- What a frame is heard as: it is opened at the receiver's frame size, and its body is read.
use Rattle.std.specs.Prelude.{ℕ, cond, List}
use Rattle.frames.specs.Causes.{Cause}
use Rattle.frames.specs.Check.{Opened, opened, unopened, open_frame}
use Rattle.activation.specs.Pps.{PpsRead, no_pps, read_pps, is_pps_answer, pps_answer_wrong}
use Rattle.activation.specs.Rats.{RatsRead, no_rats, read_rats}

-- what does not open is no RATS
abbrev pub read_rats_opened : Opened → RatsRead
read_rats_opened (opened body) = read_rats body
read_rats_opened (unopened why) = no_rats

-- a frame as a RATS, at a card of this frame size
abbrev pub hear_rats : ℕ → List ℕ → RatsRead
hear_rats limit f = read_rats_opened (open_frame limit f)

-- what does not open is no PPS
abbrev pub read_pps_opened : ℕ → Opened → PpsRead
read_pps_opened cid (opened body) = read_pps cid body
read_pps_opened cid (unopened why) = no_pps

-- a frame as a PPS, at the card of this frame size and number
abbrev pub hear_pps : ℕ → ℕ → List ℕ → PpsRead
hear_pps limit cid f = read_pps_opened cid (open_frame limit f)

-- the response to a PPS, or the cause why it is none
pub data PpsAnswerRead : Type 0 where
  agreed : PpsAnswerRead
  not_agreed : Cause → PpsAnswerRead

-- a body is the response, or is wrong; what does not open has its cause
abbrev pub read_pps_answer_opened : ℕ → Opened → PpsAnswerRead
read_pps_answer_opened cid (opened body) = cond (is_pps_answer cid body) agreed (not_agreed pps_answer_wrong)
read_pps_answer_opened cid (unopened why) = not_agreed why

-- a frame as the response of the card of this number, at a reader of this frame size
abbrev pub hear_pps_answer : ℕ → ℕ → List ℕ → PpsAnswerRead
hear_pps_answer fsd cid f = read_pps_answer_opened cid (open_frame fsd f)
