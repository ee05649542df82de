-- What is printed.
use Rattle.std.specs.Prelude.{ℕ, Bool, true, false, List, [], ◌∷◌, ◌++◌, Ok, Err, codes, decimal, Result}
use Rattle.frames.specs.declared.Refusal.{Refusal}
use Rattle.frames.specs.Blocks.{Cid, without, numbered, Block, i_block, r_block, deselect, wait}
use Rattle.frames.specs.Causes.{Layer, frame, activation, block, Cause}
use Rattle.frames.specs.Check.{seal}
use Rattle.frames.specs.Reading.{Reading, valid, invalid, read_frame}
use Rattle.frames.specs.Refused.{refusal_number}
use Rattle.frames.specs.Sealing as frames
use Rattle.frames.specs.Sizes.{greatest_frame, size_of}
use Rattle.frames.specs.Views.{information_place}
use Rattle.activation.specs.Ats.{Ats, AtsRead, good, bad, hear_ats}
use Rattle.text.specs.Hex.{hex, shown_bytes}
use Rattle.inspection.specs.Tasks.{Task, sealing, reading, hearing}
use Rattle.text.specs.Fields.{◌then◌}

abbrev pub bit_text : Bool → List ℕ
bit_text true = codes "1"
bit_text false = codes "0"

abbrev pub chaining_text : Bool → List ℕ
chaining_text true = codes "chaining"
chaining_text false = codes "last"

abbrev pub nak_text : Bool → List ℕ
nak_text true = codes "NAK"
nak_text false = codes "ACK"

-- card number and power level
abbrev pub card_text : Cid → List ℕ
card_text without = codes "-" then codes "-"
card_text (numbered n p) = decimal n then decimal p

abbrev pub layer_text : Layer → List ℕ
layer_text frame = codes "frame"
layer_text activation = codes "activation"
layer_text block = codes "block"

-- what I-blocks and R-blocks have: a letter, the block number, a word, the card number
abbrev pub numbered_text : List ℕ → Bool → List ℕ → Cid → List ℕ
numbered_text letter n word a = letter then bit_text n then word then card_text a

abbrev pub block_text : Block → List ℕ
block_text (i_block c n a info) =
    numbered_text (codes "I") n (chaining_text c) a then decimal (information_place a) then shown_bytes info
block_text (r_block k n a) = numbered_text (codes "R") n (nak_text k) a
block_text (deselect a) = codes "DESELECT" then card_text a
block_text (wait m p a) = codes "WTX" then decimal m then decimal p then card_text a

abbrev pub cause_text : Cause → List ℕ
cause_text c = decimal c.number then decimal c.place then layer_text c.layer

abbrev pub read_text : Reading → List ℕ
read_text (valid b) = codes "read" then codes "0" then block_text b
read_text (invalid why) = codes "read" then cause_text why

abbrev pub sealed_text : List ℕ → List ℕ
sealed_text f = codes "seal" then codes "0" then shown_bytes f

abbrev pub refused_text : Refusal → List ℕ
refused_text why = codes "seal" then decimal (refusal_number why) then codes "-"

abbrev pub seal_text : Result ℕ Refusal → List ℕ → List ℕ
seal_text (Ok n) f = sealed_text f
seal_text (Err why) f = refused_text why

-- what an ATS says: the card's frame size and TA, then waiting time, guard time, TC and the historical bytes
abbrev pub offer_text : Ats → List ℕ
offer_text a = decimal (size_of a.fsci) then hex (a.ta ∷ [])

abbrev pub times_text : Ats → List ℕ
times_text a = decimal a.fwi then decimal a.sfgi then hex (a.tc ∷ []) then shown_bytes a.historical

abbrev pub ats_text : AtsRead → List ℕ
ats_text (good a) = codes "ats" then codes "0" then offer_text a then times_text a
ats_text (bad why) = codes "ats" then cause_text why

-- the line of an ATS
abbrev pub ats_line : AtsRead → List ℕ
ats_line a = ats_text a ++ (10 ∷ [])

-- a task's answer; a frame is sealed into a buffer of the greatest frame
abbrev pub task_text : Task → List ℕ
task_text (sealing body) = seal_text (frames.sealing body greatest_frame) (seal body)
task_text (reading limit agreed f) = read_text (read_frame limit agreed f)
task_text (hearing fsd f) = ats_text (hear_ats fsd f)
