-- What a C rig is told, in numbers.
use Rattle.std.specs.Prelude.{ℕ, Bool, true, false, cond, List, length, Some, None, Ok, Err, Option, Result, ◌==◌, nat_lt}
use Rattle.std.specs.Option.{option_map}
use Rattle.frames.specs.declared.Refusal.{Refusal}
use Rattle.frames.specs.Blocks.{Cid, without, numbered, i_block, r_block, deselect, wait}
use Rattle.frames.specs.Causes.{Layer, frame, activation, block}
use Rattle.frames.specs.Reading.{Agreed, no_number, number, zero_or_none, Reading, valid, invalid, read_frame}
use Rattle.frames.specs.Refusals.{setting_refused}
use Rattle.frames.specs.Refused.{refusal_number}
use Rattle.frames.specs.Views.{information_place}
use Rattle.rig.specs.declared.report.Report.{Report}

abbrev pub bit : Bool → ℕ
bit true = 1
bit false = 0

-- a block came with a card number; the number and the power level, 0 where it did not
abbrev pub given_of_card : Cid → ℕ
given_of_card without = 0
given_of_card (numbered n p) = 1

abbrev pub number_of_card : Cid → ℕ
number_of_card without = 0
number_of_card (numbered n p) = n

abbrev pub power_of_card : Cid → ℕ
power_of_card without = 0
power_of_card (numbered n p) = p

abbrev pub layer_number : Layer → ℕ
layer_number frame = 1
layer_number activation = 2
layer_number block = 3

abbrev pub report : (kind block_number chaining nak : ℕ) → Cid → (multiplier wait_power cause layer place long : ℕ) → Report
report kind block_number chaining nak a multiplier wait_power cause layer place long =
    record {
      kind = kind;
      number = block_number;
      chaining = chaining;
      nak = nak;
      card_given = given_of_card a;
      card_number = number_of_card a;
      card_power = power_of_card a;
      multiplier = multiplier;
      wait_power = wait_power;
      cause = cause;
      layer = layer;
      place = place;
      length = long;
    }

-- kinds are 1 I, 2 R, 3 deselect, 4 wait, and 0 for what is no block; what does not belong to the kind is 0
abbrev pub report_of : Reading → Report
report_of (valid (i_block c n a info)) = report 1 (bit n) (bit c) 0 a 0 0 0 0 (information_place a) (length info)
report_of (valid (r_block k n a)) = report 2 (bit n) 0 (bit k) a 0 0 0 0 0 0
report_of (valid (deselect a)) = report 3 0 0 0 a 0 0 0 0 0 0
report_of (valid (wait m p a)) = report 4 0 0 0 a m p 0 0 0 0
report_of (invalid why) = report 0 0 0 0 without 0 0 why.number (layer_number why.layer) why.place 0

-- an agreement by number: 0 to 14 that card number, 254 the number 0 or none, 255 none; the rest are out of range
abbrev pub agreed_by : ℕ → Option Agreed
agreed_by n =
    cond (nat_lt n 15) (Some (number n)) (cond (n == 254) (Some zero_or_none) (cond (n == 255) (Some no_number) None))

-- a frame, read by a receiver whose agreement is given by number; none if that is out of range
abbrev pub read_by : ℕ → ℕ → List ℕ → Option Reading
read_by limit n f = option_map (λ agreed. read_frame limit agreed f) (agreed_by n)

-- 0 for a block, the cause's number for what is none, 1 for an agreement out of range
abbrev pub read_number : Option Reading → ℕ
read_number None = setting_refused
read_number (Some (valid b)) = 0
read_number (Some (invalid why)) = why.number

-- the report of what was read; a refusal leaves it as it was
abbrev pub reported : Option Reading → Report → Report
reported None old = old
reported (Some r) old = report_of r

-- 0 for a frame that was written, and else the refusal's number
abbrev pub seal_number : Result ℕ Refusal → ℕ
seal_number (Ok n) = 0
seal_number (Err why) = refusal_number why

-- the length of the frame; a refusal leaves what stood there
abbrev pub seal_length : Result ℕ Refusal → ℕ → ℕ
seal_length (Ok n) old = n
seal_length (Err why) old = old
