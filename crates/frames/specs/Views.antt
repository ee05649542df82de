-- What the crate's values stand for.
use Rattle.std.specs.Prelude.{◌≡◌, ℕ, ◌+◌, ◌-◌, List, drop, Some, None, Ok, Err, Option, Result}
use Rattle.std.specs.Borrow.{Bor}
use Rattle.frames.specs.declared.block.CardNumber.{CardNumber}
use Rattle.frames.specs.declared.block.Agreed as held
use Rattle.frames.specs.declared.block.Agreed.TheVariants as agreements
use Rattle.frames.specs.declared.block.Block as coded
use Rattle.frames.specs.declared.block.Block.TheVariants.{I, R, Deselect, Wait}
use Rattle.frames.specs.declared.fault.FrameFault.{FrameFault}
use Rattle.frames.specs.declared.fault.BlockFault.{BlockFault}
use Rattle.frames.specs.Blocks.{Cid, without, numbered, Block, i_block, r_block, deselect, wait, follows}
use Rattle.frames.specs.Check.{Opened, opened, unopened}
use Rattle.frames.specs.Faults.{frame_cause, block_cause}
use Rattle.frames.specs.Reading.{Agreed, no_number, number, zero_or_none, Reading, valid, invalid, cid_size}

-- a frame that opened to a part of itself, or a fault
abbrev pub opened_as : Result (Bor (List ℕ)) FrameFault → Opened
opened_as (Ok body) = opened body.now
opened_as (Err why) = unopened (frame_cause why)

abbrev pub cid_seen : Option CardNumber → Cid
cid_seen None = without
cid_seen (Some c) = numbered c.number c.power

abbrev pub agreement : held.Agreed → Agreed
agreement agreements.NoNumber = no_number
agreement (agreements.Number n) = number n
agreement agreements.ZeroOrNone = zero_or_none

abbrev pub block_seen : coded.Block → Block
block_seen (I chaining bit card place information) = i_block chaining bit (cid_seen card) information.now
block_seen (R nak bit card) = r_block nak bit (cid_seen card)
block_seen (Deselect card) = deselect (cid_seen card)
block_seen (Wait multiplier power card) = wait multiplier power (cid_seen card)

-- a block that was read, or a fault
abbrev pub seen : Result coded.Block BlockFault → Reading
seen (Ok block) = valid (block_seen block)
seen (Err why) = invalid (block_cause why)

-- where the information of a block begins, the control byte being 1
abbrev pub information_place : Cid → ℕ
information_place card = 2 + cid_size (follows card)

-- the information of an I-block that was read is the part, from its place on, of bytes whose first stands at the place `first`
abbrev pub Placed : ℕ → List ℕ → Result coded.Block BlockFault → Type 0
Placed first bytes (Ok (I chaining bit card place information)) =
    (place ≡ information_place (cid_seen card)) × (information.now ≡ drop (place - first) bytes)
Placed first bytes (Ok (R nak bit card)) = Unit {0}
Placed first bytes (Ok (Deselect card)) = Unit {0}
Placed first bytes (Ok (Wait multiplier power card)) = Unit {0}
Placed first bytes (Err why) = Unit {0}
