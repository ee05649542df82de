-- The job that a line asks for.
use Rattle.std.specs.Prelude.{ℕ, cond, List, Some, None, codes, Option}
use Rattle.std.specs.Option.{option_map}
use Rattle.frames.specs.Reading.{Agreed}
use Rattle.text.specs.Hex.{bytes_in}
use Rattle.inspection.specs.Words.{limit_in, card_in}
use Rattle.text.specs.Words.{Cut, cut_of, spells}

pub data Task : Type 0 where
  sealing : (body : List ℕ) → Task
  reading : (limit : ℕ) → Agreed → (frame : List ℕ) → Task
  hearing : (fsd : ℕ) → (frame : List ℕ) → Task

abbrev pub with_frame : ℕ → Option Agreed → Option (List ℕ) → Option Task
with_frame limit None frame = None
with_frame limit (Some agreed) None = None
with_frame limit (Some agreed) (Some frame) = Some (reading limit agreed frame)

abbrev pub with_card : Option ℕ → Option Cut → Option Task
with_card None k = None
with_card (Some limit) None = None
with_card (Some limit) (Some k) = with_frame limit (card_in k.first) (bytes_in k.rest)

abbrev pub with_limit : Option Cut → Option Task
with_limit None = None
with_limit (Some k) = with_card (limit_in k.first) (cut_of k.rest)

abbrev pub with_ats : Option ℕ → Option (List ℕ) → Option Task
with_ats None frame = None
with_ats (Some fsd) None = None
with_ats (Some fsd) (Some frame) = Some (hearing fsd frame)

abbrev pub with_fsd : Option Cut → Option Task
with_fsd None = None
with_fsd (Some k) = with_ats (limit_in k.first) (bytes_in k.rest)

-- seal BODY, or read LIMIT CARD FRAME, or ats FSD FRAME
abbrev pub by_word : Option Cut → Option Task
by_word None = None
by_word (Some k) =
    cond (spells (codes "seal") k.first) (option_map (λ b. sealing b) (bytes_in k.rest))
    (cond (spells (codes "read") k.first) (with_limit (cut_of k.rest))
    (cond (spells (codes "ats") k.first) (with_fsd (cut_of k.rest)) None))

-- what a line asks for, if it can be read
abbrev pub task_of : List ℕ → Option Task
task_of line = by_word (cut_of line)
