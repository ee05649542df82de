-- What is printed.
use Rattle.std.specs.Prelude.{ℕ, zero, suc, ◌/◌, ◌%◌, cond, List, [], ◌∷◌, ◌++◌, codes, decimal, ◌==◌}
use Rattle.script.specs.Rows.{says_text}
use Rattle.text.specs.Fields.{◌then◌}
use Rattle.sweeping.specs.Plans.{loss_of}
use Rattle.sweeping.specs.Rows.{Row}
use Rattle.sweeping.specs.RowViews.{row_seen}
use Rattle.sweeping.specs.declared.line.Line as printed
use Rattle.sweeping.specs.declared.line.Line.TheVariants.{Names, Ended, Sum}
use Rattle.sweeping.specs.declared.run.Run.{Run}
use Rattle.sweeping.specs.declared.plan.Loss.{Loss}
use Rattle.sweeping.specs.declared.plan.Loss.TheVariants.{Whole, Lost, Spoilt, Muted, Noisy}
use Rattle.sweeping.specs.declared.told.Times.{Times}
use Rattle.sweeping.specs.declared.told.Times.TheVariants.{Never, Once, Oftener}

-- the header
abbrev pub names_text : List ℕ
names_text = codes "turn losses result frames says card" ++ (10 ∷ [])

-- l, s, m and n for the four losses
abbrev pub letter_of : Loss → ℕ
letter_of Whole = 45
letter_of Lost = 108
letter_of Spoilt = 115
letter_of Muted = 109
letter_of Noisy = 110

-- a letter for each digit to base 4, the lowest first
abbrev pub letters_text : ℕ → ℕ → List ℕ
letters_text zero code = []
letters_text (suc n) code = letter_of (loss_of (code % 4)) ∷ letters_text n (code / 4)

-- a run of losses; a dash where there is none
abbrev pub word_text : ℕ → ℕ → List ℕ
word_text count code = cond (count == 0) (codes "-") (letters_text count code)

-- whether the application was given the command
abbrev pub card_text : Times → List ℕ
card_text Never = codes "nottaken"
card_text Once = codes "taken"
card_text Oftener = codes "taken"

-- how a run ended: result, frames, what the reader says, what is true at the card
abbrev pub end_text : Row → List ℕ
end_text r =
    decimal r.result then decimal r.frames then says_text r.says then (card_text r.times ++ (10 ∷ []))

-- a row: the first turn that suffers a loss, the losses, and how the run ended
abbrev pub row_text : Run → Row → List ℕ
row_text run r = decimal run.first then word_text run.count run.code then end_text r

-- the last line
abbrev pub sum_text : ℕ → ℕ → List ℕ
sum_text runs disagreements =
    codes "runs" then decimal runs then codes "disagreements" then (decimal disagreements ++ (10 ∷ []))

-- the text of a line
abbrev pub line_text : printed.Line → List ℕ
line_text Names = names_text
line_text (Ended run row) = row_text run (row_seen row)
line_text (Sum runs disagreements) = sum_text runs disagreements
