-- The rows that are printed.
use Rattle.std.specs.Prelude.{ℕ, List, [], ◌∷◌, ◌++◌, codes, decimal}
use Rattle.exchange.specs.Views.{says_seen}
use Rattle.protocol.specs.Reader.{Says, none, done, taken, not_taken, doubt}
use Rattle.script.specs.declared.row.Row.{Row}
use Rattle.text.specs.Fields.{◌then◌}
use Rattle.text.specs.Hex.{shown_bytes}

-- the header
abbrev pub row_names : List ℕ
row_names = codes "call result frame answer says"

-- what the reader says of its command
abbrev pub says_text : Says → List ℕ
says_text none = codes "none"
says_text done = codes "done"
says_text taken = codes "taken"
says_text not_taken = codes "nottaken"
says_text doubt = codes "doubt"

-- a call's word and its result
abbrev pub result_text : List ℕ → ℕ → List ℕ
result_text word result = word then decimal result then []

-- the frame that it wrote and the answer that it ended with (a dash for none), and what the reader says
abbrev pub shown_text : List ℕ → List ℕ → Says → List ℕ
shown_text frame answer says = shown_bytes frame then shown_bytes answer then (says_text says ++ (10 ∷ []))

-- a call's row
abbrev pub row_text : List ℕ → ℕ → List ℕ → List ℕ → Says → List ℕ
row_text word result frame answer says = result_text word result ++ shown_text frame answer says

-- the row that a value of the crate stands for
abbrev pub row_shown : Row → List ℕ
row_shown r = row_text r.word.now r.result r.frame.now r.answer.now (says_seen r.says)
