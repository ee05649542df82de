-- Input and output, line by line.
use Rattle.std.specs.Prelude.{ℕ, ◌+◌, cond, List, [], ◌∷◌, ◌++◌, is_some, Some, None, Option}
use Rattle.text.specs.Lines.{lines_of, bad_text}
use Rattle.inspection.specs.Tasks.{Task, task_of}
use Rattle.inspection.specs.Texts.{task_text}

-- the line that answers a task
abbrev pub line_text : Option Task → List ℕ
line_text None = []
line_text (Some t) = task_text t ++ (10 ∷ [])

-- an answer for each line, the first of which is line n, up to one that cannot be read
abbrev pub output_from : ℕ → List (List ℕ) → List ℕ
output_from n [] = []
output_from n (l ∷ ls) = line_text (task_of l) ++ cond (is_some (task_of l)) (output_from (n + 1) ls) (bad_text n)

-- what is printed for an input
abbrev pub output : List ℕ → List ℕ
output input = output_from 1 (lines_of input)
