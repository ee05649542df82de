use Rattle.std.proofs.Common.{◌≡◌, ◌≤◌, drop}
use Rattle.text.specs.Words.{count_from, number_in}
use Rattle.text.proofs.words.number_in.Given as goal

abbrev pub invariant-loop-c : goal.invariant-loop-c
invariant-loop-c l = (count_from l.n (drop l.c-index l.field) ≡ number_in l.field) × (l.n ≤ 4294967296)
