-- What a cut of a line stands for.
use Rattle.std.specs.Prelude.{ℕ, List, Some, None, Option}
use Rattle.std.specs.Borrow.{Bor}
use Rattle.text.specs.Words.{Cut}

abbrev pub cut_seen : Option (Bor (List ℕ) × Bor (List ℕ)) → Option Cut
cut_seen None = None
cut_seen (Some p) = Some (record { first = p.0.now; rest = p.1.now })
