-- What a buffer holds after bytes were put into it.
use Rattle.std.specs.Prelude.{ℕ, ◌+◌, List, ◌++◌, length, take, drop}

-- bytes at the front, and behind them what stood there
abbrev pub over : List ℕ → List ℕ → List ℕ
over bytes old = bytes ++ drop (length bytes) old

-- bytes at a place; what stood before and behind them is unchanged
abbrev pub over_at : ℕ → List ℕ → List ℕ → List ℕ
over_at at bytes old = take at old ++ (bytes ++ drop (at + length bytes) old)
