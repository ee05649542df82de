-- The law of bytes as text.
use Rattle.std.specs.Prelude.{◌≡◌, ℕ, List, Some}
use Rattle.frames.specs.Laws.{Bytes}
use Rattle.text.specs.Hex.{bytes_in, shown_bytes}

-- what is printed of bytes is read as those bytes
abbrev pub ComesBack : Type 0
ComesBack = (bytes : List ℕ) → Bytes bytes → bytes_in (shown_bytes bytes) ≡ Some bytes
