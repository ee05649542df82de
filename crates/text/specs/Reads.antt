-- What a reader gives, beside what the definition says.
use Rattle.std.specs.Prelude.{◌≡◌, ⊤, Some, None, Ok, Err, Option, Result}
use Rattle.text.specs.declared.error.ReadError.{ReadError}
use Rattle.text.specs.declared.error.ReadError.TheVariants.{Unreadable, OutOfMemory}

-- what is read is what the definition gives, and nothing is read exactly where it gives nothing; unless memory is refused
abbrev pub Reads : {T V : Type 0} → (T → V) → Option V → Result T ReadError → Type 0
Reads seen due (Ok v) = Some (seen v) ≡ due
Reads seen due (Err Unreadable) = None ≡ due
Reads seen due (Err (OutOfMemory e)) = ⊤

-- memory is refused
abbrev pub IsOutOfMemory : ReadError → Type 0
IsOutOfMemory Unreadable = ⊥
IsOutOfMemory (OutOfMemory e) = ⊤
