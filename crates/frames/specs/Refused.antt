-- The number of each refusal.
use Rattle.std.specs.Prelude.{ℕ}
use Rattle.frames.specs.declared.refusal.Refusal.{Refusal}
use Rattle.frames.specs.declared.refusal.Refusal.TheVariants.{Setting, Rate, Length, Stage, Buffer}
use Rattle.frames.specs.Refusals.{setting_refused, rate_refused, length_refused, stage_refused, buffer_refused}

abbrev pub refusal_number : Refusal → ℕ
refusal_number Setting = setting_refused
refusal_number Rate = rate_refused
refusal_number Length = length_refused
refusal_number Stage = stage_refused
refusal_number Buffer = buffer_refused
