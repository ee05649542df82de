-- What holds of the values that were read.
use Rattle.std.specs.Prelude.{◌≡◌, ℕ, ◌<◌, ◌≤◌}
use Rattle.frames.specs.Sizes.{greatest_code}
use Rattle.activation.specs.declared.request.Rats.{Rats}
use Rattle.activation.specs.declared.selection.Pps.{Pps}
use Rattle.activation.specs.Pps.{greatest_rate}

-- neither the code nor the number is reserved
abbrev pub RatsInRange : Rats → Type 0
RatsInRange r = (r.fsdi ≤ greatest_code) × (r.cid < 15)

-- the PPS is for the card of this number, and the codes are those of divisors
abbrev pub PpsFor : ℕ → Pps → Type 0
PpsFor cid p = (p.cid ≡ cid) × (p.dsi ≤ greatest_rate) × (p.dri ≤ greatest_rate)
