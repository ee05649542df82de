-- What a host is told when a call is refused for a fault of its own: only this number.
use Rattle.std.specs.Prelude.{ℕ}

-- a setting is out of its range
abbrev pub setting_refused : ℕ
setting_refused = 1

-- a rate that the card does not offer, or two rates where it offers only equal ones
abbrev pub rate_refused : ℕ
rate_refused = 2

-- a command, or a body to be sealed, of a length that cannot be sent
abbrev pub length_refused : ℕ
length_refused = 3

-- a call that does not belong to the session's stage
abbrev pub stage_refused : ℕ
stage_refused = 4

-- a buffer that may be too small
abbrev pub buffer_refused : ℕ
buffer_refused = 5
