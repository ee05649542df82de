-- An ATS with a reserved waiting time.
use Rattle.std.specs.Prelude.{◌≡◌, ℕ, ◌≤◌, List, [], ◌∷◌}
use Rattle.frames.specs.Causes.{cause, activation}
use Rattle.frames.specs.Check.{seal}
use Rattle.activation.specs.Ats.{read_ats, hear_ats, bad}

-- TL 5, T0 with TA, TB and TC and frame size code 8, TA 00, waiting time 15 and guard time 0, TC 02
abbrev pub waiting15 : List ℕ
waiting15 = 0x05 ∷ 0x78 ∷ 0x00 ∷ 0xF0 ∷ 0x02 ∷ []

-- it is refused at every frame size, by the reserved value in its fourth byte
abbrev pub Waiting15Fails : Type 0
Waiting15Fails = (fsd : ℕ) → 16 ≤ fsd → read_ats fsd waiting15 ≡ bad (cause 28 4 activation)

-- and its frame likewise
abbrev pub Waiting15FrameFails : Type 0
Waiting15FrameFails = (fsd : ℕ) → 16 ≤ fsd → hear_ats fsd (seal waiting15) ≡ bad (cause 28 4 activation)
