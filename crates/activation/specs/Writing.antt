-- What writing a frame answers, and the frame: a value that is reserved is refused as a setting, and then the buffer or the
-- length as for any frame.
use Rattle.std.specs.Prelude.{ℕ, ◌+◌, ◌*◌, Bool, cond, List, [], ◌∷◌, length, Err, Result, nat_le, nat_lt}
use Rattle.frames.specs.declared.refusal.Refusal.{Refusal}
use Rattle.frames.specs.declared.refusal.Refusal.TheVariants.{Setting}
use Rattle.frames.specs.Check.{both, seal}
use Rattle.frames.specs.Sealing.{sealing}
use Rattle.frames.specs.Sizes.{greatest_code}
use Rattle.activation.specs.declared.request.Rats.{Rats}
use Rattle.activation.specs.declared.selection.Pps.{Pps}
use Rattle.activation.specs.Ats.{Ats, ats_of, ta_good}
use Rattle.activation.specs.Pps.{pps_of, pps_answer, greatest_rate}
use Rattle.activation.specs.Rats.{rats_of}

-- neither the code nor the number of a RATS is reserved
abbrev pub rats_valid : Rats → Bool
rats_valid r = both (nat_le r.fsdi greatest_code) (nat_lt r.cid 15)

-- the frame of a RATS
abbrev pub rats_frame : Rats → List ℕ
rats_frame r = seal (rats_of r.fsdi r.cid)

-- what writing a RATS into a buffer of this length answers
abbrev pub rats_writing : Rats → ℕ → Result ℕ Refusal
rats_writing r buffer = cond (rats_valid r) (sealing (rats_of r.fsdi r.cid) buffer) (Err Setting)

-- the number is not reserved, and the codes are those of divisors
abbrev pub pps_valid : Pps → Bool
pps_valid p = both (nat_lt p.cid 15) (both (nat_le p.dsi greatest_rate) (nat_le p.dri greatest_rate))

-- the frame of a PPS
abbrev pub pps_frame : Pps → List ℕ
pps_frame p = seal (pps_of p.cid p.dsi p.dri)

-- what writing a PPS answers
abbrev pub pps_writing : Pps → ℕ → Result ℕ Refusal
pps_writing p buffer = cond (pps_valid p) (sealing (pps_of p.cid p.dsi p.dri) buffer) (Err Setting)

-- the frame of the response to a PPS
abbrev pub pps_answer_frame : ℕ → List ℕ
pps_answer_frame cid = seal (pps_answer cid)

-- what writing the response answers
abbrev pub pps_answer_writing : ℕ → ℕ → Result ℕ Refusal
pps_answer_writing cid buffer = cond (nat_lt cid 15) (sealing (pps_answer cid) buffer) (Err Setting)

-- an ATS without reserved values
abbrev pub ats_valid : Ats → Bool
ats_valid a =
    both (nat_le a.fsci greatest_code)
    (both (ta_good a.ta) (both (nat_lt a.fwi 15) (both (nat_lt a.sfgi 15) (nat_lt a.tc 4))))

-- what stands before the historical bytes
abbrev pub ats_head : Ats → List ℕ
ats_head a = (5 + length a.historical) ∷ (0x70 + a.fsci) ∷ a.ta ∷ (16 * a.fwi + a.sfgi) ∷ a.tc ∷ []

-- the frame of an ATS
abbrev pub ats_frame : Ats → List ℕ
ats_frame a = seal (ats_of a)

-- what writing an ATS answers
abbrev pub ats_writing : Ats → ℕ → Result ℕ Refusal
ats_writing a buffer = cond (ats_valid a) (sealing (ats_of a) buffer) (Err Setting)
