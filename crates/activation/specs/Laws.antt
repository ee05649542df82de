-- The laws of the activation formats: what one end writes the other reads.
use Rattle.std.specs.Prelude.{◌≡◌, ℕ, ◌+◌, ◌-◌, ◌<◌, ◌≤◌, true, List, ◌++◌, length, slice_index_or}
use Rattle.frames.specs.Check.{seal}
use Rattle.frames.specs.Laws.{Bytes}
use Rattle.frames.specs.Sizes.{greatest_code}
use Rattle.activation.specs.Heard.{hear_rats, hear_pps, hear_pps_answer, agreed}
use Rattle.activation.specs.Rats.{rats_of, read_rats, rats}
use Rattle.activation.specs.Pps.{pps_of, pps_answer, read_pps, pps, is_pps_answer, greatest_rate}
use Rattle.activation.specs.Ats.{Ats, ats_of, read_ats, hear_ats, good, ta_good}

-- a RATS with a size code and a card number that are not reserved is read as it was written
abbrev pub ReadsRats : Type 0
ReadsRats = (fsdi cid : ℕ) → fsdi ≤ greatest_code → cid < 15 → read_rats (rats_of fsdi cid) ≡ rats fsdi cid

-- what is read as a RATS is that RATS, without reserved values
abbrev pub ReadsOnlyRats : Type 0
ReadsOnlyRats =
    (body : List ℕ) (fsdi cid : ℕ)
    → read_rats body ≡ rats fsdi cid
    → (body ≡ rats_of fsdi cid) × (fsdi ≤ greatest_code) × (cid < 15)

-- an ATS without reserved values
pub record ValidAts (a : Ats) : Type 0 where
  pub fsci_high : a.fsci ≤ greatest_code
  pub ta_byte : a.ta < 256
  pub ta_allowed : ta_good a.ta ≡ true
  pub fwi_high : a.fwi < 15
  pub sfgi_high : a.sfgi < 15
  pub tc_high : a.tc < 4

-- an ATS that the reader's frame holds is read as it was written
abbrev pub ReadsAts : Type 0
ReadsAts = (fsd : ℕ) (a : Ats) → ValidAts a → 5 + length a.historical ≤ fsd - 2 → read_ats fsd (ats_of a) ≡ good a

-- an ATS that is read has no reserved values
abbrev pub GoodIsValid : Type 0
GoodIsValid = (fsd : ℕ) (body : List ℕ) (a : Ats) → Bytes body → read_ats fsd body ≡ good a → ValidAts a

-- and TL counts all its bytes, which the reader's frame holds with the check, and the historical bytes end it
pub record Whole (fsd : ℕ) (body : List ℕ) (a : Ats) : Type 0 where
  pub counted : slice_index_or body 0 0 ≡ length body
  pub some : 0 < length body
  pub held : length body ≤ fsd - 2
  pub ends : (front : List ℕ) × (body ≡ front ++ a.historical)

abbrev pub GoodIsWhole : Type 0
GoodIsWhole = (fsd : ℕ) (body : List ℕ) (a : Ats) → read_ats fsd body ≡ good a → Whole fsd body a

-- a PPS is read as it was written, by the card that it is for
abbrev pub ReadsPps : Type 0
ReadsPps = (cid dsi dri : ℕ) → dsi ≤ greatest_rate → dri ≤ greatest_rate → read_pps cid (pps_of cid dsi dri) ≡ pps dsi dri

-- what is read as a PPS is that PPS
abbrev pub ReadsOnlyPps : Type 0
ReadsOnlyPps =
    (cid : ℕ) (body : List ℕ) (dsi dri : ℕ)
    → read_pps cid body ≡ pps dsi dri
    → (body ≡ pps_of cid dsi dri) × (dsi ≤ greatest_rate) × (dri ≤ greatest_rate)

-- the response is taken for what it is, and no other body
abbrev pub ReadsPpsAnswer : Type 0
ReadsPpsAnswer = (cid : ℕ) (body : List ℕ) → is_pps_answer cid body ≡ true → body ≡ pps_answer cid

abbrev pub TakesPpsAnswer : Type 0
TakesPpsAnswer = (cid : ℕ) → is_pps_answer cid (pps_answer cid) ≡ true

-- the same of whole frames: what one end writes and the other's frame holds is heard as it was written
abbrev pub HearsRats : Type 0
HearsRats =
    (limit fsdi cid : ℕ)
    → fsdi ≤ greatest_code
    → cid < 15
    → 4 ≤ limit
    → hear_rats limit (seal (rats_of fsdi cid)) ≡ rats fsdi cid

abbrev pub HearsAts : Type 0
HearsAts =
    (fsd : ℕ) (a : Ats) → ValidAts a → 5 + length a.historical ≤ fsd - 2 → hear_ats fsd (seal (ats_of a)) ≡ good a

abbrev pub HearsPps : Type 0
HearsPps =
    (limit cid dsi dri : ℕ)
    → dsi ≤ greatest_rate
    → dri ≤ greatest_rate
    → 5 ≤ limit
    → hear_pps limit cid (seal (pps_of cid dsi dri)) ≡ pps dsi dri

abbrev pub HearsPpsAnswer : Type 0
HearsPpsAnswer = (fsd cid : ℕ) → 3 ≤ fsd → hear_pps_answer fsd cid (seal (pps_answer cid)) ≡ agreed
