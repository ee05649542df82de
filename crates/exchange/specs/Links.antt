-- What a link stands for, and which ATS gives one.
use Rattle.std.specs.Prelude.{ℕ, cond, Some, None, Option, nat_lt}
use Rattle.activation.specs.Ats.{Ats}
use Rattle.activation.specs.Writing.{ats_valid}
use Rattle.frames.specs.Check.{both}
use Rattle.frames.specs.Views.{cid_seen}
use Rattle.protocol.specs.Reader.{Link, link_of}
use Rattle.protocol.specs.Settings.{ReaderSettings}
use Rattle.exchange.specs.declared.link.Link as coded

abbrev pub link_seen : coded.Link → Link
link_seen l =
    record { fsc = l.fsc; fwi = l.fwi; ta = l.ta; cid = cid_seen l.card; dsi = l.dsi; dri = l.dri }

-- settings of which only the card number matters to a link
abbrev pub numbering : ℕ → ReaderSettings
numbering n = record { fsdi = 0; cid = n; repeats = 0; waits = 0 }

-- an ATS without reserved values gives a link with this card number, if that is 0 to 14
abbrev pub link_for : Ats → ℕ → Option Link
link_for a n = cond (both (ats_valid a) (nat_lt n 15)) (Some (link_of (numbering n) a)) None

-- a link, or none
abbrev pub link_made : Option coded.Link → Option Link
link_made (Some l) = Some (link_seen l)
link_made None = None
