-- What is in range is written.
use Rattle.std.proofs.Common.{◌<◌, arith}
use Rattle.std.proofs.lemmas.Bool.{le-leb, lt-ltb}
use Rattle.frames.specs.Sizes.{greatest_code}
use Rattle.frames.proofs.Sealed.{sealing_goes}
use Rattle.activation.specs.Ats.{ats_of}
use Rattle.activation.specs.Pps.{pps_of, pps_answer, greatest_rate}
use Rattle.activation.specs.Rats.{rats_of}
use Rattle.activation.specs.Written.{WritesRats, WritesAts, WritesPps, WritesPpsAnswer}

pub writes_rats : WritesRats
writes_rats r buffer range room =
    rw (le-leb r.fsdi greatest_code range.0, lt-ltb r.cid 15 range.1)
    (sealing_goes (rats_of r.fsdi r.cid) buffer room (omega arith) (omega arith))

pub writes_ats : WritesAts
writes_ats a buffer v long room =
    rw (le-leb a.fsci greatest_code v.fsci_high, v.ta_allowed, lt-ltb a.fwi 15 v.fwi_high, lt-ltb a.sfgi 15 v.sfgi_high, lt-ltb a.tc 4 v.tc_high)
    (sealing_goes (ats_of a) buffer room (omega arith) (omega arith))

pub writes_pps : WritesPps
writes_pps p cid buffer range card room =
    let number : p.cid < 15 = omega (arith, range.0) in
    rw (lt-ltb p.cid 15 number, le-leb p.dsi greatest_rate range.1, le-leb p.dri greatest_rate range.2)
    (sealing_goes (pps_of p.cid p.dsi p.dri) buffer room (omega arith) (omega arith))

pub writes_pps_answer : WritesPpsAnswer
writes_pps_answer cid buffer card room =
    rw (lt-ltb cid 15 card) (sealing_goes (pps_answer cid) buffer room (omega arith) (omega arith))
