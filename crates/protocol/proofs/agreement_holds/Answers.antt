use Rattle.protocol.proofs.Agreed.{agreement}
use Rattle.protocol.proofs.Driving.{ends_done}
use Rattle.protocol.proofs.Ground.{ground}
use Rattle.protocol.proofs.Rested.{laws}
use Rattle.protocol.proofs.agreement_holds.Goals as goal

pub returns : goal.returns
returns g c =
    λ u s run in_range_lem card-in-range keeps r. (
      agreement laws u s (ground u.reader u.card in_range_lem card-in-range) keeps run r,
      ends_done u s laws (ground u.reader u.card in_range_lem card-in-range) keeps run r,
    )
