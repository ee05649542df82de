use Rattle.protocol.proofs.Garbling.{noise_is_garbled_lem}
use Rattle.protocol.proofs.Rested.{laws}
use Rattle.protocol.proofs.noise_is_garbled.Goals as goal

pub returns : goal.returns
returns g c = noise_is_garbled_lem laws
