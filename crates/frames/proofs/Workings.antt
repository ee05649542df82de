-- The control bytes worked out by hand: each is computed.
use Rattle.std.proofs.Common.{refl}
use Rattle.frames.specs.Examples.{Examples}

pub control_bytes : Examples
control_bytes =
    record {
      i_13 = refl;
      chaining_13 = refl;
      number_13 = refl;
      made_13 = refl;
      r_b2 = refl;
      nak_b2 = refl;
      number_b2 = refl;
      made_b2 = refl;
      none_c3 = refl;
      none_e2 = refl;
      none_06 = refl;
    }
