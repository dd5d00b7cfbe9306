use Rattle.std.proofs.Common.{refl}
use lib.Ieee.{of_bits, round}
use Rattle.number.proofs.float32.accepted_direction.Goals as goal

pub returns : goal.returns
unfolding of_bits round
returns c = refl
