-- The cases, computed.
use mathlib.Core.Path.{refl}
use Rattle.rational.specs.Rational.{computes}
use Rattle.rational.specs.Nearest.{nearest}
use Rattle.rational.specs.Cases.{Cases}
use Rattle.rational.proofs.Ratios.{same_parts}

pub cases : Cases
unfolding computes nearest
cases = record {
  sum = same_parts refl refl;
  product = same_parts refl refl;
  quotient = same_parts refl refl;
  inverse_toe = same_parts refl refl;
  root_in_toe = (tt, same_parts refl refl);
  toe = same_parts refl refl;
  half_up = refl;
  half_down = refl;
  to_zero = refl;
  accepted = (tt, tt, tt);
  lower_piece = same_parts refl refl;
  upper_piece = same_parts refl refl;
  lower_back = same_parts refl refl;
  upper_back = same_parts refl refl;
}
