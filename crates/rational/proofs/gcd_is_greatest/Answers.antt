-- The theorem that the contract of `gcd_is_greatest` names.
use Rattle.rational.proofs.gcd_is_greatest.Goals as goal
use Rattle.rational.specs.Gcd.{gcd_left, gcd_right, gcd_greatest}

pub returns : goal.returns
returns c = λ a b. (gcd_left a b, gcd_right a b, gcd_greatest a b)
