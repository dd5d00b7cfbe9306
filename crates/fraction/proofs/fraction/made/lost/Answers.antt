use Rattle.std.proofs.Common.{refl, lit<, lit≤}
use Rattle.fraction.specs.Fractions.{gcd-one}
use Rattle.fraction.proofs.fraction.made.lost.Goals as goal

pub invariant_of-result : goal.invariant_of-result
invariant_of-result c = record { positive = lit< tt; lower = lit≤ tt; upper = lit≤ tt; lowest = gcd-one; empty = (λ _. (refl, refl)) }
