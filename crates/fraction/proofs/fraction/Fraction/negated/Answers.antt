use Rattle.std.proofs.Common.{refl}
use Rattle.fraction.proofs.Casts.{passed_negative}
use Rattle.fraction.proofs.Values.{negative_means}
use Rattle.fraction.proofs.fraction.Fraction.negated.Goals as goal

pub returns : goal.returns
returns c = let q = c.args.self in negative_means q _ (passed_negative q.numerator q.upper) refl
