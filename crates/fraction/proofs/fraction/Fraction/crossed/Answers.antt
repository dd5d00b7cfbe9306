use Rattle.fraction.proofs.Casts.{product_is}
use Rattle.fraction.proofs.fraction.Fraction.crossed.Goals as goal

pub returns : goal.returns
returns c = let p = c.args.self in let q = c.args.other in product_is p.numerator q.denominator p.upper q.lower
