use Rattle.strip.proofs.curve.curve_rises.Goals as goal
use Rattle.rational.proofs.Curve.{curve_holds}
use Rattle.strip.proofs.Curves.{curve-meant}

pub returns-clause-curve : goal.returns-clause-curve
returns-clause-curve g c = curve_holds

pub returns-clause-meaning : goal.returns-clause-meaning
returns-clause-meaning g c = curve-meant g.N.Number.arith (g.met.N.Number.exactness c.is_exact.ensures.1)
