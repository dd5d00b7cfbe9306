-- What an answer means follows from what it is.
use Rattle.std.proofs.Common.{rules}
use Rattle.oklab.proofs.ConversionMeans.{oklab_of_oklch-means}
use Rattle.oklab.proofs.oklch.oklch_to_oklab.Goals as goal

pub returns-in_err-check_range-clause-meaning : goal.returns-in_err-check_range-clause-meaning
returns-in_err-check_range-clause-meaning g c = oklab_of_oklch-means g.met.N.Number.hom g.N.Number.traced c.args.color c.from_residual.result (search rules)

pub returns-in_err-check_direction-clause-meaning : goal.returns-in_err-check_direction-clause-meaning
returns-in_err-check_direction-clause-meaning g c = oklab_of_oklch-means g.met.N.Number.hom g.N.Number.traced c.args.color c.from_residual-in_err-check_direction.result (search rules)

pub returns-clause-meaning : goal.returns-clause-meaning
returns-clause-meaning g c = oklab_of_oklch-means g.met.N.Number.hom g.N.Number.traced c.args.color c.settled.result (search rules)
