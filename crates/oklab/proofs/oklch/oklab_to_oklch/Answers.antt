-- What an answer means follows from what it is.
use Rattle.std.proofs.Common.{rules}
use Rattle.oklab.proofs.ConversionMeans.{oklch_of_oklab-means}
use Rattle.oklab.proofs.oklch.oklab_to_oklch.Goals as goal

pub returns-in_err-chromatic-clause-meaning : goal.returns-in_err-chromatic-clause-meaning
returns-in_err-chromatic-clause-meaning g c = oklch_of_oklab-means g.met.N.Number.hom g.N.Number.traced c.args.color c.from_residual.result (search rules)

pub returns-clause-meaning : goal.returns-clause-meaning
returns-clause-meaning g c = oklch_of_oklab-means g.met.N.Number.hom g.N.Number.traced c.args.color c.settled.result (search rules)
