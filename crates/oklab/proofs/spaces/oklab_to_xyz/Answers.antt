-- What an answer means follows from what it is.
use Rattle.std.proofs.Common.{rules}
use Rattle.oklab.proofs.ConversionMeans.{xyz_of_oklab-means}
use Rattle.oklab.proofs.spaces.oklab_to_xyz.Goals as goal

pub returns-in_err-check_range-clause-meaning : goal.returns-in_err-check_range-clause-meaning
returns-in_err-check_range-clause-meaning g c = xyz_of_oklab-means g.met.N.Number.hom g.N.Number.traced c.args.color c.from_residual.result (search rules)

pub returns-clause-meaning : goal.returns-clause-meaning
returns-clause-meaning g c = xyz_of_oklab-means g.met.N.Number.hom g.N.Number.traced c.args.color c.settled.result (search rules)
