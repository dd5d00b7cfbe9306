use borrow.Author.Rules.{rules}
use Rattle.gamut.specs.Oklab.{oklab_to_xyz}
use Rattle.gamut.proofs.OklabMeans.{oklab_to_xyz-means}
use Rattle.gamut.proofs.xyz.oklab_to_xyz.Goals as goal

pub returns-clause-meaning : goal.returns-clause-meaning
unfolding oklab_to_xyz
returns-clause-meaning g c = search (rules, oklab_to_xyz-means g.met.N.Number.hom)
