use borrow.Author.Rules.{rules}
use Rattle.gamut.specs.Oklab.{oklab_to_linear_srgb}
use Rattle.gamut.proofs.OklabMeans.{oklab_to_linear_srgb-means}
use Rattle.gamut.proofs.oklab.oklab_to_linear_srgb.Goals as goal

pub returns-clause-meaning : goal.returns-clause-meaning
unfolding oklab_to_linear_srgb
returns-clause-meaning g c = search (rules, oklab_to_linear_srgb-means g.met.N.Number.hom)
