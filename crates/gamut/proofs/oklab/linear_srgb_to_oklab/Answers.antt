use borrow.Author.Rules.{rules}
use Rattle.gamut.specs.Oklab.{linear_srgb_to_oklab}
use Rattle.gamut.proofs.OklabMeans.{linear_srgb_to_oklab-means}
use Rattle.gamut.proofs.oklab.linear_srgb_to_oklab.Goals as goal

pub returns-clause-meaning : goal.returns-clause-meaning
unfolding linear_srgb_to_oklab
returns-clause-meaning g c = search (rules, linear_srgb_to_oklab-means g.met.N.Number.hom)
