use borrow.Author.Rules.{rules}
use Rattle.gamut.specs.Oklab.{xyz_to_oklab}
use Rattle.gamut.proofs.OklabMeans.{xyz_to_oklab-means}
use Rattle.gamut.proofs.oklab.xyz_to_oklab.Goals as goal

pub returns-clause-meaning : goal.returns-clause-meaning
unfolding xyz_to_oklab
returns-clause-meaning g c = search (rules, xyz_to_oklab-means g.met.N.Number.hom)
