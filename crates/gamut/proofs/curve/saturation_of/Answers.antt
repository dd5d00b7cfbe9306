use borrow.Author.Rules.{rules}
use Rattle.gamut.proofs.CurveMeans.{saturation-means}
use Rattle.gamut.proofs.curve.saturation_of.Goals as goal

pub returns-clause-meaning : goal.returns-clause-meaning
returns-clause-meaning g c = search (rules, saturation-means g.met.N.Number.hom)
