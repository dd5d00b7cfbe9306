use borrow.Author.Rules.{rules}
use Rattle.gamut.proofs.ToeMeans.{toe-means}
use Rattle.gamut.proofs.toe.toe.Goals as goal

pub returns-clause-meaning : goal.returns-clause-meaning
returns-clause-meaning g c = search (rules, toe-means g.met.N.Number.hom)
