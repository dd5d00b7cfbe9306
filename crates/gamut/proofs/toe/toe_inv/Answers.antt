use borrow.Author.Rules.{rules}
use Rattle.gamut.proofs.ToeMeans.{toe_inv-means}
use Rattle.gamut.proofs.toe.toe_inv.Goals as goal

pub returns-clause-meaning : goal.returns-clause-meaning
returns-clause-meaning g c = search (rules, toe_inv-means g.met.N.Number.hom)
