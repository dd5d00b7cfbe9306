use borrow.Author.Rules.{rules}
use Rattle.gamut.proofs.CurveMeans.{chroma_means}
use Rattle.gamut.proofs.curve.chroma_of.Goals as goal

pub returns-clause-meaning : goal.returns-clause-meaning
returns-clause-meaning g c = search (rules, chroma_means g.met.N.Number.hom)
