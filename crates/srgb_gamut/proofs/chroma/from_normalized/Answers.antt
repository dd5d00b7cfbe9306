use borrow.Author.Rules.{rules}
use Rattle.srgb_gamut.specs.Chroma.{chroma_values}
use Rattle.srgb_gamut.proofs.ChromaMeans.{chroma_values-means}
use Rattle.srgb_gamut.proofs.chroma.from_normalized.Goals as goal

pub returns-clause-meaning : goal.returns-clause-meaning
unfolding chroma_values
returns-clause-meaning g c = search (rules, chroma_values-means g.met.N.Number.hom)
