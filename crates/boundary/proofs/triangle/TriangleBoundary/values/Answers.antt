use Rattle.std.proofs.Common.{ap, ◌∙◌}
use Rattle.gamut.specs.Maps.{map_values}
use Rattle.boundary.proofs.Rules.{triangle-carried}
use Rattle.boundary.proofs.triangle.TriangleBoundary.values.Goals as goal

pub returns-clause-gives : goal.returns-clause-gives
returns-clause-gives g c =
    ap (map_values g.N.Number.means) c.at.ensures
    ∙ triangle-carried g.met.N.Number.hom c.args.self.now.s c.args.self.now.t c.args.query.now.lightness
