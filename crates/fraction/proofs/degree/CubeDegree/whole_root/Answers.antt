use Rattle.fraction.specs.Roots.{cube}
use Rattle.fraction.proofs.degree.CubeDegree.whole_root.Goals as goal

pub returns : goal.returns
returns c = simp cube c.whole_cbrt.ensures
