-- The result by its definition, opened.
use Rattle.std.proofs.Common.{rules}
use Rattle.oklab.specs.Okhsv.{scale_factor}
use Rattle.oklab.proofs.okhsv.Polar.scale_factor.Goals as goal

pub returns : goal.returns
unfolding scale_factor
returns g c = search rules
