-- The result by its definition, opened.
use Rattle.std.proofs.Common.{rules}
use Rattle.oklab.specs.Okhsv.{oklab_on_triangle}
use Rattle.oklab.proofs.okhsv.oklab_on_triangle.Goals as goal

pub returns : goal.returns
unfolding oklab_on_triangle
returns g c = search rules
