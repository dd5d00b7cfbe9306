-- The result by its definition, opened.
use Rattle.std.proofs.Common.{rules}
use Rattle.oklab.specs.Okhsv.{okhsv_on_triangle}
use Rattle.oklab.proofs.okhsv.okhsv_coloured.Goals as goal

pub returns : goal.returns
unfolding okhsv_on_triangle
returns g c = search rules
