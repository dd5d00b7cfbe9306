use Rattle.std.proofs.lemmas.Result.{err_from_is_err_and}
use Rattle.std.proofs.Common.{Ok, Err}
use Rattle.gamut.specs.Maps.{map_oklab}
use Rattle.strip.specs.Entries.{in_plain}
use Rattle.strip.specs.Strip.{draw_steps}
use Rattle.strip.specs.StripMeans.{follows_on}
use Rattle.strip.proofs.panel.PanelTurn.turn.Goals as goal

pub returns-in_err-color-clause-value : goal.returns-in_err-color-clause-value
returns-in_err-color-clause-value g c =
    let n = g.N.Number in
    let p = err_from_is_err_and c.from_residual.result c.from_residual.ensures.1 in
    rw (p.1, p.2)
    (follows_on n.means (g.B.Boundary.meaning c.args.boundary.now) (in_plain (map_oklab n.plain)) (draw_steps n.ops n.traced c.args.x) (Err c.in_err-color.field-0.0) c.in_err-color.ensures.value)

pub returns-clause-value : goal.returns-clause-value
returns-clause-value g c =
    let n = g.N.Number in
    rw c.to_plain.ensures
    (follows_on n.means (g.B.Boundary.meaning c.args.boundary.now) (in_plain (map_oklab n.plain)) (draw_steps n.ops n.traced c.args.x) (Ok c.in_ok-color.color) c.in_ok-color.ensures.value)
