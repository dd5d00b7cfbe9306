use Rattle.std.proofs.Common.{Ok, Err, sym}
use Rattle.std.proofs.lemmas.Result.{err_from_is_err_and}
use Rattle.strip.specs.StripMeans.{drawn, draw_steps-carried}
use Rattle.strip.proofs.panel.draw.Goals as goal

pub returns-in_err-color-clause-value : goal.returns-in_err-color-clause-value
returns-in_err-color-clause-value g c =
    let n = g.N.Number in
    let p = err_from_is_err_and c.from_residual-in_err-color.result c.from_residual-in_err-color.ensures.1 in
    rw (p.1, p.2)
    (drawn n.means (g.B.Boundary.meaning c.args.boundary.now) n.ops n.traced c.args.reading c.shade.result (Err c.in_err-color.field-0.0) (sym c.in_ok-check.ensures) c.shade.ensures c.in_err-color.ensures.value)

pub returns-in_err-color-clause-meaning : goal.returns-in_err-color-clause-meaning
returns-in_err-color-clause-meaning g c =
    (draw_steps-carried g.met.N.Number.hom g.N.Number.traced c.args.reading).carries _ c.from_residual-in_err-color.result (returns-in_err-color-clause-value g c)

pub returns-clause-value : goal.returns-clause-value
returns-clause-value g c =
    let n = g.N.Number in
    drawn n.means (g.B.Boundary.meaning c.args.boundary.now) n.ops n.traced c.args.reading c.shade.result (Ok c.in_ok-color.color) (sym c.in_ok-check.ensures) c.shade.ensures c.in_ok-color.ensures.value

pub returns-clause-meaning : goal.returns-clause-meaning
returns-clause-meaning g c = (draw_steps-carried g.met.N.Number.hom g.N.Number.traced c.args.reading).carries _ (Ok c.in_ok-color.color) (returns-clause-value g c)
