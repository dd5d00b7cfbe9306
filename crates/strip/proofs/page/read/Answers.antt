use Rattle.std.proofs.lemmas.Result.{err_from_is_err_and}
use Rattle.std.proofs.Common.{Ok, Err}
use Rattle.strip.specs.StripMeans.{read_off, unread, read_steps-carried}
use Rattle.strip.proofs.page.read.Goals as goal

pub returns-in_err-shade-clause-value : goal.returns-in_err-shade-clause-value
returns-in_err-shade-clause-value g c =
    let n = g.N.Number in
    let p = err_from_is_err_and c.from_residual.result c.from_residual.ensures.1 in
    rw (p.1, p.2) (unread n.means (g.B.Boundary.meaning c.args.boundary.now) n.ops n.traced c.args.color c.in_err-shade.field-0.0 c.in_err-shade.ensures.value)

pub returns-in_err-shown-clause-value : goal.returns-in_err-shown-clause-value
returns-in_err-shown-clause-value g c =
    let n = g.N.Number in
    let p = err_from_is_err_and c.from_residual-in_err-shown.result c.from_residual-in_err-shown.ensures.1 in
    rw (p.1, p.2)
    (read_off n.means (g.B.Boundary.meaning c.args.boundary.now) n.ops n.traced c.args.color c.in_ok-shade.shade (Err c.in_err-shown.field-0.0) c.in_err-shown.ensures c.in_ok-shade.ensures.value)

pub returns-in_err-shown-clause-meaning : goal.returns-in_err-shown-clause-meaning
returns-in_err-shown-clause-meaning g c =
    (read_steps-carried g.met.N.Number.hom g.N.Number.traced c.args.color).carries _ c.from_residual-in_err-shown.result (returns-in_err-shown-clause-value g c)

pub returns-clause-value : goal.returns-clause-value
returns-clause-value g c =
    let n = g.N.Number in
    read_off n.means (g.B.Boundary.meaning c.args.boundary.now) n.ops n.traced c.args.color c.in_ok-shade.shade (Ok c.in_ok-shown.shown) c.in_ok-shown.ensures c.in_ok-shade.ensures.value

pub returns-clause-meaning : goal.returns-clause-meaning
returns-clause-meaning g c = (read_steps-carried g.met.N.Number.hom g.N.Number.traced c.args.color).carries _ (Ok c.in_ok-shown.shown) (returns-clause-value g c)
