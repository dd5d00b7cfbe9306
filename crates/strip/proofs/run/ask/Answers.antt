use Rattle.std.proofs.Common.{Ok, Err}
use Rattle.std.proofs.lemmas.Result.{err_from_is_err_and}
use Rattle.strip.specs.StripMeans.{asked_plain}
use Rattle.strip.proofs.run.ask.Goals as goal

pub returns-in_err-v-clause-value : goal.returns-in_err-v-clause-value
returns-in_err-v-clause-value g c =
    let n = g.N.Number in
    let p = err_from_is_err_and c.from_residual.result c.from_residual.ensures.1 in
    rw (p.1, p.2)
    (asked_plain n.means (g.B.Boundary.meaning c.args.boundary.now) n.ops n.traced n.plain n.back c.from_plain.ensures (Err c.in_err-v.field-0.0) c.in_err-v.ensures.gives)

pub returns-clause-value : goal.returns-clause-value
returns-clause-value g c =
    let n = g.N.Number in
    rw c.to_plain.ensures
    (asked_plain n.means (g.B.Boundary.meaning c.args.boundary.now) n.ops n.traced n.plain n.back c.from_plain.ensures (Ok c.in_ok-v.v) c.in_ok-v.ensures.gives)
