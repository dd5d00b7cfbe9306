use Rattle.std.proofs.Common.{◌+◌, Ok, Err, sym, subst, arith, ◌∙◌}
use Rattle.std.proofs.lemmas.List.{length-set, drop-set-lt}
use Rattle.std.proofs.lemmas.Result.{err_from_is_err_and}
use Rattle.boundary.proofs.Rules.{stays_on}
use Rattle.oklab.specs.Steps.{run}
use Rattle.strip.specs.Fills.{Answering, Fills}
use Rattle.strip.proofs.FillSteps.{placed_ok, placed_err, drop_next, each_more, each_all, refused_at, fills_row}
use Rattle.strip.proofs.row.fill.Goals as goal

pub returns-in_err-answer-clause-meaning : goal.returns-in_err-answer-clause-meaning
returns-in_err-answer-clause-meaning g c =
    let t = g.T.Turn in
    let n = g.N.Number in
    let m = g.B.Boundary.meaning c.args.boundary.now in
    let answers = Answering n.means m t.steps in
    let x = c.index-from-i in
    let p = err_from_is_err_and c.from_residual.result c.from_residual.ensures.1 in
    let d = c.in_err-answer.field-0.0 in
    let was = placed_err c.loop-i.i d c.turn.result c.in_err-answer.ensures in
    let refused : answers x.result (Err d.fault) =
    subst (answers x.result) was.0
    (subst (λ k. Answering n.means k t.steps x.result c.turn.result) c.loop-i.invariant.2.same_meaning c.turn.ensures.value) in
    let fills : Fills answers c.args.from.now c.args.to.now c.from_residual.result c.loop-i.to =
    rw (p.1, p.2, was.1)
    (c.if-from-to.false, c.loop-i.invariant.3, refused_at answers c.loop-i.i c.args.from.now x.result d.fault (omega arith) x.is refused, c.loop-i.invariant.1) in
    fills_row answers t.reads t.writes (λ x. run m (t.plainly x)) (g.met.T.Turn.carried m) c.args.from.now c.args.to.now c.loop-i.to c.from_residual.result fills

pub loop-i-preserved : goal.loop-i-preserved
loop-i-preserved g c =
    let t = g.T.Turn in
    let n = g.N.Number in
    let answers = Answering n.means (g.B.Boundary.meaning c.args.boundary.now) t.steps in
    let i = c.loop-i.i in
    let x = c.index-from-i in
    let y = c.in_ok-answer.answer in
    let s = c.loop-i.invariant.2 in
    let answered : answers x.result (Ok y) =
    subst (answers x.result) (placed_ok i y c.turn.result c.in_ok-answer.ensures)
    (subst (λ k. Answering n.means k t.steps x.result c.turn.result) s.same_meaning c.turn.ensures.value) in (
      c.loop-i.invariant.0 ∙ sym (length-set c.loop-i.to i y),
      drop-set-lt (i + 1) c.loop-i.to i y (omega arith) ∙ drop_next i c.loop-i.to c.args.to.now c.loop-i.invariant.1,
      stays_on s c.turn.ensures.stays,
      each_more (λ x d. answers x (Ok d)) i c.args.from.now c.loop-i.to x.result y (omega arith) c.loop-i.invariant.0 x.is answered c.loop-i.invariant.3,
    )

pub returns-clause-meaning : goal.returns-clause-meaning
returns-clause-meaning g c =
    let t = g.T.Turn in
    let m = g.B.Boundary.meaning c.args.boundary.now in
    let answers = Answering g.N.Number.means m t.steps in
    let fills : Fills answers c.args.from.now c.args.to.now (Ok tt) c.loop-i.to =
    (c.if-from-to.false, each_all (λ x d. answers x (Ok d)) c.loop-i.i c.args.from.now c.loop-i.to (omega arith) c.loop-i.invariant.0 c.loop-i.invariant.3) in
    fills_row answers t.reads t.writes (λ x. run m (t.plainly x)) (g.met.T.Turn.carried m) c.args.from.now c.args.to.now c.loop-i.to (Ok tt) fills
