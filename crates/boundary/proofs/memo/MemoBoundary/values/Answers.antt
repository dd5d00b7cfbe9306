use Rattle.std.proofs.Common.{◌≡◌, None, arith}
use Rattle.boundary.specs.Kept.{recalled_from}
use Rattle.boundary.proofs.Recall.{recalled_answer, recalled_right, after_right}
use Rattle.boundary.proofs.memo.MemoBoundary.values.Goals as goal

pub returns-in-Some-clause-gives : goal.returns-in-Some-clause-gives
returns-in-Some-clause-gives g c =
    let s = c.self.inside in
    rw (← c.self.view_is) (recalled_right g.N.Number.ops g.met.N.Number.alike (g.B.Boundary.meaning s.below) s.kept c.args.query.now c.in-Some.v (rw (← c.recall.ensures) c.in-Some.is) c.self.invariant)

pub invariant_of-self : goal.invariant_of-self
invariant_of-self g c =
    let n = g.N.Number in
    let s = c.self.inside in
    let v = c.values-v in
    rw (v.ensures.stays.same_meaning, c.keep-self-inside.ensures) (after_right n.ops n.traced n.means (g.B.Boundary.meaning s.below) s.kept c.args.query.now v.result c.self.invariant v.ensures.gives)

pub returns-clause-recalls : goal.returns-clause-recalls
returns-clause-recalls g c =
    let n = g.N.Number in
    let s = c.self.inside in
    let q = c.args.query.now in
    let found : recalled_from n.ops s.kept q ≡ None = rw (← c.recall.ensures) c.in_default.is in
    rw (← c.self.view_is) (record {
      recalled = λ k kept same. let r = recalled_answer n.ops g.met.N.Number.alike s.kept k q kept same in absurd (grind arith);
      otherwise = λ _. c.keep-self-inside.ensures;
    })
