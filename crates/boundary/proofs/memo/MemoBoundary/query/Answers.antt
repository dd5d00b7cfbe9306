use Rattle.boundary.proofs.Rules.{answer_carried}
use Rattle.boundary.proofs.memo.MemoBoundary.query.Goals as goal

pub returns-clause-means : goal.returns-clause-means
returns-clause-means g c =
    let n = g.N.Number in
    let q = c.args.query.now in
    answer_carried g.met.N.Number.hom n.traced q.lightness c.values-v.result _ c.admit.result c.admit.ensures c.values-v.ensures.gives
