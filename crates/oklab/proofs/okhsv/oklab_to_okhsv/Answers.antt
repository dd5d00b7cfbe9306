-- What an answer means follows from what it is.
use Rattle.std.proofs.Common.{◌≡◌, rules}
use Rattle.oklab.specs.Okhsv.{okhsv_of_oklab}
use Rattle.oklab.proofs.Chromatics.{chromatic_accepted}
use Rattle.oklab.proofs.OkhsvMeans.{okhsv_of_oklab-means}
use Rattle.oklab.proofs.okhsv.oklab_to_okhsv.Goals as goal

pub returns-in_err-chromatic-clause-meaning : goal.returns-in_err-chromatic-clause-meaning
returns-in_err-chromatic-clause-meaning g c = okhsv_of_oklab-means g.met.N.Number.hom g.N.Number.traced c.args.color c.from_residual.result (search rules)

pub returns : goal.returns
returns g c =
    let n = g.N.Number in
    let known = chromatic_accepted n.ops n.traced c.args.color c.of.result c.of.ensures c.in_ok-chromatic.was in
    let e : c.settled.result ≡ okhsv_of_oklab n.ops n.traced c.args.color = search rules in
    record { value = e; meaning = okhsv_of_oklab-means g.met.N.Number.hom n.traced c.args.color c.settled.result e }
