use Rattle.std.proofs.Common.{◌^◌, eqb, sym, ap, ◌∙◌}
use Rattle.std.specs.Bool.{then_some}
use Rattle.fraction.specs.Roots.{exact_root-test}
use Rattle.fraction.proofs.degree.exact_root.Goals as goal

pub returns : goal.returns
returns g c =
    let r = c.whole_root-root.result in
    c.then_some.ensures ∙ ap (λ p. then_some (eqb p c.args.n) r) (c.pow.ensures ∙ ap (λ k. r ^ k) c.DEGREE.ensures)
    ∙ sym (exact_root-test g.D.Degree.DEGREE r c.args.n g.met.D.Degree.above c.whole_root-root.ensures)
