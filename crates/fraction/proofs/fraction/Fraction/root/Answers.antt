use Rattle.std.proofs.Common.{sym, ap, ◌∙◌}
use Rattle.std.proofs.lemmas.Bool.{cond-true}
use Rattle.number.specs.Meaning.{lost}
use Rattle.fraction.specs.Bounded.{root}
use Rattle.fraction.specs.Bounds.{within_fits}
use Rattle.fraction.specs.Degrees.{exact_root}
use Rattle.fraction.specs.Fractions.{value_of}
use Rattle.fraction.proofs.Rooted.{rooted}
use Rattle.fraction.proofs.Signs.{is_lowest, is_above_lem}
use Rattle.fraction.proofs.Values.{at_value}
use Rattle.fraction.proofs.fraction.Fraction.root.Goals as goal

pub invariant_of-bounded : goal.invariant_of-bounded
invariant_of-bounded g c =
    let q = c.args.self in
    let r = rooted g.D.Degree.DEGREE (value_of q) _ _ _ g.met.D.Degree.above c.is_negative.ensures (ap (λ n. exact_root g.D.Degree.DEGREE n) (sym c.size.ensures) ∙ sym c.exact_root.ensures ∙ c.in-Some-Some.is-0) (sym c.exact_root-2.ensures ∙ c.in-Some-Some.is-1) in
    record {
      positive = is_above_lem r.value c.is_negative.result c.in-Some-Some.size _ r.parts;
      lowest = is_lowest r.value c.is_negative.result c.in-Some-Some.size _ r.parts;
    }

pub returns : goal.returns
returns g c =
    let q = c.args.self in
    let r = rooted g.D.Degree.DEGREE (value_of q) _ _ _ g.met.D.Degree.above c.is_negative.ensures (ap (λ n. exact_root g.D.Degree.DEGREE n) (sym c.size.ensures) ∙ sym c.exact_root.ensures ∙ c.in-Some-Some.is-0) (sym c.exact_root-2.ensures ∙ c.in-Some-Some.is-1) in
    c.bounded.ensures r.value r.parts ∙ cond-true _ _ _ (within_fits r.value (r.within (record { upper = q.upper; lower = q.lower }))) ∙ sym r.root_is
    ∙ sym (at_value lost (root g.D.Degree.DEGREE) q c.if-self.false)
