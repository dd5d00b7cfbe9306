use Rattle.std.proofs.Common.{◌≡◌, nat_abs, sym, ap, ◌∙◌, arith}
use Rattle.std.proofs.lemmas.Bool.{cond-false, ne_eqb}
use Rattle.rational.specs.Gcd.{gcd, gcd_comm}
use Rattle.rational.specs.Rational.{reciprocal}
use Rattle.number.specs.Meaning.{lost}
use Rattle.fraction.specs.Bounded.{inverse}
use Rattle.fraction.specs.Fractions.{value_of}
use Rattle.fraction.proofs.Values.{at_value, constant_kept, inverse_parts}
use Rattle.fraction.proofs.fraction.Fraction.reciprocal.Goals as goal

pub invariant_of-bounded : goal.invariant_of-bounded
invariant_of-bounded c =
    let q = c.args.self in
    record {
      positive = omega arith;
      lowest = ap (gcd q.denominator) c.size-2.ensures ∙ gcd_comm q.denominator (nat_abs q.numerator) ∙ q.lowest;
    }

pub returns : goal.returns
returns c =
    let q = c.args.self in
    let nonzero : ¬ (nat_abs q.numerator ≡ 0) = λ e. c.if-size-eq0.false (c.size.ensures ∙ e) in
    let is = inverse_parts (value_of q) _ c.is_negative.ensures nonzero in
    c.bounded.ensures (reciprocal (value_of q)) (is.0, is.1 ∙ sym c.size-2.ensures)
    ∙ constant_kept (reciprocal (value_of q)) _ _ _ is q.lower q.upper
    ∙ sym (at_value lost inverse q c.if-self.false ∙ cond-false _ _ _ (ne_eqb _ _ nonzero))
