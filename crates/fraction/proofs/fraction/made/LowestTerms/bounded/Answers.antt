use Rattle.std.proofs.Common.{◌≤◌, nat_abs, sym, ap, ◌∙◌, subst}
use Rattle.rational.proofs.Ratios.{same_parts}
use Rattle.number.specs.Meaning.{fraction}
use Rattle.fraction.specs.Bound.{R}
use Rattle.fraction.proofs.Casts.{passed}
use Rattle.fraction.proofs.Signs.{size_of}
use Rattle.fraction.proofs.Values.{constant_kept}
use Rattle.fraction.proofs.fraction.made.LowestTerms.bounded.Goals as goal

pub returns : goal.returns
returns c =
    let q = c.args.self in
    let small : nat_abs c.with_sign.result ≤ R = subst (λ z. z ≤ R) (sym (ap nat_abs c.with_sign.ensures ∙ size_of q.negative q.size)) c.if-self-gt-LIMIT.false in
    λ x is. ap fraction (same_parts (passed c.with_sign.result small ∙ c.with_sign.ensures ∙ sym is.0) (sym is.1))
    ∙ sym (constant_kept x _ _ _ is c.if-self-gt-LIMIT.false c.if-self-gt-LIMIT-2.false)
