use Rattle.std.proofs.Common.{◌≤◌, ◌+ℤ◌, nat_abs, ap, ◌∙◌, subst}
use Rattle.number.specs.Meaning.{lost}
use Rattle.fraction.specs.Bound.{R}
use Rattle.fraction.specs.Bounded.{ratio, constant, one}
use Rattle.fraction.proofs.Casts.{passed_sum}
use Rattle.fraction.proofs.Values.{ratio-kept}
use Rattle.fraction.proofs.fraction.arithmetic.sum_over.Goals as goal

pub returns : goal.returns
returns c =
    let v = c.args in
    let sum = passed_sum v.left v.right c.requires.left_bound c.requires.right_bound in
    let small : nat_abs (v.left +ℤ v.right) ≤ R = subst (λ k. k ≤ R) (c.unsigned_abs.ensures.value ∙ ap nat_abs sum) c.if-unsigned_abs-gt-LIMIT.false in
    c.new.ensures ∙ ap (λ z. one lost constant (ratio z v.denominator)) sum ∙ ratio-kept (v.left +ℤ v.right) v.denominator small c.requires.lower_bound
