use Rattle.std.proofs.Common.{◌<◌, true, ap, ◌∙◌, arith, w64}
use Rattle.std.proofs.lemmas.Int.{to_z-of_z}
use Rattle.number.specs.Meaning.{lost}
use Rattle.fraction.specs.Bounded.{ratio, constant, one}
use Rattle.fraction.proofs.Signs.{sign_size}
use Rattle.fraction.proofs.Values.{reduced_is, reduced_above, reduced_lowest}
use Rattle.fraction.proofs.fraction.Fraction.new.Goals as goal

pub invariant_of-bounded : goal.invariant_of-bounded
invariant_of-bounded c =
    let above : 0 < c.args.denominator = omega arith in
    record {
      positive = reduced_above true c.unsigned_abs-size.result _ _ above c.common_divisor-divisor.ensures.value;
      lowest = reduced_lowest true c.unsigned_abs-size.result _ _ above c.common_divisor-divisor.ensures.value;
    }

pub returns : goal.returns
returns c =
    let above : 0 < c.args.denominator = omega arith in
    reduced_is _ _ _ _ above c.common_divisor-divisor.ensures.value _ c.bounded.ensures
    ∙ ap (λ z. one lost constant (ratio z c.args.denominator)) (sign_size _ _ c.unsigned_abs-size.ensures.value ∙ to_z-of_z w64 _ c.ranges.numerator)
