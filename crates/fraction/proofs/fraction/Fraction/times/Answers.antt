use Rattle.std.proofs.Common.{sym, ◌∙◌, inl, inr, refl}
use Rattle.rational.specs.Rational.{exact}
use Rattle.number.specs.Meaning.{lost}
use Rattle.fraction.specs.Bounded.{product}
use Rattle.fraction.specs.Fractions.{value_of}
use Rattle.fraction.proofs.Signs.{is_lowest, is_above_lem}
use Rattle.fraction.proofs.Values.{at_values, within, beyond, constant_kept, product_lost, product-kept, product_sizes, product_test}
use Rattle.fraction.proofs.fraction.Fraction.times.Goals as goal
use Rattle.fraction.proofs.fraction.Fraction.times.Goals.{in_default-via-in-Some+in_default, in_default-via-in_default}

pub returns-in_default : goal.returns-in_default
returns-in_default c =
    let p = c.args.self in
    let q = c.args.other in
    c.lost-in_default.ensures
    ∙ sym (at_values lost product p q c.if-self.false c.if-other.false ∙ sym (product_test (value_of p) (value_of q) _ _ _ _ refl refl c.size-left.ensures c.size-right.ensures)
    ∙ product_lost _ _ _ _ _ _ c.common_divisor-left_divisor.ensures.value c.common_divisor-right_divisor.ensures.value _ (elim c.in_default.branch [
      | in_default-via-in_default w ↦ inl (beyond _ (sym c.bounded_product.ensures ∙ w.in_default.is-0))
      | in_default-via-in-Some+in_default w ↦ inr (beyond _ (sym c.bounded_product-2.ensures ∙ w.in_default.is-1))
    ]))

pub invariant_of-bounded : goal.invariant_of-bounded
invariant_of-bounded c =
    let x = exact.mul (value_of c.args.self) (value_of c.args.other) in
    let k = within _ _ (sym c.bounded_product.ensures ∙ c.in-Some-Some.is-0) in
    let d = within _ _ (sym c.bounded_product-2.ensures ∙ c.in-Some-Some.is-1) in
    let is = product_sizes (value_of c.args.self) (value_of c.args.other) _ _ _ _ c.is_negative.ensures c.is_negative-2.ensures c.size-left.ensures c.size-right.ensures _ _ c.common_divisor-left_divisor.ensures.value c.common_divisor-right_divisor.ensures.value _ _ k.is d.is in
    record { positive = is_above_lem x _ _ _ is; lowest = is_lowest x _ _ _ is }

pub returns : goal.returns
returns c =
    let p = c.args.self in
    let q = c.args.other in
    let x = exact.mul (value_of p) (value_of q) in
    let g = c.common_divisor-left_divisor.ensures.value in
    let h = c.common_divisor-right_divisor.ensures.value in
    let k = within _ _ (sym c.bounded_product.ensures ∙ c.in-Some-Some.is-0) in
    let d = within _ _ (sym c.bounded_product-2.ensures ∙ c.in-Some-Some.is-1) in
    let is = product_sizes (value_of p) (value_of q) _ _ _ _ c.is_negative.ensures c.is_negative-2.ensures c.size-left.ensures c.size-right.ensures _ _ g h _ _ k.is d.is in
    c.bounded.ensures x is ∙ constant_kept x _ _ _ is k.small d.small ∙ sym (product-kept _ _ _ _ _ _ g h x k.below d.below)
    ∙ product_test (value_of p) (value_of q) _ _ _ _ refl refl c.size-left.ensures c.size-right.ensures ∙ sym (at_values lost product p q c.if-self.false c.if-other.false)
