use Rattle.std.proofs.Common.{◌≡◌, ℕ, ◌≤◌, Bool, ℤ, nat_abs, sym, ap, ◌∙◌, subst, inl, inr}
use Rattle.number.specs.Meaning.{lost}
use Rattle.fraction.specs.Bound.{R}
use Rattle.fraction.specs.Bounded.{sum}
use Rattle.fraction.specs.Fractions.{value_of, with_sign}
use Rattle.fraction.proofs.Casts.{passed}
use Rattle.fraction.proofs.Signs.{size_of}
use Rattle.fraction.proofs.Values.{at_values, within, beyond, sum_lost, sum_kept}
use Rattle.fraction.proofs.fraction.Fraction.plus.Goals as goal
use Rattle.fraction.proofs.fraction.Fraction.plus.Goals.{in_default-via-in-Some+in-Some+in_default, in_default-via-in-Some+in_default, in_default-via-in_default}

pub returns-in_default : goal.returns-in_default
returns-in_default c =
    let p = c.args.self in
    let q = c.args.other in
    c.lost-in_default.ensures
    ∙ sym (at_values lost sum p q c.if-self.false c.if-other.false ∙ sum_lost (value_of p) (value_of q) _ c.common_divisor-divisor.ensures.value _ _ c.size.ensures c.size-2.ensures (elim c.in_default.branch [
      | in_default-via-in_default w ↦ inl (beyond _ (sym c.bounded_product.ensures ∙ w.in_default.is-0))
      | in_default-via-in-Some+in_default w ↦ inr (inl (beyond _ (sym c.bounded_product-2.ensures ∙ w.in_default.is-1)))
      | in_default-via-in-Some+in-Some+in_default w ↦ inr (inr (beyond _ (sym c.bounded_product-3.ensures ∙ w.in_default.is-2)))
    ]))

-- a number with the size n, as it is passed
small : (z : ℤ) (b : Bool) (n : ℕ) → z ≡ with_sign b n → n ≤ R → nat_abs z ≤ R
small z b n e h = subst (λ k. k ≤ R) (sym (ap nat_abs e ∙ size_of b n)) h

pub returns : goal.returns
returns c =
    let p = c.args.self in
    let q = c.args.other in
    let x = within _ _ (sym c.bounded_product.ensures ∙ c.in-Some-Some-Some.is-0) in
    let y = within _ _ (sym c.bounded_product-2.ensures ∙ c.in-Some-Some-Some.is-1) in
    let d = within _ _ (sym c.bounded_product-3.ensures ∙ c.in-Some-Some-Some.is-2) in
    c.sum_over.ensures
    ∙ sum_kept (value_of p) (value_of q) _ c.common_divisor-divisor.ensures.value _ _ c.size.ensures c.size-2.ensures _ _ c.is_negative.ensures c.is_negative-2.ensures _ _ _
    (passed _ (small _ _ _ c.with_sign.ensures x.small) ∙ c.with_sign.ensures ∙ ap (with_sign _) (sym x.is))
    (passed _ (small _ _ _ c.with_sign-2.ensures y.small) ∙ c.with_sign-2.ensures ∙ ap (with_sign _) (sym y.is)) d.is x.below y.below d.below
    ∙ sym (at_values lost sum p q c.if-self.false c.if-other.false)
