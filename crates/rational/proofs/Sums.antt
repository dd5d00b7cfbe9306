-- A sum and a difference over the least common denominator are those of the definition; the negative of a fraction is in lowest terms as it stands.
use mathlib.Core.Path.{◌≡◌, refl, sym, ap, ◌∙◌}
use Prim.Native.Nat.{ℕ, ◌*◌, ◌/◌, ◌<◌}
use native.Mathlib.Nat as N
use lib.IntN.{pos, ◌+ℤ◌, ◌*ℤ◌}
use Rattle.rational.specs.Gcd.{gcd, gcd_left, gcd_right}
use Rattle.rational.specs.Rational.{Ratio, num, den, ratio_of, add_ratio, neg_ratio, reduce, add, sub, neg}
use Rattle.rational.specs.Parts.{SumByParts, DifferenceByParts, NegativeByParts}
use Rattle.rational.proofs.Ring.{x₀, x₁, x₂, x₃, x₄, x₅, x₆, neg as minus, ◌⊕◌, ◌⊗◌, [], ◌∷◌, ring_from, none, fact}
use Rattle.rational.proofs.Integers.{ℤ-ring, abs_negative}
use Rattle.rational.proofs.Ratios.{reduce_eq, reduce-ratio}

-- with the denominators p g and q g
sum_is : (x y : Ratio) (h : 0 < x.den * (y.den / gcd x.den y.den))
    → reduce (ratio_of (x.num *ℤ pos (y.den / gcd x.den y.den) +ℤ y.num *ℤ pos (x.den / gcd x.den y.den)) (x.den * (y.den / gcd x.den y.den)) h) ≡ reduce (add_ratio x y)
sum_is x y h = reduce_eq (ratio_of (x.num *ℤ pos q +ℤ y.num *ℤ pos p) (x.den * q) h) (add_ratio x y)
    (ring_from ℤ-ring (x.num ∷ y.num ∷ pos p ∷ pos q ∷ pos g ∷ pos x.den ∷ pos y.den ∷ [])
    ((x₀ ⊗ x₃ ⊕ x₁ ⊗ x₂) ⊗ (x₅ ⊗ x₆)) ((x₀ ⊗ x₆ ⊕ x₁ ⊗ x₅) ⊗ (x₅ ⊗ x₃))
    (fact (x₁ ⊗ x₂ ⊗ x₅) x₆ (x₃ ⊗ x₄) (ap pos (sym (N.div-mul_cancel g (gcd_right x.den y.den))))
    (fact (minus (x₁ ⊗ x₃ ⊗ x₅)) x₅ (x₂ ⊗ x₄) (ap pos (sym (N.div-mul_cancel g (gcd_left x.den y.den)))) none)) refl)
  where
    g : ℕ
    g = gcd x.den y.den

    p : ℕ
    p = x.den / g

    q : ℕ
    q = y.den / g

pub sum_by_parts : SumByParts
unfolding add
sum_by_parts a b h = sum_is a.ratio b.ratio h

pub difference_by_parts : DifferenceByParts
unfolding sub
difference_by_parts a b h = sum_is a.ratio (neg_ratio b.ratio) h

pub negative_by_parts : NegativeByParts
unfolding neg
negative_by_parts a = (ap num same_value, ap den same_value)
  where
    same_value : reduce (neg_ratio a.ratio) ≡ record { ratio = neg_ratio a.ratio; lowest = ap (λ z. gcd z (den a)) (abs_negative (num a)) ∙ a.lowest }
    same_value = reduce-ratio (record { ratio = neg_ratio a.ratio; lowest = ap (λ z. gcd z (den a)) (abs_negative (num a)) ∙ a.lowest })
