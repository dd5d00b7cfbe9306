-- The toe undoes the inverse toe, and the inverse toe keeps inside of 0 and 1.
use mathlib.Core.Path.{◌≡◌, refl, sym, ap, subst, ◌∙◌}
use mathlib.Core.Logic.{inl}
use mathlib.Core.Bool.{not}
use lib.IntN.{pos}
use lib.Dec.{T}
use Rattle.rational.specs.Algebra.{FieldOps, OrderedField, zero_of}
use Rattle.rational.specs.Toe.{k2, k3, toe_inv, toe_u, toe_square, toe_with, IsRoot, ToeBack, ToeInside}
use Rattle.rational.proofs.Ring.{[], ◌∷◌, ring_by!, reads}
use Rattle.rational.proofs.Field.{factor_zero, forms}
use Rattle.rational.proofs.Order.{Above, Least, end, gt0, ge0, free, equal!, above!, nonzero, minus_zero, at_least, of_least, below_by, by_below, least_above}
use Rattle.rational.proofs.Rationals.{rational_field}

module _ {F : Type 0} {o : FieldOps F} (K : OrderedField o) where
  infixl 60 ◌+◌ ◌-◌
  infixl 70 ◌*◌ ◌/◌
  abbrev ◌+◌ : F → F → F
  a + b = o.add a b

  abbrev ◌-◌ : F → F → F
  a - b = o.sub a b

  abbrev ◌*◌ : F → F → F
  a * b = o.mul a b

  abbrev ◌/◌ : F → F → F
  a / b = o.div a b

  abbrev 𝟘 : F
  𝟘 = zero_of o

  abbrev 𝟙 : F
  𝟙 = o.lit (pos 1) 0

  -- a square root is unique
  root_unique : (r s : F) → Least o r → Above o s → r * r ≡ s * s → r ≡ s
  root_unique r s h k e = ring_by! K.laws (r ∷ s ∷ []) (o.lit (pos 1) 0) zeros (search reads depth 30) refl
    where
      zeros : r - s ≡ 𝟘
      zeros = factor_zero K (r - s) (r + s) (nonzero K (r + s) (least_above K r s h k)) (ring_by! K.laws (r ∷ s ∷ []) (o.lit (pos 1) 0) e (search reads depth 30) refl)

  -- 2 l − u
  abbrev root : F → F
  root l = o.lit (pos 2) 0 * l - toe_u o (toe_inv o l)

  module _ (l : F) (h : Least o l) where
    squares : root l * root l ≡ toe_square o (toe_inv o l)
    squares = equal! K (ge0 l h end) (search forms depth 30) tt refl

    root_above : Above o (root l)
    root_above = above! K (ge0 l h end) (search forms depth 30) tt

    -- with the root 2 l − u the toe is l
    half : toe_with o (toe_inv o l) (root l) ≡ l
    half = equal! K (free l (free (toe_u o (toe_inv o l)) end)) (search forms depth 30) tt refl

  toe-back : (l : F) → T (not (o.below l 𝟘))
      → ((r : F) × IsRoot o (toe_square o (toe_inv o l)) r) × ((r : F) → IsRoot o (toe_square o (toe_inv o l)) r → toe_with o (toe_inv o l) r ≡ l)
  toe-back l t =
      let h : Least o l = at_least K l t in (
        (root l, (of_least K (root l) 𝟘 (inl (subst (Above o) (sym (minus_zero K (root l))) (root_above l h))), squares l h)),
        λ r g. ap (toe_with o (toe_inv o l)) (root_unique r (root l) (at_least K r g.0) (root_above l h) (g.1 ∙ sym (squares l h))) ∙ half l h,
      )

  -- 1 less the inverse toe of r has the factor 1 − r
  below_one : (r : F) → Above o r → 𝟙 - toe_inv o r ≡ (𝟙 - r) * (r + k3 o * k2 o) / (k3 o * (r + k2 o))
  below_one r h = equal! K (gt0 r h end) (search forms depth 30) tt refl

  toe-inside : (r : F) → T (o.below 𝟘 r) → T (o.below r 𝟙) → T (o.below 𝟘 (toe_inv o r)) × T (o.below (toe_inv o r) 𝟙)
  toe-inside r t u = (
    above! K (gt0 r t end) (search forms depth 30) tt,
    below_by K (toe_inv o r) 𝟙 (subst (Above o) (sym (below_one r t)) (above! K (gt0 r t (gt0 (𝟙 - r) (by_below K r 𝟙 u) end)) (search forms depth 30) tt)),
  )

pub toe_back_exact : ToeBack
toe_back_exact = toe-back rational_field

pub toe_inside_exact : ToeInside
toe_inside_exact r h = toe-inside rational_field r h.0 h.1
