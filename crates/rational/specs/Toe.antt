-- The toe, which takes a lightness to the one that the eye estimates, and its inverse, over any field's operations; and what is shown of them.
use Rattle.std.specs.Prelude.{◌≡◌, not, ℕ, pos, T}
use Rattle.rational.specs.Algebra.{FieldOps, zero_of}
use Rattle.rational.specs.Rational.{Rational, exact}

module _ {F : Type 0} (o : FieldOps F) where
  infixl 60 ◌+◌ ◌-◌
  infixl 70 ◌*◌ ◌/◌
  abbrev ◌+◌ : F → F → F
  a + b = o.add a b

  abbrev ◌-◌ : F → F → F
  a - b = o.sub a b

  abbrev ◌*◌ : F → F → F
  a * b = o.mul a b

  abbrev ◌/◌ : F → F → F
  a / b = o.div a b

  abbrev # : ℕ → F
  # n = o.lit (pos n) 0

  -- the toe's constants: 0.206, 0.03 and (1 + k1) / (1 + k2), which takes 1 to 1
  abbrev pub k1 : F
  k1 = o.lit (pos 206) 3

  abbrev pub k2 : F
  k2 = o.lit (pos 3) 2

  abbrev pub k3 : F
  k3 = (# 1 + k1) / (# 1 + k2)

  -- (r² + k1 r) / (k3 (r + k2))
  abbrev pub toe_inv : F → F
  toe_inv r = (r * r + k1 * r) / (k3 * (r + k2))

  -- the toe is (u + √(u² + 4 k2 k3 l)) / 2 with u = k3 l − k1: here u, what the root is taken of, and the toe with a given root
  abbrev pub toe_u : F → F
  toe_u l = k3 * l - k1

  abbrev pub toe_square : F → F
  toe_square l = toe_u l * toe_u l + # 4 * k2 * k3 * l

  abbrev pub toe_with : F → F → F
  toe_with l root = o.lit (pos 5) 1 * (toe_u l + root)

  -- r is the square root of x: not below 0, and its square is x
  abbrev pub IsRoot : F → F → Type 0
  IsRoot x r = T (not (o.below r (# 0))) × (r * r ≡ x)

-- for r not below 0 what the toe of its inverse toe takes the root of has a root, and the toe with it is r
abbrev pub ToeBack : Type 0
ToeBack = (r : Rational) → T (not (exact.below r (zero_of exact)))
    → ((root : Rational) × IsRoot exact (toe_square exact (toe_inv exact r)) root)
    × ((root : Rational) → IsRoot exact (toe_square exact (toe_inv exact r)) root → toe_with exact (toe_inv exact r) root ≡ r)

-- strictly between 0 and 1
abbrev pub Inside : Rational → Type 0
Inside x = T (exact.below (exact.lit (pos 0) 0) x) × T (exact.below x (exact.lit (pos 1) 0))

abbrev pub ToeInside : Type 0
ToeInside = (r : Rational) → Inside r → Inside (toe_inv exact r)
