-- A signed number that is passed or cast comes by way of its bits; within the bound it stays what it is.
use Rattle.std.proofs.Common.{◌≡◌, ℕ, ◌^◌, ◌<◌, ◌≤◌, ℤ, pos, negsuc, ◌+ℤ◌, ◌-ℤ◌, ◌*ℤ◌, neg_ℤ, nat_abs, sym, ap, ◌∙◌, subst, ap₂, arith, w64, SFits, to_z, of_z}
use native.Mathlib.Nat as N
use borrow.Author.Differences.{ints}
use mir.Syntax.{w128}
use Rattle.std.proofs.lemmas.Int.{to_z-of_z, to_z_pos}
use Rattle.rational.proofs.Integers.{abs_product}
use Rattle.fraction.specs.Bound.{R}

pub narrow : (z : ℤ) → nat_abs z ≤ R → SFits w64 z
narrow (pos n) h = record { sfits = omega arith }
narrow (negsuc n) h = record { sfits = omega arith }

pub passed : (z : ℤ) → nat_abs z ≤ R → to_z w64 (of_z w64 z) ≡ z
passed z h = to_z-of_z w64 z (narrow z h)

pub passed_sum : (x y : ℤ) → nat_abs x ≤ R → nat_abs y ≤ R → to_z w64 (of_z w64 (to_z w64 (of_z w64 x) +ℤ to_z w64 (of_z w64 y))) ≡ x +ℤ y
passed_sum x y p q = ap₂ (λ u v. to_z w64 (of_z w64 (u +ℤ v))) (passed x p) (passed y q) ∙ to_z-of_z w64 (x +ℤ y) (fits (x +ℤ y) small)
  where
    small : nat_abs (x +ℤ y) < 2 ^ 63
    small = omega (arith, ints)

    fits : (z : ℤ) → nat_abs z < 2 ^ 63 → SFits w64 z
    fits (pos n) h = record { sfits = omega arith }
    fits (negsuc n) h = record { sfits = omega arith }

pub passed_negative : (z : ℤ) → nat_abs z ≤ R → to_z w64 (of_z w64 (pos 0 -ℤ to_z w64 (of_z w64 z))) ≡ neg_ℤ z
passed_negative z h = ap (λ u. to_z w64 (of_z w64 (pos 0 -ℤ u))) (passed z h) ∙ turned z h
  where
    turned : (z : ℤ) → nat_abs z ≤ R → to_z w64 (of_z w64 (pos 0 -ℤ z)) ≡ neg_ℤ z
    turned z h = omega (arith, ints)

-- ---- 128 bits

wide : (z : ℤ) → nat_abs z < 2 ^ 127 → SFits w128 z
wide (pos n) h = record { sfits = omega arith }
wide (negsuc n) h = record { sfits = omega arith }

module _ (n : ℤ) (d : ℕ) (p : nat_abs n ≤ R) (q : d ≤ R) where
  left : to_z w128 (of_z w128 (to_z w64 (of_z w64 n))) ≡ n
  left = ap (λ z. to_z w128 (of_z w128 z)) (passed n p) ∙ to_z-of_z w128 n (wide n (omega arith))

  right : to_z w128 d ≡ pos d
  right = to_z_pos w128 d (omega arith)

  fits : SFits w128 (n *ℤ pos d)
  fits = wide (n *ℤ pos d) (subst (λ z. z < 2 ^ 127) (sym (abs_product n (pos d))) (N.lt_of_le_of_lt (N.mul-le-mul p q) (omega arith)))

  pub product_is : to_z w128 (of_z w128 (to_z w128 (of_z w128 (to_z w64 (of_z w64 n))) *ℤ to_z w128 d)) ≡ n *ℤ pos d
  product_is = ap₂ (λ x y. to_z w128 (of_z w128 (x *ℤ y))) left right ∙ to_z-of_z w128 (n *ℤ pos d) fits
