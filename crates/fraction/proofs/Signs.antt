-- Whole numbers as sign and size.
use Rattle.std.proofs.Common.{◌≡◌, ℕ, zero, suc, ◌*◌, ◌/◌, ◌<◌, Bool, true, false, not, ℤ, pos, negsuc, ◌*ℤ◌, neg_ℤ, nat_abs, sym, refl, ap, ◌∙◌, subst, ap₂, arith}
use mathlib.Core.Bool.{beq}
use native.Mathlib.Nat as N
use lib.IntN.{*ℤ_comm, neg_ℤ-neg_ℤ}
use lib.Signed.{non_neg, lt_z}
use Rattle.std.proofs.lemmas.Bool.{le-ltb}
use Rattle.rational.specs.Gcd.{gcd}
use Rattle.rational.specs.Rational.{Rational, part, signed}
use Rattle.rational.specs.Parts.{Is}
use Rattle.rational.proofs.Integers.{abs_negative, neg-mul}
use Rattle.fraction.specs.Fractions.{with_sign}

pub size_of : (b : Bool) (n : ℕ) → nat_abs (with_sign b n) ≡ n
size_of true n = abs_negative (pos n)
size_of false n = refl

pub sign_of : (z : ℤ) → with_sign (not (non_neg z)) (nat_abs z) ≡ z
sign_of (pos n) = refl
sign_of (negsuc n) = refl

pub sign_below : (z : ℤ) → with_sign (lt_z z (pos 0)) (nat_abs z) ≡ z
sign_below (pos n) = ap (λ b. with_sign b n) (le-ltb n 0 (omega arith))
sign_below (negsuc n) = refl

pub scaled : (b : Bool) (n k : ℕ) → with_sign b (n * k) ≡ with_sign b n *ℤ pos k
scaled true n k = sym (neg-mul (pos n) (pos k))
scaled false n k = refl

pub part_sign : (z : ℤ) (g : ℕ) → part z g ≡ with_sign (not (non_neg z)) (nat_abs z / g)
part_sign (pos n) g = refl
part_sign (negsuc n) g = refl

pub part-size : (b : Bool) (n g : ℕ) → part (with_sign b n) g ≡ with_sign b (n / g)
part-size true zero g = ap pos (N.zero-div g) ∙ sym (ap (λ n. neg_ℤ (pos n)) (N.zero-div g))
part-size true (suc n) g = refl
part-size false n g = refl

pub signed_sign : (z : ℤ) (n : ℕ) → signed z n ≡ with_sign (not (non_neg z)) n
signed_sign (pos a) n = refl
signed_sign (negsuc a) n = refl

mixed : (m n : ℕ) → pos m *ℤ neg_ℤ (pos n) ≡ neg_ℤ (pos (m * n))
mixed m n = *ℤ_comm (pos m) (neg_ℤ (pos n)) ∙ neg-mul (pos n) (pos m) ∙ ap neg_ℤ (*ℤ_comm (pos n) (pos m))

pub product_sign : (s t : Bool) (m n : ℕ) → with_sign s m *ℤ with_sign t n ≡ with_sign (not (beq s t)) (m * n)
product_sign true true m n = neg-mul (pos m) (neg_ℤ (pos n)) ∙ ap neg_ℤ (mixed m n) ∙ neg_ℤ-neg_ℤ (pos (m * n))
product_sign true false m n = neg-mul (pos m) (pos n)
product_sign false true m n = mixed m n
product_sign false false m n = refl

pub sign_size : (z : ℤ) (n : ℕ) → n ≡ nat_abs z → with_sign (lt_z z (pos 0)) n ≡ z
sign_size z n e = ap (with_sign (lt_z z (pos 0))) e ∙ sign_below z

-- what the two numbers of a fraction obey
module _ (x : Rational) (b : Bool) (n d : ℕ) (is : Is x (with_sign b n) d) where
  pub is_lowest : gcd n d ≡ 1
  is_lowest = ap₂ gcd (sym (ap nat_abs is.0 ∙ size_of b n)) (sym is.1) ∙ x.lowest

  pub is_above_lem : 0 < d
  is_above_lem = subst (λ z. 0 < z) is.1 x.ratio.above
