-- The square and the cube of n / d in lowest terms are n² / d² and n³ / d³ in lowest terms; so a fraction has a root exactly where both of its
-- numbers have one.
use mathlib.Core.Path.{◌≡◌, refl, sym, ap, subst, ◌∙◌}
use mathlib.Core.Bool.{not}
use Prim.Native.Nat.{ℕ, zero, suc, ◌*◌, ◌<◌, ◌∣◌}
use native.Mathlib.Nat as N
use native.Mathlib.Omega.{arith}
use lib.Dec.{T}
use lib.Arith.{lt→nleb}
use lib.IntN.{ℤ, pos, negsuc, nat_abs, ◌*ℤ◌}
use lib.Signed.{lt_z, non_neg}
use borrow.Author.Differences.{ints}
use Rattle.rational.specs.Gcd.{gcd, gcd_comm, gcd_one_mul}
use Rattle.rational.specs.Rational.{Rational, num, den, ratio_of, mul_ratio, mul}
use Rattle.rational.specs.Parts.{Is, SquareRootByParts, CubeRootByParts, SquareRootFromParts, CubeRootFromParts}
use Rattle.rational.proofs.Integers.{abs_product}
use Rattle.rational.proofs.Ratios.{same_parts}
use Rattle.rational.proofs.Compared.{negative_is}
use Rattle.rational.proofs.Products.{product_is, divisors_apart}

pub square_is : (r : Rational) → Is (mul r r) (num r *ℤ num r) (den r * den r)
square_is r = (ap (λ z. z.num) (product_is r r r.lowest r.lowest), ap (λ z. z.den) (product_is r r r.lowest r.lowest))

pub cube_is : (r : Rational) → Is (mul (mul r r) r) (num r *ℤ num r *ℤ num r) (den r * den r * den r)
cube_is r = (
  ap (λ z. z.num) whole ∙ ap (λ z. z *ℤ num r) (square_is r).0,
  ap (λ z. z.den) whole ∙ ap (λ z. z * den r) (square_is r).1,
)
  where
    -- the numerator's square and the denominator, and the other way round
    over-square : gcd (nat_abs (num (mul r r))) (den r) ≡ 1
    over-square = ap (λ z. gcd z (den r)) (ap nat_abs (square_is r).0 ∙ abs_product (num r) (num r)) ∙ gcd_comm (nat_abs (num r) * nat_abs (num r)) (den r)
        ∙ gcd_one_mul (den r) (nat_abs (num r)) (nat_abs (num r)) other other
      where
        other : gcd (den r) (nat_abs (num r)) ≡ 1
        other = gcd_comm (den r) (nat_abs (num r)) ∙ r.lowest

    under_square : gcd (nat_abs (num r)) (den (mul r r)) ≡ 1
    under_square = ap (gcd (nat_abs (num r))) (square_is r).1 ∙ gcd_one_mul (nat_abs (num r)) (den r) (den r) r.lowest r.lowest

    whole : (mul (mul r r) r).ratio ≡ mul_ratio (mul r r).ratio r.ratio
    whole = product_is (mul r r) r over-square under_square

-- a fraction with the two numbers of another is that one
is_same : (x y : Rational) (n : ℤ) (d : ℕ) → Is y n d → Is x n d → y ≡ x
is_same x y n d p q = same_parts (p.0 ∙ sym q.0) (p.1 ∙ sym q.1)

same_is : (x y : Rational) (n : ℤ) (d : ℕ) → Is y n d → y ≡ x → Is x n d
same_is x y n d p e = (ap num (sym e) ∙ p.0, ap den (sym e) ∙ p.1)

pub square_root_by_parts : SquareRootByParts
square_root_by_parts x r = (
  λ h. (at_least (num r) (subst (λ b. T (not b)) (negative_is r) h.0), same_is x (mul r r) _ _ (square_is r) h.1),
  λ h. (subst (λ b. T (not b)) (sym (negative_is r)) (not_below (num r) h.0), is_same x (mul r r) _ _ (square_is r) h.1),
)
  where
    at_least : (z : ℤ) → T (not (lt_z z (pos 0))) → T (non_neg z)
    at_least z t = omega (arith, ints)

    not_below : (z : ℤ) → T (non_neg z) → T (not (lt_z z (pos 0)))
    not_below (pos n) t = lt→nleb (suc n) 0 (N.zero-lt-suc n)
    not_below (negsuc n) t = absurd t

pub cube_root_by_parts : CubeRootByParts
cube_root_by_parts x r = (same_is x (mul (mul r r) r) _ _ (cube_is r), is_same x (mul (mul r r) r) _ _ (cube_is r))

-- ---- whole roots give a root

-- a factor of something above 0 is above 0
factor_above : (e f : ℕ) → 0 < e * f → 0 < e
factor_above zero f h = absurd (N.lt_irrefl 0 (subst (λ z. 0 < z) (N.zero-mul f) h))
factor_above (suc e) f h = N.zero-lt-suc e

-- the fraction m / e, where m and e divide the numbers of x
built : (x : Rational) (m : ℤ) (e f k : ℕ) → nat_abs (num x) ≡ nat_abs m * k → den x ≡ e * f → Rational
built x m e f k p q = record {
  ratio = ratio_of m e (factor_above e f (subst (λ z. 0 < z) q x.ratio.above));
  lowest = divisors_apart x (nat_abs m) e (subst (λ z. nat_abs m ∣ z) (sym p) (N.dvd-mul_right (nat_abs m) k)) (subst (λ z. e ∣ z) (sym q) (N.dvd-mul_right e f));
}

pub square_root_from_parts : SquareRootFromParts
unfolding built
square_root_from_parts x m e h =
    let r : Rational = built x (pos m) e e m (ap nat_abs h.0) h.1 in
    (r, (refl, refl), (square_root_by_parts x r).1 (tt, h))

pub cube_root_from_parts : CubeRootFromParts
unfolding built
cube_root_from_parts x m e h =
    let r : Rational = built x m e (e * e) (nat_abs m * nat_abs m) (ap nat_abs h.0 ∙ sizes) (h.1 ∙ N.mul_assoc e e e) in
    (r, (refl, refl), (cube_root_by_parts x r).1 h)
  where
    sizes : nat_abs (m *ℤ m *ℤ m) ≡ nat_abs m * (nat_abs m * nat_abs m)
    sizes = abs_product (m *ℤ m) m ∙ ap (λ z. z * nat_abs m) (abs_product m m) ∙ N.mul_assoc (nat_abs m) (nat_abs m) (nat_abs m)
