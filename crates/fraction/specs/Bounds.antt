-- A result that passes its test is within the bound, and the tests pass at small operands.
use Rattle.std.specs.Prelude.{◌≡◌, ℕ, ◌*◌, ◌/◌, ◌<◌, ◌≤◌, true, not, ◌&&◌, ℤ, pos, negsuc, ◌+ℤ◌, ◌*ℤ◌, neg_ℤ, ◌==◌, nat_le, unsigned_abs, refl}
use Rattle.std.proofs.Common.{sym, ap, ap₂, subst, ◌∙◌, arith}
use Rattle.std.proofs.Math.Nat as N
use Rattle.std.proofs.lemmas.Int.{ints}
use Rattle.std.proofs.lemmas.Bool.{leb-true, le-leb, and_parts, and_from, eqb-false, not-true}
use Rattle.rational.specs.Gcd.{gcd}
use Rattle.rational.specs.Rational.{Rational, num, den, ratio_of, part, abs_part, signed, quot_above, reduce, exact}
use Rattle.rational.specs.Parts.{multiple, crosswise, upper, shared}
use Rattle.rational.proofs.Parts.{parts_laws}
use Rattle.rational.proofs.Integers.{abs_negative, abs_product}
use Rattle.number.specs.Exactness.{Small}
use Rattle.fraction.specs.Bound.{R}
use Rattle.fraction.specs.Bounded.{fits, sum_fits, product_fits}
use Rattle.fraction.specs.Packs.{Within}

pub abs_signed : (z : ℤ) (n : ℕ) → unsigned_abs (signed z n) ≡ n
abs_signed (pos a) n = refl
abs_signed (negsuc a) n = abs_negative (pos n)

pub fits_within : (x : Rational) → fits x ≡ true → Within x
fits_within x e = let p = and_parts (nat_le (unsigned_abs (num x)) R) _ e in record { upper = leb-true _ R p.0; lower = leb-true _ R p.1 }

pub within_fits : (x : Rational) → Within x → fits x ≡ true
within_fits x w = and_from _ _ (le-leb _ R w.upper) (le-leb _ R w.lower)

-- ---- sums

pub reduce_within : (n : ℤ) (d : ℕ) (h : 0 < d) → unsigned_abs n ≤ R → d ≤ R → Within (reduce (ratio_of n d h))
reduce_within n d h p q = let t = parts_laws.lowest_terms (ratio_of n d h) in record { upper = N.le_trans t.1 p; lower = N.le_trans t.2 q }

pub multiple_above : (a b : Rational) → 0 < multiple a b
multiple_above a b = N.mul-pos a.ratio.above (quot_above (den a) (den b) b.ratio.above)

-- the last two tests of `sum_fits`
last_two : (a c : ℤ) (b d : ℕ) → sum_fits a b c d ≡ true → (unsigned_abs (a *ℤ pos (d / gcd b d) +ℤ c *ℤ pos (b / gcd b d)) ≤ R) × (b * (d / gcd b d) ≤ R)
unfolding sum_fits
last_two a c b d e =
    let p = (and_parts (nat_le (unsigned_abs (a *ℤ pos (d / gcd b d))) R) _ e).1 in
    let q = (and_parts (nat_le (unsigned_abs (c *ℤ pos (b / gcd b d))) R) _ p).1 in
    let r = and_parts (nat_le (unsigned_abs (a *ℤ pos (d / gcd b d) +ℤ c *ℤ pos (b / gcd b d))) R) _ q in
    (leb-true _ R r.0, leb-true _ R r.1)

pub sum_within : (a b : Rational) → sum_fits (num a) (den a) (num b) (den b) ≡ true → Within (exact.add a b)
sum_within a b e =
    let p = last_two (num a) (num b) (den a) (den b) e in
    subst Within (parts_laws.sum a b (multiple_above a b)) (reduce_within _ (multiple a b) (multiple_above a b) p.0 p.1)

pub difference_within : (a b : Rational) → sum_fits (num a) (den a) (neg_ℤ (num b)) (den b) ≡ true → Within (exact.sub a b)
difference_within a b e =
    let p = last_two (num a) (neg_ℤ (num b)) (den a) (den b) e in
    subst Within (parts_laws.difference a b (multiple_above a b)) (reduce_within _ (multiple a b) (multiple_above a b) p.0 p.1)

-- a product of two small numbers
small_product : (m n : ℕ) → m ≤ 1000000 → n ≤ 1000000 → m * n ≤ 1000000000000
small_product m n p q = N.mul-le-mul p q

below_R : {n : ℕ} → n ≤ 1000000000000 → n ≤ R
below_R h = N.le_trans h (omega arith)

quotient_small : (n g : ℕ) → n ≤ 1000000 → n / g ≤ 1000000
quotient_small n g h = N.le_trans (N.div-le_self n g) h

pub sum_small : (a c : ℤ) (b d : ℕ) → unsigned_abs a ≤ 1000000 → b ≤ 1000000 → unsigned_abs c ≤ 1000000 → d ≤ 1000000 → sum_fits a b c d ≡ true
unfolding sum_fits
sum_small a c b d p q r s =
    and_from _ _ (le-leb _ R (below_R left)) (and_from _ _ (le-leb _ R (below_R right)) (and_from _ _ (le-leb _ R together) (le-leb _ R (below_R (small_product b (d / gcd b d) q (quotient_small d (gcd b d) s))))))
  where
    left : unsigned_abs (a *ℤ pos (d / gcd b d)) ≤ 1000000000000
    left = subst (λ z. z ≤ 1000000000000) (sym (abs_product a (pos (d / gcd b d)))) (small_product (unsigned_abs a) (d / gcd b d) p (quotient_small d (gcd b d) s))

    right : unsigned_abs (c *ℤ pos (b / gcd b d)) ≤ 1000000000000
    right = subst (λ z. z ≤ 1000000000000) (sym (abs_product c (pos (b / gcd b d)))) (small_product (unsigned_abs c) (b / gcd b d) r (quotient_small b (gcd b d) q))

    bounded : (x y : ℤ) → unsigned_abs x ≤ 1000000000000 → unsigned_abs y ≤ 1000000000000 → unsigned_abs (x +ℤ y) ≤ R
    bounded x y h k = omega (arith, ints)

    together : unsigned_abs (a *ℤ pos (d / gcd b d) +ℤ c *ℤ pos (b / gcd b d)) ≤ R
    together = bounded (a *ℤ pos (d / gcd b d)) (c *ℤ pos (b / gcd b d)) left right

-- ---- products and quotients

both_products : (a b c d : ℕ) → product_fits a b c d ≡ true → (a / gcd a d * (c / gcd c b) ≤ R) × (b / gcd c b * (d / gcd a d) ≤ R)
unfolding product_fits
both_products a b c d e = let p = and_parts (nat_le (a / gcd a d * (c / gcd c b)) R) _ e in (leb-true _ R p.0, leb-true _ R p.1)

pub product_within : (a b : Rational) → product_fits (unsigned_abs (num a)) (den a) (unsigned_abs (num b)) (den b) ≡ true → Within (exact.mul a b)
product_within a b e =
    let p = both_products (unsigned_abs (num a)) (den a) (unsigned_abs (num b)) (den b) e in
    let is = parts_laws.product a b in
    record {
      upper = subst (λ z. z ≤ R) (sym (ap unsigned_abs is.0 ∙ abs_product (part (num a) (crosswise a b)) (part (num b) (crosswise b a)) ∙ ap₂ ◌*◌ (abs_part (num a) (crosswise a b)) (abs_part (num b) (crosswise b a)))) p.0;
      lower = subst (λ z. z ≤ R) (sym is.1) p.1;
    }

pub abs_zero : (z : ℤ) → z ≡ pos 0 → unsigned_abs z ≡ 0
abs_zero z e = ap unsigned_abs e

pub quotient_within : (a b : Rational) → (not (unsigned_abs (num b) == 0) && product_fits (unsigned_abs (num a)) (den a) (den b) (unsigned_abs (num b))) ≡ true → Within (exact.div a b)
quotient_within a b e =
    let t = and_parts (not (unsigned_abs (num b) == 0)) _ e in
    let p = both_products (unsigned_abs (num a)) (den a) (den b) (unsigned_abs (num b)) t.1 in
    let is = parts_laws.quotient a b (λ z. eqb-false _ _ (not-true _ t.0) (abs_zero (num b) z)) in
    record {
      upper = subst (λ z. z ≤ R) (sym (ap unsigned_abs is.0 ∙ abs_product (part (num a) (upper a b)) (signed (num b) (den b / shared b a)) ∙ ap₂ ◌*◌ (abs_part (num a) (upper a b)) (abs_signed (num b) (den b / shared b a)))) p.0;
      lower = subst (λ z. z ≤ R) (sym is.1) p.1;
    }

pub product_small : (a b c d : ℕ) → a ≤ 1000000 → b ≤ 1000000 → c ≤ 1000000 → d ≤ 1000000 → product_fits a b c d ≡ true
unfolding product_fits
product_small a b c d p q r s = and_from _ _ (le-leb _ R (bounded a c (gcd a d) (gcd c b) p r)) (le-leb _ R (bounded b d (gcd c b) (gcd a d) q s))
  where
    bounded : (m n g h : ℕ) → m ≤ 1000000 → n ≤ 1000000 → m / g * (n / h) ≤ R
    bounded m n g h p q = below_R (small_product (m / g) (n / h) (quotient_small m g p) (quotient_small n h q))

-- ---- the others

pub negative_within : (a : Rational) → Within a → Within (exact.neg a)
negative_within a w = record {
  upper = subst (λ z. z ≤ R) (sym (ap unsigned_abs (parts_laws.negative a).0 ∙ abs_negative (num a))) w.upper;
  lower = subst (λ z. z ≤ R) (sym (parts_laws.negative a).1) w.lower;
}

pub small_within : (x : Rational) → Small x → Within x
small_within x s = record { upper = N.le_trans s.numerator (omega arith); lower = N.le_trans s.denominator (omega arith) }
