-- What the arithmetic gives at fractions, by the numbers that the machine computes.
use Rattle.std.proofs.Common.{◌≡◌, ℕ, zero, suc, ◌+◌, ◌*◌, ◌/◌, ◌<◌, ◌≤◌, Bool, true, false, cond, not, ◌&&◌, eqb, leb, ◌⊎◌, ℤ, pos, ◌+ℤ◌, ◌*ℤ◌, neg_ℤ, nat_abs, Some, None, sym, refl, ap, ◌∙◌, subst, ap₂, inl, inr}
use mathlib.Core.Bool.{beq}
use native.Mathlib.Nat as N
use lib.Signed.{non_neg}
use Rattle.std.proofs.lemmas.Bool.{le-leb, lt-leb, leb-true, leb-false, and_from, and_left, and_right, cond-true, cond-false, eqb-false}
use Rattle.rational.specs.Gcd.{gcd, gcd_reduced}
use Rattle.rational.specs.Rational.{Rational, num, den, part, ratio_of, decimal, over, lit, reduce, reciprocal, quot_above, exact, computes}
use Rattle.rational.specs.Nearest.{nearest}
use Rattle.rational.specs.Parts.{Is, multiple, crosswise}
use Rattle.rational.proofs.Parts.{parts_laws}
use Rattle.rational.proofs.Integers.{abs_product}
use Rattle.rational.proofs.Rationals.{rational_ring}
use Rattle.rational.proofs.Ratios.{reduce_eq, same_parts}
use Rattle.number.specs.Exactness.{nearest_of}
use Rattle.number.specs.Meaning.{Meaning, lost, fraction, float}
use Rattle.fraction.specs.Bound.{R}
use Rattle.fraction.specs.Bounded.{kept, constant, ratio, sum_fits, sum, difference, product_fits, product, inverse, quotient, one, two}
use Rattle.fraction.specs.Fractions.{meaning_of, value_of, with_sign}
use Rattle.fraction.specs.declared.fraction.Fraction.{Fraction}
use Rattle.fraction.specs.Bounds.{within_fits, reduce_within, multiple_above, abs_signed, abs_zero}
use Rattle.fraction.specs.Roots.{ratio_at}
use Rattle.fraction.proofs.Signs.{size_of, sign_of, scaled, part_sign, part-size, product_sign, signed_sign}

-- at two fractions that are not lost
pub at_values : {A : Type 0} (none : A) (f : Rational → Rational → A) (p q : Fraction) → p.lost ≡ false → q.lost ≡ false → two none f (meaning_of p) (meaning_of q) ≡ f (value_of p) (value_of q)
at_values none f p q l m = λ i. two none f (cond (l i) lost (fraction (value_of p))) (cond (m i) lost (fraction (value_of q)))

pub at_value : {A : Type 0} (none : A) (f : Rational → A) (p : Fraction) → p.lost ≡ false → one none f (meaning_of p) ≡ f (value_of p)
at_value none f p l = λ i. one none f (cond (l i) lost (fraction (value_of p)))

-- the fraction with the numerator turned is the negative
pub negative_means : (q : Fraction) (v : Rational) → num v ≡ neg_ℤ q.numerator → den v ≡ q.denominator → cond q.lost lost (fraction v) ≡ one lost (λ a. fraction (exact.neg a)) (meaning_of q)
negative_means q v n d = go q.lost
  where
    go : (b : Bool) → cond b lost (fraction v) ≡ one lost (λ a. fraction (exact.neg a)) (cond b lost (fraction (value_of q)))
    go true = refl
    go false = let is = parts_laws.negative (value_of q) in ap fraction (same_parts (n ∙ sym is.0) (d ∙ sym is.1))

-- ---- a product within the bound

pub record Kept (p w : ℕ) : Type 0 where
  pub below : p ≤ R
  pub is : p ≡ w
  pub small : w ≤ R

pub within : (p w : ℕ) → cond (leb p R) (Some p) None ≡ Some w → Kept p w
within p w e = go (leb p R) refl e
  where
    go : (t : Bool) → leb p R ≡ t → cond t (Some p) None ≡ Some w → Kept p w
    go true h e = let i : p ≡ w = cc in record { below = leb-true p R h; is = i; small = subst (λ k. k ≤ R) i (leb-true p R h) }
    go false h e = cc

pub beyond : (p : ℕ) → cond (leb p R) (Some p) None ≡ None → R < p
beyond p e = go (leb p R) refl e
  where
    go : (t : Bool) → leb p R ≡ t → cond t (Some p) None ≡ None → R < p
    go true h e = cc
    go false h e = leb-false p R h

-- ---- a fraction in lowest terms, by the sizes of its two numbers

module _ (x : Rational) (b : Bool) (n d : ℕ) (is : Is x (with_sign b n) d) where
  size_is : nat_abs (num x) ≡ n
  size_is = ap nat_abs is.0 ∙ size_of b n

  pub constant_lost : (R < n) ⊎ (R < d) → constant x ≡ lost
  constant_lost (inl h) = cond-false _ _ _ (and_left _ _ (ap (λ k. leb k R) size_is ∙ lt-leb _ R h))
  constant_lost (inr h) = cond-false _ _ _ (and_right _ _ (ap (λ k. leb k R) is.1 ∙ lt-leb _ R h))

  pub constant_kept : n ≤ R → d ≤ R → constant x ≡ fraction x
  constant_kept p q = cond-true _ _ _ (and_from _ _ (ap (λ k. leb k R) size_is ∙ le-leb _ R p) (ap (λ k. leb k R) is.1 ∙ le-leb _ R q))

-- ---- n / d in lowest terms

module _ (b : Bool) (n d g : ℕ) (above : 0 < d) (g-is : g ≡ gcd n d) where
  abbrev whole : Rational
  whole = over (with_sign b n) d above

  parts : Is whole (with_sign b (n / g)) (d / g)
  unfolding over reduce
  parts = (
    ap (λ k. part (with_sign b n) (gcd k d)) (size_of b n) ∙ part-size b n (gcd n d) ∙ ap (λ k. with_sign b (n / k)) (sym g-is),
    ap (λ k. d / gcd k d) (size_of b n) ∙ ap (λ k. d / k) (sym g-is),
  )

  at : one lost constant (ratio (with_sign b n) d) ≡ constant whole
  at = ap (one lost constant) (ratio_at (with_sign b n) d above)

  pub reduced_is : (m : Meaning) → ((x : Rational) → Is x (with_sign b (n / g)) (d / g) → m ≡ constant x) → m ≡ one lost constant (ratio (with_sign b n) d)
  reduced_is m f = f whole parts ∙ sym at

  pub reduced_above : 0 < d / g
  reduced_above = subst (λ k. 0 < d / k) (sym g-is) (quot_above n d above)

  pub reduced_lowest : gcd (n / g) (d / g) ≡ 1
  reduced_lowest = ap (λ k. gcd (n / k) (d / k)) g-is ∙ gcd_reduced n d above

-- ---- sums

-- within the bound n / d is kept
constant-ratio : (n : ℤ) (d : ℕ) → nat_abs n ≤ R → d ≤ R → one lost constant (ratio n d) ≡ ratio n d
unfolding over
constant-ratio n zero p q = refl
constant-ratio n (suc d) p q = cond-true _ _ _ (within_fits (over n (suc d) (N.zero-lt-suc d)) (reduce_within n (suc d) (N.zero-lt-suc d) p q))

pub ratio-kept : (z : ℤ) (d : ℕ) → nat_abs z ≤ R → d ≤ R → one lost constant (ratio z d) ≡ cond (leb (nat_abs z) R) (ratio z d) lost
ratio-kept z d h q = constant-ratio z d h q ∙ sym (cond-true _ _ _ (le-leb _ R h))

module _ (a b : Rational) (g : ℕ) (g-is : g ≡ gcd (den a) (den b)) (m n : ℕ) (m-is : m ≡ nat_abs (num a)) (n-is : n ≡ nat_abs (num b)) where
  left_size : nat_abs (num a *ℤ pos (den b / gcd (den a) (den b))) ≡ m * (den b / g)
  left_size = abs_product (num a) (pos (den b / gcd (den a) (den b))) ∙ sym (λ i. m-is i * (den b / g-is i))

  right_size : nat_abs (num b *ℤ pos (den a / gcd (den a) (den b))) ≡ n * (den a / g)
  right_size = abs_product (num b) (pos (den a / gcd (den a) (den b))) ∙ sym (λ i. n-is i * (den a / g-is i))

  lower : den a * (den b / gcd (den a) (den b)) ≡ den a * (den b / g)
  lower = sym (λ i. den a * (den b / g-is i))

  abbrev third : Bool
  third = leb (nat_abs (num a *ℤ pos (den b / gcd (den a) (den b)) +ℤ num b *ℤ pos (den a / gcd (den a) (den b)))) R

  pub sum_lost : (R < m * (den b / g)) ⊎ ((R < n * (den a / g)) ⊎ (R < den a * (den b / g))) → sum a b ≡ lost
  unfolding sum_fits
  sum_lost (inl h) = ap (λ t. kept (t && (leb (nat_abs (num b *ℤ pos (den a / gcd (den a) (den b)))) R && (third && leb (den a * (den b / gcd (den a) (den b))) R))) (exact.add a b))
      (ap (λ k. leb k R) left_size ∙ lt-leb _ R h)
  sum_lost (inr (inl h)) = ap (λ t. kept t (exact.add a b)) (and_right (leb (nat_abs (num a *ℤ pos (den b / gcd (den a) (den b)))) R) _ (and_left _ _ (ap (λ k. leb k R) right_size ∙ lt-leb _ R h)))
  sum_lost (inr (inr h)) = ap (λ t. kept t (exact.add a b)) (and_right (leb (nat_abs (num a *ℤ pos (den b / gcd (den a) (den b)))) R) _
      (and_right (leb (nat_abs (num b *ℤ pos (den a / gcd (den a) (den b)))) R) _ (and_right third _ (ap (λ k. leb k R) lower ∙ lt-leb _ R h))))

  module _ (s t : Bool) (s-is : s ≡ not (non_neg (num a))) (t-is : t ≡ not (non_neg (num b))) where
    left_is : with_sign s (m * (den b / g)) ≡ num a *ℤ pos (den b / gcd (den a) (den b))
    left_is = scaled s m (den b / g) ∙ (λ i. with_sign (s-is i) (m-is i) *ℤ pos (den b / g-is i)) ∙ ap (λ k. k *ℤ pos (den b / gcd (den a) (den b))) (sign_of (num a))

    right_is : with_sign t (n * (den a / g)) ≡ num b *ℤ pos (den a / gcd (den a) (den b))
    right_is = scaled t n (den a / g) ∙ (λ i. with_sign (t-is i) (n-is i) *ℤ pos (den a / g-is i)) ∙ ap (λ k. k *ℤ pos (den a / gcd (den a) (den b))) (sign_of (num b))

    together : ratio (num a *ℤ pos (den b / gcd (den a) (den b)) +ℤ num b *ℤ pos (den a / gcd (den a) (den b))) (den a * (den b / gcd (den a) (den b))) ≡ fraction (exact.add a b)
    unfolding over
    together = ratio_at _ (multiple a b) (multiple_above a b) ∙ ap fraction (parts_laws.sum a b (multiple_above a b))

    test : m * (den b / g) ≤ R → n * (den a / g) ≤ R → den a * (den b / g) ≤ R
        → third ≡ sum_fits (num a) (den a) (num b) (den b)
    unfolding sum_fits
    test p q r = go third (ap (λ k. leb k R) left_size ∙ le-leb _ R p) (ap (λ k. leb k R) right_size ∙ le-leb _ R q) (ap (λ k. leb k R) lower ∙ le-leb _ R r)
      where
        go : {x y z : Bool} (w : Bool) → x ≡ true → y ≡ true → z ≡ true → w ≡ (x && (y && (w && z)))
        go true e f g = sym (λ i. e i && (f i && g i))
        go false e f g = sym (λ i. e i && (f i && false))

    pub sum_kept : (x y : ℤ) (k : ℕ) → x ≡ with_sign s (m * (den b / g)) → y ≡ with_sign t (n * (den a / g)) → den a * (den b / g) ≡ k → m * (den b / g) ≤ R → n * (den a / g) ≤ R → den a * (den b / g) ≤ R
        → cond (leb (nat_abs (x +ℤ y)) R) (ratio (x +ℤ y) k) lost ≡ sum a b
    sum_kept x y k e f d p q r =
        (λ i. cond (leb (nat_abs ((e ∙ left_is) i +ℤ (f ∙ right_is) i)) R) (ratio ((e ∙ left_is) i +ℤ (f ∙ right_is) i) (sym (lower ∙ d) i)) lost)
        ∙ (λ i. cond (test p q r i) (together i) lost)

-- a difference is the sum with the negative
pub difference_is : (m n : Meaning) → two lost sum m (one lost (λ a. fraction (exact.neg a)) n) ≡ two lost difference m n
difference_is lost n = refl
difference_is (fraction a) lost = refl
difference_is (fraction a) (fraction b) =
    let is = parts_laws.negative b in
    λ i. kept (sum_fits (num a) (den a) (is.0 i) (is.1 i)) (sym (rational_ring.sub_is a b) i)
difference_is (fraction a) (float y) = refl
difference_is (float x) n = refl

-- ---- products and quotients

module _ (a b c d g h : ℕ) (g-is : g ≡ gcd a d) (h-is : h ≡ gcd c b) where
  pub product_lost : (x : Rational) → (R < a / g * (c / h)) ⊎ (R < b / h * (d / g)) → kept (product_fits a b c d) x ≡ lost
  unfolding product_fits
  product_lost x (inl k) = cond-false _ _ _ (and_left _ _ (sym (λ i. leb (a / g-is i * (c / h-is i)) R) ∙ lt-leb _ R k))
  product_lost x (inr k) = cond-false _ _ _ (and_right _ _ (sym (λ i. leb (b / h-is i * (d / g-is i)) R) ∙ lt-leb _ R k))

  pub product-kept : (x : Rational) → a / g * (c / h) ≤ R → b / h * (d / g) ≤ R → kept (product_fits a b c d) x ≡ fraction x
  unfolding product_fits
  product-kept x p q = cond-true _ _ _ (and_from _ _ (sym (λ i. leb (a / g-is i * (c / h-is i)) R) ∙ le-leb _ R p) (sym (λ i. leb (b / h-is i * (d / g-is i)) R) ∙ le-leb _ R q))

module _ (a b : Rational) (s t : Bool) (m n : ℕ) (s-is : s ≡ not (non_neg (num a))) (t-is : t ≡ not (non_neg (num b))) (m-is : m ≡ nat_abs (num a)) (n-is : n ≡ nat_abs (num b)) where
  pub product_parts : Is (exact.mul a b) (with_sign (not (beq s t)) (m / gcd m (den b) * (n / gcd n (den a)))) (den a / gcd n (den a) * (den b / gcd m (den b)))
  product_parts = (
    (parts_laws.product a b).0 ∙ ap₂ ◌*ℤ◌ (part_sign (num a) (crosswise a b)) (part_sign (num b) (crosswise b a)) ∙ product_sign (not (non_neg (num a))) (not (non_neg (num b))) (nat_abs (num a) / crosswise a b) (nat_abs (num b) / crosswise b a)
        ∙ sym (λ i. with_sign (not (beq (s-is i) (t-is i))) (m-is i / gcd (m-is i) (den b) * (n-is i / gcd (n-is i) (den a)))),
    (parts_laws.product a b).1 ∙ sym (λ i. den a / gcd (n-is i) (den a) * (den b / gcd (m-is i) (den b))),
  )

  module _ (g h : ℕ) (g-is : g ≡ gcd m (den b)) (h-is : h ≡ gcd n (den a)) (k d : ℕ) (k-is : m / g * (n / h) ≡ k) (d-is : den a / h * (den b / g) ≡ d) where
    pub product_sizes : Is (exact.mul a b) (with_sign (not (beq s t)) k) d
    product_sizes = (
      product_parts.0 ∙ sym (λ i. with_sign (not (beq s t)) (m / g-is i * (n / h-is i))) ∙ ap (with_sign (not (beq s t))) k-is,
      product_parts.1 ∙ sym (λ i. den a / h-is i * (den b / g-is i)) ∙ d-is,
    )

  pub product_test : kept (product_fits m (den a) n (den b)) (exact.mul a b) ≡ product a b
  product_test = λ i. kept (product_fits (m-is i) (den a) (n-is i) (den b)) (exact.mul a b)

-- a quotient is the product with the reciprocal
pub quotient_is : (m n : Meaning) → two lost product m (one lost inverse n) ≡ two lost quotient m n
quotient_is lost n = refl
quotient_is (fraction a) lost = refl
quotient_is (fraction a) (fraction b) = go (eqb (nat_abs (num b)) 0) refl
  where
    go : (z : Bool) → eqb (nat_abs (num b)) 0 ≡ z → two lost product (fraction a) (cond z lost (fraction (reciprocal b))) ≡ kept (not z && product_fits (nat_abs (num a)) (den a) (den b) (nat_abs (num b))) (exact.div a b)
    go true e = refl
    go false e =
        let is = parts_laws.reciprocal_is b (λ z. eqb-false _ _ e (abs_zero (num b) z)) in
        λ i. kept (product_fits (nat_abs (num a)) (den a) ((ap nat_abs is.0 ∙ abs_signed (num b) (den b)) i) (is.1 i)) (sym (parts_laws.by_reciprocal a b) i)
quotient_is (fraction a) (float y) = refl
quotient_is (float x) n = refl

-- the two numbers of a reciprocal
pub inverse_parts : (b : Rational) (s : Bool) → s ≡ not (non_neg (num b)) → ¬ (nat_abs (num b) ≡ 0) → Is (reciprocal b) (with_sign s (den b)) (nat_abs (num b))
inverse_parts b s e z =
    let is = parts_laws.reciprocal_is b (λ k. z (abs_zero (num b) k)) in
    (is.0 ∙ signed_sign (num b) (den b) ∙ sym (ap (λ k. with_sign k (den b)) e), is.1)

-- ---- whole numbers

pub whole-ratio : (z : ℤ) → one lost constant (ratio z 1) ≡ constant (exact.lit z 0)
unfolding over lit
whole-ratio z = ap constant (reduce_eq (ratio_of z 1 (N.zero-lt-suc 0)) (decimal z 0) refl)

pub whole_one : constant (exact.lit (pos 1) 0) ≡ fraction (exact.lit (pos 1) 0)
unfolding computes
whole_one = refl

-- the nearest one, by its size
module _ (x : Rational) (k : ℕ) (k-is : k ≡ (2 * nat_abs (num x) + den x) / (2 * den x)) where
  size-rounded : nat_abs (nearest x) ≡ k
  unfolding nearest
  size-rounded = abs_signed (num x) _ ∙ sym k-is

  pub rounded_none : 1000000 < k → None ≡ nearest_of x
  rounded_none h = sym (cond-false _ _ _ (ap (λ n. leb n 1000000) size-rounded ∙ lt-leb _ 1000000 h))

  pub rounded_some : (b : Bool) (r : ℤ) → b ≡ not (non_neg (num x)) → k ≤ 1000000 → r ≡ with_sign b k → Some r ≡ nearest_of x
  unfolding nearest
  rounded_some b r e h f = ap Some (f ∙ (λ i. with_sign (e i) (k-is i)) ∙ sym (signed_sign (num x) _)) ∙ sym (cond-true _ _ _ (ap (λ n. leb n 1000000) size-rounded ∙ le-leb _ 1000000 h))
