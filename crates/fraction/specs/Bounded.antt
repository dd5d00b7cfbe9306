-- The arithmetic of fractions whose two numbers are at most R: each operation is the exact one, under the test that says when its result is kept.
use Rattle.std.specs.Prelude.{ℕ, zero, suc, ◌*◌, ◌/◌, ◌^◌, Bool, true, false, cond, not, ◌&&◌, ℤ, pos, ◌+ℤ◌, ◌*ℤ◌, neg_ℤ, None, ◌==◌, nat_le, unsigned_abs}
use Rattle.std.proofs.Math.Nat as N
use Rattle.std.specs.Float.Ieee.{size}
use Rattle.std.specs.Int.Signed.{non_neg}
use Rattle.rational.specs.Gcd.{gcd}
use Rattle.rational.specs.Rational.{Rational, num, den, signed, over, reciprocal, exact}
use Rattle.roots.specs.Digits.{root_below}
use Rattle.number.specs.Meaning.{Meaning, lost, fraction, float}
use Rattle.number.specs.Ops.{Ops}
use Rattle.number.specs.Exactness.{nearest_of, decimal_value}
use Rattle.fraction.specs.Bound.{R}
use Rattle.fraction.specs.Same.{same_rational, same_meaning}

-- x where it is kept, else lost
abbrev pub kept : Bool → Rational → Meaning
kept test x = cond test (fraction x) lost

-- both numbers are at most R in size
abbrev pub fits : Rational → Bool
fits x = nat_le (unsigned_abs (num x)) R && nat_le (den x) R

-- n / d, lost for a d of 0
abbrev pub ratio : ℤ → ℕ → Meaning
ratio n zero = lost
ratio n (suc d) = fraction (over n (suc d) (N.zero-lt-suc d))

-- ---- sums

-- No number on the way to a/b + c/d exceeds R in size: with g the greatest common divisor of b and d, these are a × (d ÷ g), c × (b ÷ g),
-- their sum and b × (d ÷ g).
unfoldable pub sum_fits : ℤ → ℕ → ℤ → ℕ → Bool
sum_fits a b c d =
    nat_le (unsigned_abs (a *ℤ pos (d / gcd b d))) R
    && (nat_le (unsigned_abs (c *ℤ pos (b / gcd b d))) R
    && (nat_le (unsigned_abs (a *ℤ pos (d / gcd b d) +ℤ c *ℤ pos (b / gcd b d))) R && nat_le (b * (d / gcd b d)) R))

abbrev pub sum : Rational → Rational → Meaning
sum a b = kept (sum_fits (num a) (den a) (num b) (den b)) (exact.add a b)

abbrev pub difference : Rational → Rational → Meaning
difference a b = kept (sum_fits (num a) (den a) (neg_ℤ (num b)) (den b)) (exact.sub a b)

-- ---- products and quotients

-- No product of a/b × c/d exceeds R in size, once the factors that a and d share and those that c and b share are removed.
unfoldable pub product_fits : ℕ → ℕ → ℕ → ℕ → Bool
product_fits a b c d = nat_le (a / gcd a d * (c / gcd c b)) R && nat_le (b / gcd c b * (d / gcd a d)) R

abbrev pub product : Rational → Rational → Meaning
product a b = kept (product_fits (unsigned_abs (num a)) (den a) (unsigned_abs (num b)) (den b)) (exact.mul a b)

-- 1 / x, lost at 0
abbrev pub inverse : Rational → Meaning
inverse x = cond (unsigned_abs (num x) == 0) lost (fraction (reciprocal x))

-- the product with the reciprocal; by 0 it is lost
abbrev pub quotient : Rational → Rational → Meaning
quotient a b = kept (not (unsigned_abs (num b) == 0) && product_fits (unsigned_abs (num a)) (den a) (den b) (unsigned_abs (num b))) (exact.div a b)

-- ---- roots

-- the whole part of the root of degree k of n
abbrev pub whole_root : ℕ → ℕ → ℕ
whole_root k n = root_below k (size n) n

-- n is a power of degree k
unfoldable pub is_power : ℕ → ℕ → Bool
is_power k n = whole_root k n ^ k == n

-- the root of the numerator, with its sign, by that of the denominator: lost unless both have a root
abbrev pub root : ℕ → Rational → Meaning
root k x = cond (is_power k (unsigned_abs (num x)) && is_power k (den x)) (ratio (signed (num x) (whole_root k (unsigned_abs (num x)))) (whole_root k (den x))) lost

abbrev pub square_root : Rational → Meaning
square_root x = cond (non_neg (num x)) (root 2 x) lost

-- ---- constants

-- a whole number or a decimal is lost if it does not fit
abbrev pub constant : Rational → Meaning
constant x = kept (fits x) x

-- ---- all operations

-- at fractions, and `none` at anything else
module _ {A : Type 0} (none : A) where
  abbrev pub one : (Rational → A) → Meaning → A
  one f lost = none
  one f (fraction a) = f a
  one f (float x) = none

  abbrev pub two : (Rational → Rational → A) → Meaning → Meaning → A
  two f lost n = none
  two f (fraction a) lost = none
  two f (fraction a) (fraction b) = f a b
  two f (fraction a) (float x) = none
  two f (float x) n = none

-- a² + b², by the operations above
abbrev pub squares : Meaning → Meaning → Meaning
squares m n = two lost sum (two lost product m m) (two lost product n n)

abbrev pub arithmetic : Ops Meaning
arithmetic = record {
  add = two lost sum;
  sub = two lost difference;
  mul = two lost product;
  div = two lost quotient;
  neg = one lost (λ a. fraction (exact.neg a));
  min = two lost (λ a b. fraction (cond (exact.below b a) b a));
  max = two lost (λ a b. fraction (cond (exact.below a b) b a));
  sqrt = one lost square_root;
  cbrt = one lost (root 3);
  whole = λ z. constant (exact.lit z 0);
  literal = λ d. constant (decimal_value d);
  mark = λ s m. m;
  lt = two false exact.below;
  le = two false (λ a b. not (exact.below b a));
  eq = two false same_rational;
  same = same_meaning;
  spoiled = one true (λ a. false);
  divisor = one false (λ a. not (unsigned_abs (num a) == 0));
  direction = λ m n. same_meaning (squares m n) (fraction (exact.lit (pos 1) 0));
  nearest = one None nearest_of;
}
