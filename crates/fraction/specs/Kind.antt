-- The laws of fractions as an exact number kind.
use Rattle.std.specs.Prelude.{◌≡◌, ◌≤◌, Bool, true, false, cond, not, ◌&&◌, ℤ, pos, negsuc, neg_ℤ, Decides, ◌==◌, unsigned_abs, refl}
use Rattle.std.proofs.Common.{inl, inr, sym, ap, subst}
use Rattle.std.proofs.Math.Nat as N
use Rattle.std.proofs.lemmas.Bool.{and_from}
use Rattle.std.proofs.lemmas.Bool.Decides.{Decides-not, Decides-like, Decides-eqb}
use Rattle.rational.specs.Algebra.{zero_of}
use Rattle.rational.specs.Rational.{Rational, num, den, exact}
use Rattle.rational.proofs.Integers.{abs_negative}
use Rattle.rational.proofs.Parts.{parts_laws}
use Rattle.number.specs.Exactness.{Small, Binary, Constant, Comparison, Exactness, always, nonzero, decimal_value}
use Rattle.number.specs.Meaning.{Meaning, lost, fraction, float, OrLost, LostOrFraction}
use Rattle.number.specs.Ops.{Hom}
use Rattle.fraction.specs.Bounded.{kept, constant, fits, sum_fits, product_fits, sum, difference, product, quotient, root, square_root, one, two, squares, arithmetic}
use Rattle.fraction.specs.Fractions.{value_of, meaning_of, pack, ops}
use Rattle.fraction.specs.declared.fraction.Fraction.{Fraction}
use Rattle.fraction.specs.Packs.{Within, Fit, fit_lost, fit_fraction, means-pack, meaning_fits}
use Rattle.fraction.specs.Bounds.{fits_within, within_fits, sum_within, difference_within, product_within, quotient_within, negative_within, sum_small, product_small, small_within, abs_zero}
use Rattle.fraction.specs.Roots.{root-fit, square_root-fit, square_root_value, square_root-kept, cube_root_value, cube_root_kept}
use Rattle.fraction.specs.SameLemmas.{decides_rational, decides_meaning}

-- ---- what a result means depends only on what the operands mean

kept-fit : (b : Bool) (x : Rational) → (b ≡ true → Within x) → Fit (kept b x)
kept-fit true x h = fit_fraction x (h refl)
kept-fit false x h = fit_lost

chosen_fit : (b : Bool) (x y : Rational) → Within x → Within y → Fit (fraction (cond b x y))
chosen_fit true x y p q = fit_fraction x p
chosen_fit false x y p q = fit_fraction y q

one-fit : (f : Rational → Meaning) → ((a : Rational) → Within a → Fit (f a)) → (m : Meaning) → Fit m → Fit (one lost f m)
one-fit f h lost p = fit_lost
one-fit f h (fraction a) (fit_fraction b p) = h a p
one-fit f h (float x) p = fit_lost

two-fit : (f : Rational → Rational → Meaning) → ((a b : Rational) → Within a → Within b → Fit (f a b)) → (m n : Meaning) → Fit m → Fit n → Fit (two lost f m n)
two-fit f h lost n p q = fit_lost
two-fit f h (fraction a) lost p q = fit_lost
two-fit f h (fraction a) (fraction b) (fit_fraction c p) (fit_fraction d q) = h a b p q
two-fit f h (fraction a) (float y) p q = fit_lost
two-fit f h (float x) n p q = fit_lost

module _ (x y : Fraction) where
  of_two : (f : Rational → Rational → Meaning) → ((a b : Rational) → Within a → Within b → Fit (f a b)) → meaning_of (pack (two lost f (meaning_of x) (meaning_of y))) ≡ two lost f (meaning_of x) (meaning_of y)
  of_two f h = means-pack (two-fit f h (meaning_of x) (meaning_of y) (meaning_fits x) (meaning_fits y))

of_one : (x : Fraction) (f : Rational → Meaning) → ((a : Rational) → Within a → Fit (f a)) → meaning_of (pack (one lost f (meaning_of x))) ≡ one lost f (meaning_of x)
of_one x f h = means-pack (one-fit f h (meaning_of x) (meaning_fits x))

pub hom : Hom meaning_of ops arithmetic
hom = record {
  add = λ x y. of_two x y sum (λ a b _ _. kept-fit _ _ (sum_within a b));
  sub = λ x y. of_two x y difference (λ a b _ _. kept-fit _ _ (difference_within a b));
  mul = λ x y. of_two x y product (λ a b _ _. kept-fit _ _ (product_within a b));
  div = λ x y. of_two x y quotient (λ a b _ _. kept-fit _ _ (quotient_within a b));
  neg = λ x. of_one x (λ a. fraction (exact.neg a)) (λ a p. fit_fraction (exact.neg a) (negative_within a p));
  min = λ x y. of_two x y (λ a b. fraction (cond (exact.below b a) b a)) (λ a b p q. chosen_fit (exact.below b a) b a q p);
  max = λ x y. of_two x y (λ a b. fraction (cond (exact.below a b) b a)) (λ a b p q. chosen_fit (exact.below a b) b a q p);
  sqrt = λ x. of_one x square_root square_root-fit;
  cbrt = λ x. of_one x (root 3) (λ a p. root-fit 3 a (N.zero-lt-suc 2) p);
  whole = λ z. means-pack (kept-fit _ _ (fits_within (exact.lit z 0)));
  literal = λ d. means-pack (kept-fit _ _ (fits_within (decimal_value d)));
  mark = λ s x. means-pack (meaning_fits x);
  lt = λ x y. refl;
  le = λ x y. refl;
  eq = λ x y. refl;
  same = λ x y. refl;
  spoiled = λ x. refl;
  divisor = λ x. refl;
  direction = λ x y. refl;
  nearest = λ x. refl;
}

pub meant : (x : Fraction) → LostOrFraction (meaning_of x)
meant x = go x.lost
  where
    go : (l : Bool) → LostOrFraction (cond l lost (fraction (value_of x)))
    go true = tt
    go false = tt

-- ---- the arithmetic is exact

kept_value : (b : Bool) (x : Rational) → OrLost (kept b x) x
kept_value true x = inr refl
kept_value false x = inl refl

kept_true : (b : Bool) (x : Rational) → b ≡ true → kept b x ≡ fraction x
kept_true b x e = ap (λ t. kept t x) e

right_lost : {A : Type 0} (none : A) (f : Rational → Rational → A) (m : Meaning) → two none f m lost ≡ none
right_lost none f lost = refl
right_lost none f (fraction a) = refl
right_lost none f (float x) = refl

-- an operation that keeps its result under a test
tested : (test : Rational → Rational → Bool) (defined : Rational → Rational → Type 0) (f : Rational → Rational → Rational)
    → ((a b : Rational) → defined a b → Small a → Small b → test a b ≡ true) → Binary (two lost (λ a b. kept (test a b) (f a b))) defined f
tested test defined f small = record {
  lost_left = λ m. refl;
  lost_right = right_lost lost (λ a b. kept (test a b) (f a b));
  value = λ a b. kept_value (test a b) (f a b);
  kept = λ a b d p q. kept_true (test a b) (f a b) (small a b d p q);
}

-- one that never loses its result
untested : (f : Rational → Rational → Rational) → Binary (two lost (λ a b. fraction (f a b))) always f
untested f = record { lost_left = λ m. refl; lost_right = right_lost lost (λ a b. fraction (f a b)); value = λ a b. inr refl; kept = λ a b d p q. refl }

constant_law : (x : Rational) → Constant (constant x) x
constant_law x = record { value = kept_value (fits x) x; kept = λ s. kept_true (fits x) x (within_fits x (small_within x s)) }

comparison : (f : Rational → Rational → Bool) → Comparison (two false f) f
comparison f = record { lost_left = λ m. refl; lost_right = right_lost false f; value = λ a b. refl }

-- a fraction is 0 exactly when its numerator is
zero_test : (a : Rational) → Decides (unsigned_abs (num a) == 0) (a ≡ zero_of exact)
zero_test a = Decides-like (unsigned_abs (num a) == 0) (λ e. (parts_laws.zero a).1 (empty (num a) e)) (λ e. abs_zero (num a) ((parts_laws.zero a).0 e)) (Decides-eqb (unsigned_abs (num a)) 0)
  where
    empty : (z : ℤ) → unsigned_abs z ≡ 0 → z ≡ pos 0
    empty (pos n) h = ap pos h
    empty (negsuc n) h = absurd (N.suc-ne-zero n h)

nonzero_test : (a : Rational) → Decides (not (unsigned_abs (num a) == 0)) (¬ (a ≡ zero_of exact))
nonzero_test a = Decides-not (unsigned_abs (num a) == 0) (zero_test a)

by_zero : (m : Meaning) → two lost quotient m (fraction (zero_of exact)) ≡ lost
by_zero lost = refl
by_zero (fraction a) = ap (λ t. kept (not t && product_fits (unsigned_abs (num a)) (den a) (den (zero_of exact)) (unsigned_abs (num (zero_of exact)))) (exact.div a (zero_of exact))) ((zero_test (zero_of exact)).1 refl)
by_zero (float x) = refl

pub exactness : Exactness arithmetic
exactness = record {
  add = tested (λ a b. sum_fits (num a) (den a) (num b) (den b)) always exact.add (λ a b d p q. sum_small (num a) (num b) (den a) (den b) p.numerator p.denominator q.numerator q.denominator);
  sub = tested (λ a b. sum_fits (num a) (den a) (neg_ℤ (num b)) (den b)) always exact.sub
      (λ a b d p q. sum_small (num a) (neg_ℤ (num b)) (den a) (den b) p.numerator p.denominator (subst (λ n. n ≤ 1000000) (sym (abs_negative (num b))) q.numerator) q.denominator);
  mul = tested (λ a b. product_fits (unsigned_abs (num a)) (den a) (unsigned_abs (num b)) (den b)) always exact.mul
      (λ a b d p q. product_small (unsigned_abs (num a)) (den a) (unsigned_abs (num b)) (den b) p.numerator p.denominator q.numerator q.denominator);
  div = tested (λ a b. not (unsigned_abs (num b) == 0) && product_fits (unsigned_abs (num a)) (den a) (den b) (unsigned_abs (num b))) nonzero exact.div
      (λ a b d p q. and_from _ _ ((nonzero_test b).1 d) (product_small (unsigned_abs (num a)) (den a) (den b) (unsigned_abs (num b)) p.numerator p.denominator q.denominator q.numerator));
  div_zero = by_zero;
  neg_lost = refl;
  neg = λ a. record { value = inr refl; kept = λ s. refl };
  min = untested (λ a b. cond (exact.below b a) b a);
  max = untested (λ a b. cond (exact.below a b) b a);
  sqrt = record { lost_operand = refl; value = square_root_value; kept = λ a r h s. square_root-kept a r h };
  cbrt = record { lost_operand = refl; value = cube_root_value; kept = λ a r h s. cube_root_kept a r h };
  whole = λ z. constant_law (exact.lit z 0);
  literal = λ d. constant_law (decimal_value d);
  mark = λ s m. refl;
  lt = comparison exact.below;
  le = comparison (λ a b. not (exact.below b a));
  eq_lost_left = λ m. refl;
  eq_lost_right = right_lost false _;
  eq = decides_rational;
  same = decides_meaning;
  spoiled_lost = refl;
  spoiled = λ a. refl;
  spoiled_float = λ x. refl;
  divisor_lost = refl;
  divisor = nonzero_test;
  direction = λ m n. decides_meaning (squares m n) (fraction (exact.lit (pos 1) 0));
  nearest_lost = refl;
  nearest = λ a. refl;
}
