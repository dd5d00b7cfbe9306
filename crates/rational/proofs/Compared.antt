-- Lowest terms, the order and the equality of fractions by their two numbers; the order is that of the cross products.
use mathlib.Core.Path.{◌≡◌, refl, sym, ap, ap₂, subst, ◌∙◌}
use Prim.Native.Nat.{zero, suc, ◌≤◌}
use native.Mathlib.Nat as N
use native.Mathlib.Omega.{arith}
use native.Mathlib.Decide.{ℕ_discrete}
use lib.Dec.{T, leb-zero, leb-suc-suc}
use lib.IntN.{ℤ, pos, negsuc, neg_ℤ, nat_abs, ◌+ℤ◌, ◌*ℤ◌, ℤ_discrete}
use lib.Signed.{lt_z}
use borrow.Author.Differences.{ints}
use Rattle.rational.specs.Gcd.{gcd, gcd_right}
use Rattle.rational.specs.Rational.{Ratio, Rational, num, den, abs_part, reduce, add_ratio, neg_ratio, whole as whole_r, sub, lit, positive, below}
use Rattle.rational.specs.Parts.{LowestTerms, EqualityByParts, EqualityByValue, OrderByParts, WholeByParts, ZeroByParts}
use Rattle.rational.proofs.Integers.{neg-mul}
use Rattle.rational.proofs.Ratios.{◌≈◌, ≈-trans, lowest_unique, reduce_is, reduce_eq, reduce-ratio, same_parts}
use Rattle.rational.proofs.Rationals.{rational_field, same, above_reduce, neg_like, add_swap, add_l, add_like}

positive_is : (z : ℤ) → positive z ≡ lt_z (pos 0) z
positive_is (pos zero) = refl
positive_is (pos (suc n)) = sym (leb-suc-suc 0 n ∙ leb-zero n)
positive_is (negsuc n) = refl

-- p − q is above 0: q < p
positive-difference : (p q : ℤ) → positive (p +ℤ neg_ℤ q) ≡ lt_z q p
positive-difference p q = positive_is (p +ℤ neg_ℤ q) ∙ same (lt_z (pos 0) (p +ℤ neg_ℤ q)) (lt_z q p) there back
  where
    there : T (lt_z (pos 0) (p +ℤ neg_ℤ q)) → T (lt_z q p)
    there t = omega (arith, ints)

    back : T (lt_z q p) → T (lt_z (pos 0) (p +ℤ neg_ℤ q))
    back t = omega (arith, ints)

-- x < y, for the numerator of y − x
crosses : (x y : Ratio) → positive (add_ratio y (neg_ratio x)).num ≡ lt_z (x.num *ℤ pos y.den) (y.num *ℤ pos x.den)
crosses x y = ap (λ z. positive (y.num *ℤ pos x.den +ℤ z)) (neg-mul x.num (pos y.den)) ∙ positive-difference (y.num *ℤ pos x.den) (x.num *ℤ pos y.den)

pub order_by_parts : OrderByParts
unfolding below
order_by_parts a b = crosses a.ratio b.ratio

-- the same before the two are brought to lowest terms
pub sub-reduce : (x y : Ratio) → sub (reduce x) (reduce y) ≡ reduce (add_ratio x (neg_ratio y))
unfolding sub
sub-reduce x y = add_l x (neg_ratio (reduce y).ratio) ∙ add_swap x (neg_ratio (reduce y).ratio)
    ∙ reduce_eq (add_ratio (neg_ratio (reduce y).ratio) x) (add_ratio (neg_ratio y) x) (add_like (neg_ratio (reduce y).ratio) (neg_ratio y) x (neg_like (reduce y).ratio y (reduce_is y)))
    ∙ add_swap (neg_ratio y) x

pub below-reduce : (x y : Ratio) → below (reduce x) (reduce y) ≡ lt_z (x.num *ℤ pos y.den) (y.num *ℤ pos x.den)
below-reduce x y = rational_field.below_sub (reduce x) (reduce y) ∙ ap (below (lit (pos 0) 0)) (sub-reduce y x) ∙ above_reduce (add_ratio y (neg_ratio x)) ∙ crosses x y

-- x < 0: the numerator is
pub negative_reduce : (x : Ratio) → below (reduce x) (lit (pos 0) 0) ≡ lt_z x.num (pos 0)
unfolding lit
negative_reduce x = below-reduce x (whole_r (pos 0)) ∙ same (lt_z (x.num *ℤ pos 1) (pos 0 *ℤ pos x.den)) (lt_z x.num (pos 0)) (λ t. omega (arith, ints)) (λ t. omega (arith, ints))

pub negative_is : (a : Rational) → below a (lit (pos 0) 0) ≡ lt_z (num a) (pos 0)
negative_is a = ap (λ z. below z (lit (pos 0) 0)) (sym (reduce-ratio a)) ∙ negative_reduce a.ratio

-- ---- equality

-- ratios with one form in lowest terms have one value
pub reduce_same : (x y : Ratio) → reduce x ≡ reduce y → x ≈ y
reduce_same x y e = ≈-trans x (reduce y).ratio y (subst (λ z. x ≈ z.ratio) e (sym (reduce_is x))) (reduce_is y)

pub equality_by_parts : EqualityByParts
equality_by_parts a b = (λ e. (ap num e, ap den e), λ h. same_parts h.0 h.1)

pub equality_by_value : EqualityByValue
equality_by_value a b = (λ e. ap₂ (λ n d. n *ℤ pos d) (ap num e) (sym (ap den e)), lowest_unique a b)

pub lowest_terms : LowestTerms
unfolding reduce
lowest_terms x = (reduce_is x, subst (λ n. n ≤ nat_abs x.num) (sym (abs_part x.num (gcd (nat_abs x.num) x.den))) (N.div-le_self (nat_abs x.num) _), N.div-le_self x.den _)

pub whole_by_parts : WholeByParts
unfolding lit
whole_by_parts z = (ap num as_it_stands, ap den as_it_stands)
  where
    stands : Rational
    stands = record { ratio = whole_r z; lowest = N.eq-one_of_dvd-one (gcd_right (nat_abs z) 1) }

    as_it_stands : reduce (whole_r z) ≡ stands
    as_it_stands = reduce-ratio stands

pub zero_by_parts : ZeroByParts
zero_by_parts a = (
  λ e. ap num e ∙ (whole_by_parts (pos 0)).0,
  λ e. lowest_unique a (lit (pos 0) 0) (ap₂ ◌*ℤ◌ e (ap pos (whole_by_parts (pos 0)).1) ∙ sym (ap (λ z. z *ℤ pos (den a)) (whole_by_parts (pos 0)).0 ∙ ap pos (N.zero-mul (den a)))),
)

-- so equality is decided by the two numbers
pub decide_equal : (a b : Rational) → Dec (a ≡ b)
decide_equal a b = both (ℤ_discrete (num a) (num b)) (ℕ_discrete (den a) (den b))
  where
    both : Dec (num a ≡ num b) → Dec (den a ≡ den b) → Dec (a ≡ b)
    both (yes p) (yes q) = yes (same_parts p q)
    both (yes p) (no q) = no (λ e. q (ap den e))
    both (no p) (yes q) = no (λ e. p (ap num e))
    both (no p) (no q) = no (λ e. p (ap num e))
