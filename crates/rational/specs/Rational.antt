-- A fraction is two whole numbers of any size in lowest terms, the lower above 0. So two fractions are equal (≡) exactly when they have one value.
use Rattle.std.specs.Prelude.{◌≡◌, refl, Bool, true, false, ℕ, zero, suc, ◌*◌, ◌/◌, ◌^◌, ◌<◌, ℤ, pos, negsuc, neg_ℤ, nat_abs, ◌+ℤ◌, ◌*ℤ◌}
use Rattle.std.proofs.Common.{sym, ap, subst, ◌∙◌}
use Rattle.std.proofs.Math.Nat as N
use Rattle.rational.specs.Gcd.{gcd, gcd_right, gcd_reduced}
use Rattle.rational.specs.Algebra.{FieldOps}

-- two whole numbers, the lower above 0, in any terms
pub record Ratio : Type 0 where
  pub num : ℤ
  pub den : ℕ
  pub above : 0 < den

-- in lowest terms
pub record Rational : Type 0 where
  pub ratio : Ratio
  pub lowest : gcd (nat_abs ratio.num) ratio.den ≡ 1

-- n / d as it stands
abbrev pub ratio_of : ℤ → (d : ℕ) → 0 < d → Ratio
ratio_of n d h = record { num = n; den = d; above = h }

-- the numerator and the denominator
abbrev pub num : Rational → ℤ
num a = a.ratio.num

abbrev pub den : Rational → ℕ
den a = a.ratio.den

-- n with the sign of z
abbrev pub signed : ℤ → ℕ → ℤ
signed (pos a) n = pos n
signed (negsuc a) n = neg_ℤ (pos n)

-- n / g, for a g that divides n
abbrev pub part : ℤ → ℕ → ℤ
part (pos a) g = pos (a / g)
part (negsuc a) g = neg_ℤ (pos (suc a / g))

-- ---- what `reduce` has to show: both parts are whole, and the lower stays above 0

abs_neg : (n : ℕ) → nat_abs (neg_ℤ (pos n)) ≡ n
abs_neg zero = refl
abs_neg (suc n) = refl

pub abs_part : (z : ℤ) (g : ℕ) → nat_abs (part z g) ≡ nat_abs z / g
abs_part (pos a) g = refl
abs_part (negsuc a) g = abs_neg (suc a / g)

pub quot_above : (a b : ℕ) → 0 < b → 0 < b / gcd a b
quot_above a b h = go (b / gcd a b) (N.div-mul_cancel (gcd a b) (gcd_right a b))
  where
    go : (q : ℕ) → q * gcd a b ≡ b → 0 < q
    go zero e = absurd (N.lt_irrefl 0 (subst (λ z. 0 < z) (sym e ∙ N.zero-mul _) h))
    go (suc q) e = N.zero-lt-suc q

-- both numbers divided by what they have in common
unfoldable pub reduce : Ratio → Rational
reduce r = record {
  ratio = record { num = part r.num (gcd (nat_abs r.num) r.den); den = r.den / gcd (nat_abs r.num) r.den; above = quot_above (nat_abs r.num) r.den r.above };
  lowest = ap (λ z. gcd z (r.den / gcd (nat_abs r.num) r.den)) (abs_part r.num _) ∙ gcd_reduced (nat_abs r.num) r.den r.above;
}

-- ---- the operations

abbrev pub add_ratio : Ratio → Ratio → Ratio
add_ratio x y = record { num = x.num *ℤ pos y.den +ℤ y.num *ℤ pos x.den; den = x.den * y.den; above = N.mul-pos x.above y.above }

abbrev pub mul_ratio : Ratio → Ratio → Ratio
mul_ratio x y = record { num = x.num *ℤ y.num; den = x.den * y.den; above = N.mul-pos x.above y.above }

abbrev pub neg_ratio : Ratio → Ratio
neg_ratio x = record { num = neg_ℤ x.num; den = x.den; above = x.above }

-- z / 10^k
abbrev pub decimal : ℤ → ℕ → Ratio
decimal z k = record { num = z; den = 10 ^ k; above = N.one-le-pow k 10 (N.zero-lt-suc 9) }

abbrev pub whole : ℤ → Ratio
whole z = decimal z 0

-- n / d turned over, with the sign above, and 0 at 0
unfoldable pub inv_of : (n : ℤ) (d : ℕ) → 0 < d → Ratio
inv_of (pos zero) d h = whole (pos 0)
inv_of (pos (suc n)) d h = record { num = pos d; den = suc n; above = N.zero-lt-suc n }
inv_of (negsuc n) d h = record { num = neg_ℤ (pos d); den = suc n; above = N.zero-lt-suc n }

unfoldable pub inv_ratio : Ratio → Ratio
unfolding inv_of
inv_ratio x = inv_of x.num x.den x.above

-- 1 / b, and 0 at 0
abbrev pub reciprocal : Rational → Rational
reciprocal b = reduce (inv_ratio b.ratio)

-- shut, so that a goal shows `add a b`, and a tactic can read it
unfoldable pub add : Rational → Rational → Rational
add a b = reduce (add_ratio a.ratio b.ratio)

unfoldable pub sub : Rational → Rational → Rational
sub a b = reduce (add_ratio a.ratio (neg_ratio b.ratio))

unfoldable pub mul : Rational → Rational → Rational
mul a b = reduce (mul_ratio a.ratio b.ratio)

unfoldable pub neg : Rational → Rational
neg a = reduce (neg_ratio a.ratio)

unfoldable pub lit : ℤ → ℕ → Rational
lit z k = reduce (decimal z k)

unfoldable pub div : Rational → Rational → Rational
div a b = reduce (mul_ratio a.ratio (inv_ratio b.ratio))

abbrev pub positive : ℤ → Bool
positive (pos zero) = false
positive (pos (suc n)) = true
positive (negsuc n) = false

-- a < b: the numerator of b − a is above 0
unfoldable pub below : Rational → Rational → Bool
below a b = positive (add_ratio b.ratio (neg_ratio a.ratio)).num

abbrev pub exact : FieldOps Rational
exact = record { add = add; sub = sub; mul = mul; div = div; neg = neg; below = below; lit = lit }

-- n / d
unfoldable pub over : ℤ → (d : ℕ) → 0 < d → Rational
over n d h = reduce (ratio_of n d h)

-- what to unfold so that closed numbers compute: `unfolding computes`
unfoldable pub computes : Unit {0}
unfolding add sub mul neg lit div below over reduce gcd inv_ratio
computes = tt
