-- A product or a quotient, with what cancels crosswise taken out first, is in lowest terms as it stands.
use mathlib.Core.Path.{◌≡◌, refl, sym, ap, ap₂, subst, ◌∙◌}
use Prim.Native.Nat.{ℕ, zero, suc, ◌*◌, ◌/◌, ◌<◌, ◌∣◌}
use native.Mathlib.Nat as N
use lib.IntN.{ℤ, pos, negsuc, neg_ℤ, nat_abs, ◌*ℤ◌}
use Rattle.rational.specs.Gcd.{gcd, gcd_left, gcd_right, gcd_greatest, gcd_comm, gcd_reduced, gcd_one_mul}
use Rattle.rational.specs.Rational.{Rational, num, den, ratio_of, signed, part, abs_part, quot_above, inv_of, inv_ratio, mul_ratio, reciprocal, mul, div}
use Rattle.rational.specs.Parts.{crosswise, shared, upper, Is, ProductByParts, ReciprocalByParts, QuotientByReciprocal, QuotientByParts, DivisorsApart}
use Rattle.rational.proofs.Ring.{x₀, x₁, x₂, x₃, x₄, x₅, x₆, x₇, var, ◌⊗◌, [], ◌∷◌, ring_from, none, fact}
use Rattle.rational.proofs.Integers.{ℤ-ring, abs_negative, abs_product}
use Rattle.rational.proofs.Ratios.{part-mul, reduce_eq, reduce-ratio}
use Rattle.rational.proofs.Rationals.{mul_r}

-- ---- numbers with no factor in common

-- a, c and b, d
apart : (a b c d : ℕ) → gcd a b ≡ 1 → gcd a d ≡ 1 → gcd c b ≡ 1 → gcd c d ≡ 1 → gcd (a * c) (b * d) ≡ 1
apart a b c d p q r s = gcd_comm (a * c) (b * d)
    ∙ gcd_one_mul (b * d) a c (gcd_comm (b * d) a ∙ gcd_one_mul a b d p q) (gcd_comm (b * d) c ∙ gcd_one_mul c b d r s)

-- nor have their divisors
divisors : (a b m e : ℕ) → gcd a b ≡ 1 → m ∣ a → e ∣ b → gcd m e ≡ 1
divisors a b m e h p q = N.eq-one_of_dvd-one (subst (λ z. gcd m e ∣ z) h (gcd_greatest a b (gcd m e) (N.dvd_trans (gcd m e) (gcd_left m e) p) (N.dvd_trans (gcd m e) (gcd_right m e) q)))

pub divisors_apart : DivisorsApart
divisors_apart x m e = divisors (nat_abs (num x)) (den x) m e x.lowest

-- ---- products

-- fractions that share no factor crosswise
product-lowest : (x y : Rational) → gcd (nat_abs (num x)) (den y) ≡ 1 → gcd (nat_abs (num y)) (den x) ≡ 1 → gcd (nat_abs (num x *ℤ num y)) (den x * den y) ≡ 1
product-lowest x y p q = ap (λ z. gcd z (den x * den y)) (abs_product (num x) (num y)) ∙ apart (nat_abs (num x)) (den x) (nat_abs (num y)) (den y) x.lowest p q y.lowest

pub product_is : (x y : Rational) (p : gcd (nat_abs (num x)) (den y) ≡ 1) (q : gcd (nat_abs (num y)) (den x) ≡ 1) → (mul x y).ratio ≡ mul_ratio x.ratio y.ratio
unfolding mul
product_is x y p q = ap (λ z. z.ratio) (reduce-ratio (record { ratio = mul_ratio x.ratio y.ratio; lowest = product-lowest x y p q }))

-- n / g divides n
quot_divides : (n g : ℕ) → g ∣ n → n / g ∣ n
quot_divides n g h = subst (λ z. n / g ∣ z) (N.div-mul_cancel g h) (N.dvd-mul_right (n / g) g)

pub product_by_parts : ProductByParts
unfolding mul
product_by_parts a b = (ap (λ z. z.num) whole, ap (λ z. z.den) whole)
  where
    g₁ : ℕ
    g₁ = crosswise a b

    g₂ : ℕ
    g₂ = crosswise b a

    n₁ : ℤ
    n₁ = part (num a) g₁

    n₂ : ℤ
    n₂ = part (num b) g₂

    d₁ : ℕ
    d₁ = den a / g₂

    d₂ : ℕ
    d₂ = den b / g₁

    left : (x y : Rational) → nat_abs (num x) / crosswise x y ∣ nat_abs (num x)
    left x y = quot_divides (nat_abs (num x)) (crosswise x y) (gcd_left (nat_abs (num x)) (den y))

    right : (x y : Rational) → den x / crosswise y x ∣ den x
    right x y = quot_divides (den x) (crosswise y x) (gcd_right (nat_abs (num y)) (den x))

    lowest' : gcd (nat_abs (n₁ *ℤ n₂)) (d₁ * d₂) ≡ 1
    lowest' = ap (λ z. gcd z (d₁ * d₂)) (abs_product n₁ n₂ ∙ ap₂ ◌*◌ (abs_part (num a) g₁) (abs_part (num b) g₂))
        ∙ apart (nat_abs (num a) / g₁) d₁ (nat_abs (num b) / g₂) d₂
        (divisors (nat_abs (num a)) (den a) (nat_abs (num a) / g₁) d₁ a.lowest (left a b) (right a b))
        (gcd_reduced (nat_abs (num a)) (den b) b.ratio.above)
        (gcd_reduced (nat_abs (num b)) (den a) a.ratio.above)
        (divisors (nat_abs (num b)) (den b) (nat_abs (num b) / g₂) d₂ b.lowest (left b a) (right b a))

    result : Rational
    result = record {
      ratio = ratio_of (n₁ *ℤ n₂) (d₁ * d₂) (N.mul-pos (quot_above (nat_abs (num b)) (den a) a.ratio.above) (quot_above (nat_abs (num a)) (den b) b.ratio.above));
      lowest = lowest';
    }

    whole : (mul a b).ratio ≡ result.ratio
    whole = ap (λ z. z.ratio) (reduce_eq (mul_ratio a.ratio b.ratio) result.ratio
        (ring_from ℤ-ring (n₁ ∷ pos g₁ ∷ n₂ ∷ pos g₂ ∷ pos d₁ ∷ pos d₂ ∷ num a ∷ num b ∷ pos (den a) ∷ pos (den b) ∷ [])
        (x₆ ⊗ x₇ ⊗ (x₄ ⊗ x₅)) (x₀ ⊗ x₂ ⊗ (var 8 ⊗ var 9))
        (fact (x₇ ⊗ x₄ ⊗ x₅) x₆ (x₀ ⊗ x₁) (sym (part-mul (num a) g₁ (gcd_left (nat_abs (num a)) (den b))))
        (fact (x₀ ⊗ x₁ ⊗ x₄ ⊗ x₅) x₇ (x₂ ⊗ x₃) (sym (part-mul (num b) g₂ (gcd_left (nat_abs (num b)) (den a))))
        (fact (x₀ ⊗ x₂ ⊗ x₁ ⊗ x₅) (x₄ ⊗ x₃) (var 8) (ap pos (N.div-mul_cancel g₂ (gcd_right (nat_abs (num b)) (den a))))
        (fact (x₀ ⊗ x₂ ⊗ var 8) (x₅ ⊗ x₁) (var 9) (ap pos (N.div-mul_cancel g₁ (gcd_right (nat_abs (num a)) (den b)))) none)))) refl) ∙ reduce-ratio result)

-- ---- quotients

pub quotient_by_reciprocal : QuotientByReciprocal
unfolding mul div
quotient_by_reciprocal a b = sym (mul_r a.ratio (inv_ratio b.ratio))

-- the two numbers of 1 / x
inv_parts : (n : ℤ) (d : ℕ) (h : 0 < d) → ¬ (n ≡ pos 0) → ((inv_of n d h).num ≡ signed n d) × ((inv_of n d h).den ≡ nat_abs n)
unfolding inv_of
inv_parts (pos zero) d h k = absurd (k refl)
inv_parts (pos (suc n)) d h k = (refl, refl)
inv_parts (negsuc n) d h k = (refl, refl)

abs_signed : (z : ℤ) (n : ℕ) → nat_abs (signed z n) ≡ n
abs_signed (pos z) n = refl
abs_signed (negsuc z) n = abs_negative (pos n)

pub reciprocal_by_parts : ReciprocalByParts
unfolding inv_ratio
reciprocal_by_parts b k = (ap (λ z. z.num) whole ∙ parts.0, ap (λ z. z.den) whole ∙ parts.1)
  where
    parts : ((inv_ratio b.ratio).num ≡ signed (num b) (den b)) × ((inv_ratio b.ratio).den ≡ nat_abs (num b))
    parts = inv_parts (num b) (den b) b.ratio.above k

    lowest' : gcd (nat_abs (inv_ratio b.ratio).num) (inv_ratio b.ratio).den ≡ 1
    lowest' = ap₂ gcd (ap nat_abs parts.0 ∙ abs_signed (num b) (den b)) parts.1 ∙ gcd_comm (den b) (nat_abs (num b)) ∙ b.lowest

    whole : (reciprocal b).ratio ≡ inv_ratio b.ratio
    whole = ap (λ z. z.ratio) (reduce-ratio (record { ratio = inv_ratio b.ratio; lowest = lowest' }))

part-signed : (z : ℤ) (n g : ℕ) → part (signed z n) g ≡ signed z (n / g)
part-signed (pos z) n g = refl
part-signed (negsuc z) zero g = ap pos (N.zero-div g) ∙ ap (λ n. neg_ℤ (pos n)) (sym (N.zero-div g))
part-signed (negsuc z) (suc n) g = refl

pub quotient_by_parts : QuotientByParts
quotient_by_parts a b k = (
  ap num (quotient_by_reciprocal a b) ∙ (product_by_parts a r).0 ∙ ap₂ (λ g h. part (num a) g *ℤ h) ups (ap₂ part is.0 downs ∙ part-signed (num b) (den b) (shared b a)),
  ap den (quotient_by_reciprocal a b) ∙ (product_by_parts a r).1 ∙ ap₂ (λ g h. den a / g * h) downs (ap₂ ◌/◌ is.1 ups),
)
  where
    r : Rational
    r = reciprocal b

    is : Is r (signed (num b) (den b)) (nat_abs (num b))
    is = reciprocal_by_parts b k

    ups : crosswise a r ≡ upper a b
    ups = ap (gcd (nat_abs (num a))) is.1

    downs : crosswise r a ≡ shared b a
    downs = ap (λ z. gcd z (den a)) (ap nat_abs is.0 ∙ abs_signed (num b) (den b))
