-- Two ratios of one value have one form in lowest terms.
use mathlib.Core.Path.{◌≡◌, refl, sym, ap, ap₂, subst, ◌∙◌}
use mathlib.Core.HLevel.{is_prop→PathP}
use Prim.Native.Nat.{ℕ, zero, suc, ◌*◌, ◌/◌, ◌<◌, ◌∣◌}
use native.Mathlib.Nat as N
use native.Mathlib.Bridge.{le_prop}
use lib.IntN.{ℤ, pos, negsuc, neg_ℤ, nat_abs, ◌+ℤ◌, ◌*ℤ◌}
use Rattle.rational.specs.Gcd.{gcd, gcd_left, gcd_right, gcd_greatest, gcd-scale}
use Rattle.rational.specs.Rational.{Ratio, Rational, num, den, reduce, part}
use Rattle.rational.proofs.Ring.{x₀, x₁, x₂, x₃, x₄, x₅, con, ◌⊖◌, ◌⊗◌, [], ◌∷◌, ring_by, ring_from, none, fact}
use Rattle.rational.proofs.Integers.{ℤ-ring, abs_product}

-- one value
infix 50 ◌≈◌
abbrev pub ◌≈◌ : Ratio → Ratio → Type 0
x ≈ y = x.num *ℤ pos y.den ≡ y.num *ℤ pos x.den

-- ---- a factor above 0 is taken out of both sides

abs_zero : (z : ℤ) → nat_abs z ≡ 0 → z ≡ pos 0
abs_zero (pos n) e = ap pos e
abs_zero (negsuc n) e = absurd (N.suc-ne-zero n e)

zero_of_lem : (z : ℤ) (d : ℕ) → 0 < d → z *ℤ pos d ≡ pos 0 → z ≡ pos 0
zero_of_lem z d h e = abs_zero z (N.eq_of_mul-eq-mul_right d h (nat_abs z) 0 (sym (abs_product z (pos d)) ∙ ap nat_abs e ∙ sym (N.zero-mul d)))

cancel : (a b : ℤ) (d : ℕ) → 0 < d → a *ℤ pos d ≡ b *ℤ pos d → a ≡ b
cancel a b d h e = ring_by ℤ-ring (a ∷ b ∷ []) x₀ x₁ (con (pos 1)) (x₀ ⊖ x₁) (con (pos 0))
    (zero_of_lem (a +ℤ neg_ℤ b) d h (ring_by ℤ-ring (a ∷ b ∷ pos d ∷ []) ((x₀ ⊖ x₁) ⊗ x₂) (con (pos 0)) (con (pos 1)) (x₀ ⊗ x₂) (x₁ ⊗ x₂) e refl)) refl

pub ≈-trans : (x y z : Ratio) → x ≈ y → y ≈ z → x ≈ z
≈-trans x y z p q = cancel (x.num *ℤ pos z.den) (z.num *ℤ pos x.den) y.den y.above
    (ring_from ℤ-ring (x.num ∷ pos x.den ∷ y.num ∷ pos y.den ∷ z.num ∷ pos z.den ∷ [])
    (x₀ ⊗ x₅ ⊗ x₃) (x₄ ⊗ x₁ ⊗ x₃) (fact x₅ (x₀ ⊗ x₃) (x₂ ⊗ x₁) p (fact x₁ (x₂ ⊗ x₅) (x₄ ⊗ x₃) q none)) refl)

-- ---- lowest terms are unique

-- the denominator of a lowest form divides that of any other form
divides : (a b c d : ℕ) → 0 < d → gcd a b ≡ 1 → a * d ≡ c * b → b ∣ d
divides a b c d h g e = subst (λ z. b ∣ z) (gcd-scale a b d h ∙ ap (λ z. z * d) g ∙ N.one-mul d)
    (gcd_greatest (a * d) (b * d) b (subst (λ z. b ∣ z) (sym e) (N.dvd-mul_left b c)) (N.dvd-mul_right b d))

pub lowest_unique : (x y : Rational) → x.ratio ≈ y.ratio → x ≡ y
lowest_unique x y e = λ i. record {
  ratio = record { num = nums i; den = dens i; above = is_prop→PathP (λ j. 0 < dens j) (λ j. le_prop) x.ratio.above y.ratio.above i };
  lowest = is_prop→PathP (λ j. gcd (nat_abs (nums j)) (dens j) ≡ 1) (λ j. N.ℕ_set _ _) x.lowest y.lowest i;
}
  where
    sizes : nat_abs (num x) * den y ≡ nat_abs (num y) * den x
    sizes = sym (abs_product (num x) (pos (den y))) ∙ ap nat_abs e ∙ abs_product (num y) (pos (den x))

    dens : den x ≡ den y
    dens = N.dvd_antisymm
        (divides (nat_abs (num x)) (den x) (nat_abs (num y)) (den y) y.ratio.above x.lowest sizes)
        (divides (nat_abs (num y)) (den y) (nat_abs (num x)) (den x) x.ratio.above y.lowest (sym sizes))

    nums : num x ≡ num y
    nums = cancel (num x) (num y) (den y) y.ratio.above (e ∙ ap (λ z. num y *ℤ pos z) dens)

-- ---- the lowest form has the ratio's value

pub part-mul : (z : ℤ) (g : ℕ) → g ∣ nat_abs z → part z g *ℤ pos g ≡ z
part-mul (pos a) g h = ap pos (N.div-mul_cancel g h)
part-mul (negsuc a) g h = neg_out (suc a / g) g ∙ ap (λ n. neg_ℤ (pos n)) (N.div-mul_cancel g h)
  where
    neg_out : (q g : ℕ) → neg_ℤ (pos q) *ℤ pos g ≡ neg_ℤ (pos (q * g))
    neg_out zero g = ap pos (N.zero-mul g) ∙ ap (λ n. neg_ℤ (pos n)) (sym (N.zero-mul g))
    neg_out (suc q) g = refl

pub reduce_is : (x : Ratio) → (reduce x).ratio ≈ x
unfolding reduce
reduce_is x = cancel (n' *ℤ pos d) (n *ℤ pos d') g (gcd_above')
    (ring_from ℤ-ring (n ∷ n' ∷ pos d ∷ pos d' ∷ pos g ∷ []) (x₁ ⊗ x₂ ⊗ x₄) (x₀ ⊗ x₃ ⊗ x₄)
    (fact x₂ (x₁ ⊗ x₄) x₀ (part-mul n g (gcd_left (nat_abs n) d)) (fact x₀ x₂ (x₃ ⊗ x₄) (ap pos (sym (N.div-mul_cancel g (gcd_right (nat_abs n) d)))) none)) refl)
  where
    n : ℤ
    n = x.num

    d : ℕ
    d = x.den

    g : ℕ
    g = gcd (nat_abs n) d

    n' : ℤ
    n' = part n g

    d' : ℕ
    d' = d / g

    gcd_above' : 0 < g
    gcd_above' = N.pos_of_dvd_of_pos (gcd_right (nat_abs n) d) x.above

pub reduce_eq : (x y : Ratio) → x ≈ y → reduce x ≡ reduce y
reduce_eq x y e = lowest_unique (reduce x) (reduce y)
    (≈-trans (reduce x).ratio x (reduce y).ratio (reduce_is x) (≈-trans x y (reduce y).ratio e (sym (reduce_is y))))

pub reduce-ratio : (x : Rational) → reduce x.ratio ≡ x
reduce-ratio x = lowest_unique (reduce x.ratio) x (reduce_is x.ratio)

-- two fractions with the same two numbers are equal: at numerals, `same_parts refl refl`
pub same_parts : {x y : Rational} → num x ≡ num y → den x ≡ den y → x ≡ y
same_parts {x} {y} p q = lowest_unique x y (ap₂ (λ n d. n *ℤ pos d) p (sym q))
