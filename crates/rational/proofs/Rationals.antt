-- The fractions are an ordered field.
use mathlib.Core.Path.{◌≡◌, refl, sym, ap, subst, ◌∙◌}
use mathlib.Core.Logic.{◌⊎◌, inl, inr}
use mathlib.Core.Bool.{Bool, true, false}
use Prim.Native.Nat.{ℕ, zero, suc, ◌+◌, ◌*◌, ◌^◌, ◌<◌}
use native.Mathlib.Nat as N
use native.Mathlib.Omega.{arith}
use lib.Dec.{T}
use lib.IntN.{ℤ, pos, negsuc, neg_ℤ, ◌+ℤ◌, ◌*ℤ◌}
use Rattle.rational.specs.Algebra.{RingLaws, OrderedField, ring_of, zero_of}
use Rattle.rational.specs.Rational.{Ratio, Rational, reduce, add_ratio, mul_ratio, neg_ratio, inv_of, inv_ratio, whole, decimal, add, sub, mul, neg as neg_f, lit, div, positive, below, exact}
use Rattle.rational.specs.Polynomial.{NormalFormDecides}
use Rattle.rational.proofs.Ring.{x₀, x₁, x₂, x₃, x₄, x₅, con, neg, ◌⊕◌, ◌⊗◌, [], ◌∷◌, ring, ring_by}
use Rattle.rational.proofs.Integers.{ℤ-ring}
use Rattle.rational.proofs.Ratios.{◌≈◌, ≈-trans, reduce_is, reduce_eq, reduce-ratio}

-- ---- an operation takes a ratio of the same value

pub add_like : (x y z : Ratio) → x ≈ y → add_ratio x z ≈ add_ratio y z
add_like x y z e = ring_by ℤ-ring (x.num ∷ pos x.den ∷ y.num ∷ pos y.den ∷ z.num ∷ pos z.den ∷ [])
    ((x₀ ⊗ x₅ ⊕ x₄ ⊗ x₁) ⊗ (x₃ ⊗ x₅)) ((x₂ ⊗ x₅ ⊕ x₄ ⊗ x₃) ⊗ (x₁ ⊗ x₅)) (x₅ ⊗ x₅) (x₀ ⊗ x₃) (x₂ ⊗ x₁) e refl

mul_like : (x y z : Ratio) → x ≈ y → mul_ratio x z ≈ mul_ratio y z
mul_like x y z e = ring_by ℤ-ring (x.num ∷ pos x.den ∷ y.num ∷ pos y.den ∷ z.num ∷ pos z.den ∷ [])
    ((x₀ ⊗ x₄) ⊗ (x₃ ⊗ x₅)) ((x₂ ⊗ x₄) ⊗ (x₁ ⊗ x₅)) (x₄ ⊗ x₅) (x₀ ⊗ x₃) (x₂ ⊗ x₁) e refl

pub neg_like : (x y : Ratio) → x ≈ y → neg_ratio x ≈ neg_ratio y
neg_like x y e = ring_by ℤ-ring (x.num ∷ pos x.den ∷ y.num ∷ pos y.den ∷ [])
    (neg x₀ ⊗ x₃) (neg x₂ ⊗ x₁) (con (negsuc 0)) (x₀ ⊗ x₃) (x₂ ⊗ x₁) e refl

pub add_swap : (x y : Ratio) → reduce (add_ratio x y) ≡ reduce (add_ratio y x)
add_swap x y = reduce_eq (add_ratio x y) (add_ratio y x) (ring ℤ-ring (x.num ∷ pos x.den ∷ y.num ∷ pos y.den ∷ [])
    ((x₀ ⊗ x₃ ⊕ x₂ ⊗ x₁) ⊗ (x₃ ⊗ x₁)) ((x₂ ⊗ x₁ ⊕ x₀ ⊗ x₃) ⊗ (x₁ ⊗ x₃)) refl)

mul_swap : (x y : Ratio) → reduce (mul_ratio x y) ≡ reduce (mul_ratio y x)
mul_swap x y = reduce_eq (mul_ratio x y) (mul_ratio y x) (ring ℤ-ring (x.num ∷ pos x.den ∷ y.num ∷ pos y.den ∷ [])
    ((x₀ ⊗ x₂) ⊗ (x₃ ⊗ x₁)) ((x₂ ⊗ x₀) ⊗ (x₁ ⊗ x₃)) refl)

pub add_l : (x y : Ratio) → reduce (add_ratio (reduce x).ratio y) ≡ reduce (add_ratio x y)
add_l x y = reduce_eq (add_ratio (reduce x).ratio y) (add_ratio x y) (add_like (reduce x).ratio x y (reduce_is x))

add_r : (x y : Ratio) → reduce (add_ratio x (reduce y).ratio) ≡ reduce (add_ratio x y)
add_r x y = add_swap x (reduce y).ratio ∙ add_l y x ∙ add_swap y x

mul_l : (x y : Ratio) → reduce (mul_ratio (reduce x).ratio y) ≡ reduce (mul_ratio x y)
mul_l x y = reduce_eq (mul_ratio (reduce x).ratio y) (mul_ratio x y) (mul_like (reduce x).ratio x y (reduce_is x))

pub mul_r : (x y : Ratio) → reduce (mul_ratio x (reduce y).ratio) ≡ reduce (mul_ratio x y)
mul_r x y = mul_swap x (reduce y).ratio ∙ mul_l y x ∙ mul_swap y x

-- ---- the ring

add_assoc : (x y z : Ratio) → add_ratio (add_ratio x y) z ≈ add_ratio x (add_ratio y z)
add_assoc x y z = ring ℤ-ring (x.num ∷ pos x.den ∷ y.num ∷ pos y.den ∷ z.num ∷ pos z.den ∷ [])
    (((x₀ ⊗ x₃ ⊕ x₂ ⊗ x₁) ⊗ x₅ ⊕ x₄ ⊗ (x₁ ⊗ x₃)) ⊗ (x₁ ⊗ (x₃ ⊗ x₅))) ((x₀ ⊗ (x₃ ⊗ x₅) ⊕ (x₂ ⊗ x₅ ⊕ x₄ ⊗ x₃) ⊗ x₁) ⊗ (x₁ ⊗ x₃ ⊗ x₅)) refl

mul_assoc : (x y z : Ratio) → mul_ratio (mul_ratio x y) z ≈ mul_ratio x (mul_ratio y z)
mul_assoc x y z = ring ℤ-ring (x.num ∷ pos x.den ∷ y.num ∷ pos y.den ∷ z.num ∷ pos z.den ∷ [])
    (((x₀ ⊗ x₂) ⊗ x₄) ⊗ (x₁ ⊗ (x₃ ⊗ x₅))) ((x₀ ⊗ (x₂ ⊗ x₄)) ⊗ (x₁ ⊗ x₃ ⊗ x₅)) refl

mul_add : (x y z : Ratio) → mul_ratio x (add_ratio y z) ≈ add_ratio (mul_ratio x y) (mul_ratio x z)
mul_add x y z = ring ℤ-ring (x.num ∷ pos x.den ∷ y.num ∷ pos y.den ∷ z.num ∷ pos z.den ∷ [])
    ((x₀ ⊗ (x₂ ⊗ x₅ ⊕ x₄ ⊗ x₃)) ⊗ ((x₁ ⊗ x₃) ⊗ (x₁ ⊗ x₅))) (((x₀ ⊗ x₂) ⊗ (x₁ ⊗ x₅) ⊕ (x₀ ⊗ x₄) ⊗ (x₁ ⊗ x₃)) ⊗ (x₁ ⊗ (x₃ ⊗ x₅))) refl

add_zero : (x : Ratio) → add_ratio x (whole (pos 0)) ≈ x
add_zero x = ring ℤ-ring (x.num ∷ pos x.den ∷ []) ((x₀ ⊗ con (pos 1) ⊕ con (pos 0) ⊗ x₁) ⊗ x₁) (x₀ ⊗ (x₁ ⊗ con (pos 1))) refl

add_neg : (x : Ratio) → add_ratio x (neg_ratio x) ≈ whole (pos 0)
add_neg x = ring ℤ-ring (x.num ∷ pos x.den ∷ []) ((x₀ ⊗ x₁ ⊕ neg x₀ ⊗ x₁) ⊗ con (pos 1)) (con (pos 0) ⊗ (x₁ ⊗ x₁)) refl

mul_one : (x : Ratio) → mul_ratio x (whole (pos 1)) ≈ x
mul_one x = ring ℤ-ring (x.num ∷ pos x.den ∷ []) (x₀ ⊗ con (pos 1) ⊗ x₁) (x₀ ⊗ (x₁ ⊗ con (pos 1))) refl

lit_add : (m n : ℤ) → whole (m +ℤ n) ≈ add_ratio (whole m) (whole n)
lit_add m n = ring ℤ-ring (m ∷ n ∷ []) ((x₀ ⊕ x₁) ⊗ con (pos 1)) ((x₀ ⊗ con (pos 1) ⊕ x₁ ⊗ con (pos 1)) ⊗ con (pos 1)) refl

pub rational_ring : RingLaws (ring_of exact)
unfolding add sub mul neg_f lit
rational_ring = record {
  add_comm = λ a b. add_swap a.ratio b.ratio;
  add_assoc = λ a b c. add_l (add_ratio a.ratio b.ratio) c.ratio
      ∙ reduce_eq (add_ratio (add_ratio a.ratio b.ratio) c.ratio) (add_ratio a.ratio (add_ratio b.ratio c.ratio)) (add_assoc a.ratio b.ratio c.ratio)
      ∙ sym (add_r a.ratio (add_ratio b.ratio c.ratio));
  add_zero = λ a. add_r a.ratio (whole (pos 0)) ∙ reduce_eq (add_ratio a.ratio (whole (pos 0))) a.ratio (add_zero a.ratio) ∙ reduce-ratio a;
  add_neg = λ a. add_r a.ratio (neg_ratio a.ratio) ∙ reduce_eq (add_ratio a.ratio (neg_ratio a.ratio)) (whole (pos 0)) (add_neg a.ratio);
  sub_is = λ a b. sym (add_r a.ratio (neg_ratio b.ratio));
  mul_comm = λ a b. mul_swap a.ratio b.ratio;
  mul_assoc = λ a b c. mul_l (mul_ratio a.ratio b.ratio) c.ratio
      ∙ reduce_eq (mul_ratio (mul_ratio a.ratio b.ratio) c.ratio) (mul_ratio a.ratio (mul_ratio b.ratio c.ratio)) (mul_assoc a.ratio b.ratio c.ratio)
      ∙ sym (mul_r a.ratio (mul_ratio b.ratio c.ratio));
  mul_one = λ a. mul_r a.ratio (whole (pos 1)) ∙ reduce_eq (mul_ratio a.ratio (whole (pos 1))) a.ratio (mul_one a.ratio) ∙ reduce-ratio a;
  mul_add = λ a b c. mul_r a.ratio (add_ratio b.ratio c.ratio)
      ∙ reduce_eq (mul_ratio a.ratio (add_ratio b.ratio c.ratio)) (add_ratio (mul_ratio a.ratio b.ratio) (mul_ratio a.ratio c.ratio)) (mul_add a.ratio b.ratio c.ratio)
      ∙ sym (add_l (mul_ratio a.ratio b.ratio) (reduce (mul_ratio a.ratio c.ratio)).ratio ∙ add_r (mul_ratio a.ratio b.ratio) (mul_ratio a.ratio c.ratio));
  lit_add = λ m n. reduce_eq (whole (m +ℤ n)) (add_ratio (whole m) (whole n)) (lit_add m n) ∙ sym (add_l (whole m) (reduce (whole n)).ratio ∙ add_r (whole m) (whole n));
  lit_mul = λ m n. reduce_eq (whole (m *ℤ n)) (mul_ratio (whole m) (whole n)) refl ∙ sym (mul_l (whole m) (reduce (whole n)).ratio ∙ mul_r (whole m) (whole n));
}

-- ---- the quotient

inv_is : (n : ℤ) (d : ℕ) (h : 0 < d) → ¬ (n ≡ pos 0) → (inv_of n d h).num *ℤ n ≡ pos ((inv_of n d h).den * d)
unfolding inv_of
inv_is (pos zero) d h k = absurd (k refl)
inv_is (pos (suc n)) d h k = ap pos (N.mul_comm d (suc n))
inv_is (negsuc n) zero h k = absurd (N.lt_irrefl 0 h)
inv_is (negsuc n) (suc d) h k = ap pos (N.mul_comm (suc d) (suc n))

div_mul : (a b : Rational) → ¬ (b ≡ zero_of exact) → mul (div a b) b ≡ a
unfolding mul lit div inv_ratio
div_mul a b k = mul_l (mul_ratio x (inv_ratio y)) y ∙ reduce_eq (mul_ratio (mul_ratio x (inv_ratio y)) y) x back ∙ reduce-ratio a
  where
    x : Ratio
    x = a.ratio

    y : Ratio
    y = b.ratio

    not_zero : ¬ (y.num ≡ pos 0)
    not_zero e = k (sym (reduce-ratio b) ∙ reduce_eq y (whole (pos 0)) (ring_by ℤ-ring (y.num ∷ pos y.den ∷ []) (x₀ ⊗ con (pos 1)) (con (pos 0) ⊗ x₁) (con (pos 1)) x₀ (con (pos 0)) e refl))

    back : mul_ratio (mul_ratio x (inv_ratio y)) y ≈ x
    back = ring_by ℤ-ring (x.num ∷ pos x.den ∷ y.num ∷ pos y.den ∷ (inv_ratio y).num ∷ pos (inv_ratio y).den ∷ [])
        (((x₀ ⊗ x₄) ⊗ x₂) ⊗ x₁) (x₀ ⊗ ((x₁ ⊗ x₅) ⊗ x₃)) (x₀ ⊗ x₁) (x₄ ⊗ x₂) (x₅ ⊗ x₃) (inv_is y.num y.den y.above not_zero) refl

-- ---- the order

positive_of : (n : ℕ) → 0 < n → T (positive (pos n))
positive_of zero h = absurd (N.lt_irrefl 0 h)
positive_of (suc n) h = tt

not_zero_positive : (n : ℕ) → n ≡ 0 → ¬ T (positive (pos n))
not_zero_positive zero e t = t
not_zero_positive (suc n) e t = N.suc-ne-zero n e

not_negative : (n : ℕ) → ¬ T (positive (neg_ℤ (pos n)))
not_negative zero t = t
not_negative (suc n) t = t

-- a factor above 0 keeps the sign
scale : (z : ℤ) (d : ℕ) → 0 < d → T (positive z) → T (positive (z *ℤ pos d))
scale (pos zero) d h t = absurd t
scale (pos (suc n)) d h t = positive_of (suc n * d) (N.mul-pos (N.zero-lt-suc n) h)
scale (negsuc n) d h t = absurd t

unscale : (z : ℤ) (d : ℕ) → T (positive (z *ℤ pos d)) → T (positive z)
unscale (pos zero) d t = absurd (not_zero_positive (0 * d) (N.zero-mul d) t)
unscale (pos (suc n)) d t = tt
unscale (negsuc n) d t = absurd (not_negative (suc n * d) t)

-- the sign is the value's
sign_like : (x y : Ratio) → x ≈ y → T (positive x.num) → T (positive y.num)
sign_like x y e t = unscale y.num x.den (subst (λ z. T (positive z)) e (scale x.num y.den y.above t))

pub same : (b c : Bool) → (T b → T c) → (T c → T b) → b ≡ c
same true true f g = refl
same true false f g = absurd (f tt)
same false true f g = absurd (g tt)
same false false f g = refl

sign_same : (x y : Ratio) → x ≈ y → positive x.num ≡ positive y.num
sign_same x y e = same (positive x.num) (positive y.num) (sign_like x y e) (sign_like y x (sym e))

-- 0 < a: the numerator is above 0
above_is : (a : Rational) → below (zero_of exact) a ≡ positive a.ratio.num
unfolding lit below
above_is a = sign_same (add_ratio x (neg_ratio z)) x (≈-trans (add_ratio x (neg_ratio z)) (add_ratio x (whole (pos 0))) x zeros (add_zero x))
  where
    x : Ratio
    x = a.ratio

    z : Ratio
    z = (reduce (whole (pos 0))).ratio

    zeros : add_ratio x (neg_ratio z) ≈ add_ratio x (whole (pos 0))
    zeros = ring_by ℤ-ring (x.num ∷ pos x.den ∷ z.num ∷ pos z.den ∷ [])
        ((x₀ ⊗ x₃ ⊕ neg x₂ ⊗ x₁) ⊗ (x₁ ⊗ con (pos 1))) ((x₀ ⊗ con (pos 1) ⊕ con (pos 0) ⊗ x₁) ⊗ (x₁ ⊗ x₃)) (neg (x₁ ⊗ x₁)) (x₂ ⊗ con (pos 1)) (con (pos 0) ⊗ x₃) (reduce_is (whole (pos 0))) refl

pub above_reduce : (x : Ratio) → below (zero_of exact) (reduce x) ≡ positive x.num
above_reduce x = above_is (reduce x) ∙ sign_same (reduce x).ratio x (reduce_is x)

positive-add : (m n : ℤ) → T (positive m) → T (positive n) → T (positive (m +ℤ n))
positive-add (pos zero) n t u = absurd t
positive-add (pos (suc m)) (pos n) t u = positive_of (suc m + n) (omega arith)
positive-add (pos (suc m)) (negsuc n) t u = absurd u
positive-add (negsuc m) n t u = absurd t

positive-mul : (m n : ℤ) → T (positive m) → T (positive n) → T (positive (m *ℤ n))
positive-mul m (pos zero) t u = absurd u
positive-mul m (pos (suc n)) t u = scale m (suc n) (N.zero-lt-suc n) t
positive-mul m (negsuc n) t u = absurd u

pub rational_field : OrderedField exact
unfolding add sub mul neg_f lit below
rational_field = record {
  laws = rational_ring;
  div_mul = div_mul;
  lit_dec = λ z k. mul_l (decimal z k) (reduce (whole (pos (10 ^ k)))).ratio ∙ mul_r (decimal z k) (whole (pos (10 ^ k)))
      ∙ reduce_eq (mul_ratio (decimal z k) (whole (pos (10 ^ k)))) (whole z) (ring ℤ-ring (z ∷ pos (10 ^ k) ∷ []) (x₀ ⊗ x₁ ⊗ con (pos 1)) (x₀ ⊗ (x₁ ⊗ con (pos 1))) refl);
  below_sub = λ a b. sym (above_reduce (add_ratio b.ratio (neg_ratio a.ratio)));
  irrefl = above_reduce (whole (pos 0));
  one_above = subst T (sym (above_reduce (whole (pos 1)))) tt;
  add_above = λ a b t u. subst T (sym (above_reduce (add_ratio a.ratio b.ratio)))
      (positive-add (a.ratio.num *ℤ pos b.ratio.den) (b.ratio.num *ℤ pos a.ratio.den)
      (scale a.ratio.num b.ratio.den b.ratio.above (subst T (above_is a) t)) (scale b.ratio.num a.ratio.den a.ratio.above (subst T (above_is b) u)));
  mul_above = λ a b t u. subst T (sym (above_reduce (mul_ratio a.ratio b.ratio))) (positive-mul a.ratio.num b.ratio.num (subst T (above_is a) t) (subst T (above_is b) u));
  signs = λ a. by_sign a a.ratio.num refl;
}
  where
    by_sign : (a : Rational) (n : ℤ) → a.ratio.num ≡ n → T (below (zero_of exact) a) ⊎ ((a ≡ zero_of exact) ⊎ T (below (zero_of exact) (neg_f a)))
    by_sign a (pos zero) e = inr (inl (sym (reduce-ratio a) ∙ reduce_eq a.ratio (whole (pos 0))
        (ring_by ℤ-ring (a.ratio.num ∷ pos a.ratio.den ∷ []) (x₀ ⊗ con (pos 1)) (con (pos 0) ⊗ x₁) (con (pos 1)) x₀ (con (pos 0)) e refl)))
    by_sign a (pos (suc n)) e = inl (subst T (sym (above_is a ∙ ap positive e)) tt)
    by_sign a (negsuc n) e = inr (inr (subst T (sym (above_reduce (neg_ratio a.ratio) ∙ ap (λ z. positive (neg_ℤ z)) e)) tt))

pub normal_form_decides : NormalFormDecides
normal_form_decides = ring rational_ring
