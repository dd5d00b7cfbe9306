-- The nearest whole number is the nearest. For x = z / d the distance of n is |z − n d| in parts of d, so all is shown of whole numbers first.
use mathlib.Core.Path.{◌≡◌, refl, sym, ap, ap₂, subst, ◌∙◌}
use mathlib.Core.Logic.{◌⊎◌, inl, inr}
use mathlib.Core.Bool.{Bool, true, false, not, cond}
use Prim.Native.Nat.{ℕ, ◌+◌, ◌*◌, ◌/◌, ◌≤◌, ◌<◌}
use native.Mathlib.Nat as N
use native.Mathlib.Omega.{arith}
use lib.Dec.{T, ltb, lt→ltb, ltb→lt, nltb→le}
use lib.Arith.{le→nltb}
use lib.IntN.{ℤ, pos, negsuc, neg_ℤ, nat_abs, ◌+ℤ◌, ◌-ℤ◌, ◌*ℤ◌}
use lib.Signed.{lt_z, ◌<ℤ◌, ◌≤ℤ◌}
use borrow.Author.Differences.{ints, up, down, product_is, neg_is, lt_out, false_is_lt}
use Rattle.rational.specs.Rational.{Ratio, Rational, num, den, ratio_of, signed, reduce, add_ratio, neg_ratio, whole, decimal, sub, neg, lit, below}
use Rattle.rational.specs.Nearest.{nearest, size, distance, IsNearest, NearestIsNearest}
use Rattle.rational.proofs.Ring.{x₀, x₁, x₂, con, neg as minus, ◌⊕◌, ◌⊖◌, ◌⊗◌, [], ◌∷◌, ring}
use Rattle.rational.proofs.Integers.{ℤ-ring, abs_product}
use Rattle.rational.proofs.Ratios.{reduce_is, reduce_eq, reduce-ratio}
use Rattle.rational.proofs.Rationals.{neg_like}
use Rattle.rational.proofs.Compared.{below-reduce, negative_reduce, sub-reduce, reduce_same}

-- ---- whole numbers: z, a denominator d, and its multiples p and q

-- what is said of n, for p = n d: at most a half away, and farther from 0 where it is a half
abbrev Near : ℤ → ℕ → ℤ → Type 0
Near z d p = (2 * nat_abs (z -ℤ p) ≤ d) × (2 * nat_abs (z -ℤ p) ≡ d → nat_abs z < nat_abs p)

-- of two multiples that lie d or more apart not both are so
clash : (z p q : ℤ) (d : ℕ) → 0 < d → (p +ℤ pos d) ≤ℤ q → (pos 0 ≤ℤ p) ⊎ ((p +ℤ pos d) ≤ℤ pos 0) → Near z d p → Near z d q → ⊥
clash z p q d h apart side (np, hp) (nq, hq) =
    let e : 2 * nat_abs (z -ℤ p) ≡ d = omega (arith, ints) in
    let f : 2 * nat_abs (z -ℤ q) ≡ d = omega (arith, ints) in
    go side (hp e) (hq f) e f
  where
    go : (pos 0 ≤ℤ p) ⊎ ((p +ℤ pos d) ≤ℤ pos 0) → nat_abs z < nat_abs p → nat_abs z < nat_abs q → 2 * nat_abs (z -ℤ p) ≡ d → 2 * nat_abs (z -ℤ q) ≡ d → ⊥
    go (inl s) u v e f = omega (arith, ints)
    go (inr s) u v e f = omega (arith, ints)

-- a multiple that lies d or more from a near one is not nearer
farther : (z p q : ℤ) (d : ℕ) → ((p +ℤ pos d) ≤ℤ q) ⊎ ((q +ℤ pos d) ≤ℤ p) → 2 * nat_abs (z -ℤ p) ≤ d → nat_abs (z -ℤ p) ≤ nat_abs (z -ℤ q)
farther z p q d (inl s) h = omega (arith, ints)
farther z p q d (inr s) h = omega (arith, ints)

product_parts : (n : ℤ) (d : ℕ) → (up (n *ℤ pos d) ≡ up n * d) × (down (n *ℤ pos d) ≡ down n * d)
product_parts n d = omega (arith, product_is n (pos d))

-- multiples of different numbers lie d or more apart
product-step : (n m : ℤ) (d : ℕ) → n <ℤ m → (n *ℤ pos d +ℤ pos d) ≤ℤ (m *ℤ pos d)
product-step n m d h = omega (arith, ints, product_parts n d, product_parts m d, step (up n + down m) (up m + down n) (lt_out n m h))
  where
    step : (a b : ℕ) → a < b → a * d + d ≤ b * d
    step a b h = omega (arith, N.mul-le-mul_right d h)

product_side : (n : ℤ) (d : ℕ) → (pos 0 ≤ℤ (n *ℤ pos d)) ⊎ ((n *ℤ pos d +ℤ pos d) ≤ℤ pos 0)
product_side (pos n) d = inl (omega (arith, ints))
product_side (negsuc n) d = inr (omega (arith, ints, product_parts (negsuc n) d))

-- of two whole numbers one is below the other, or they are equal
order : (n m : ℤ) → (n <ℤ m) ⊎ ((n ≡ m) ⊎ (m <ℤ n))
order n m = go (lt_z n m) (lt_z m n) refl refl
  where
    go : (b c : Bool) → lt_z n m ≡ b → lt_z m n ≡ c → (n <ℤ m) ⊎ ((n ≡ m) ⊎ (m <ℤ n))
    go true c e f = inl (omega (arith, ints))
    go false true e f = inr (inr (omega (arith, ints)))
    go false false e f = inr (inl (omega (arith, ints)))

-- the number that is taken is near
near_is : (z : ℤ) (d : ℕ) → 0 < d → Near z d (signed z ((2 * nat_abs z + d) / (2 * d)) *ℤ pos d)
near_is z d h = go z ((2 * nat_abs z + d) / (2 * d)) (N.div-mul-le_self (2 * nat_abs z + d) (2 * d)) (N.lt-div-mul-add (omega arith))
  where
    negative : (q : ℕ) → (up (neg_ℤ (pos q) *ℤ pos d) ≡ 0) × (down (neg_ℤ (pos q) *ℤ pos d) ≡ q * d)
    negative q = (
      (product_parts (neg_ℤ (pos q)) d).0 ∙ ap (λ k. k * d) (neg_is (pos q)).0 ∙ N.zero-mul d,
      (product_parts (neg_ℤ (pos q)) d).1 ∙ ap (λ k. k * d) (neg_is (pos q)).1,
    )

    go : (z : ℤ) (q : ℕ) → q * (2 * d) ≤ 2 * nat_abs z + d → 2 * nat_abs z + d < q * (2 * d) + 2 * d → Near z d (signed z q *ℤ pos d)
    go (pos a) q s t = omega (arith, ints)
    go (negsuc a) q s t = omega (arith, ints, negative q)

-- ---- the distance of fractions

neg-reduce : (x : Ratio) → neg (reduce x) ≡ reduce (neg_ratio x)
unfolding neg
neg-reduce x = reduce_eq (neg_ratio (reduce x).ratio) (neg_ratio x) (neg_like (reduce x).ratio x (reduce_is x))

size-reduce : (n : ℤ) (d : ℕ) (h : 0 < d) → size (reduce (ratio_of n d h)) ≡ reduce (ratio_of (pos (nat_abs n)) d h)
size-reduce (pos n) d h = ap (λ b. cond b (neg x) x) (negative_reduce (ratio_of (pos n) d h) ∙ sym (false_is_lt (pos n) (pos 0) (omega arith)))
  where
    x : Rational
    x = reduce (ratio_of (pos n) d h)
size-reduce (negsuc n) d h = ap (λ b. cond b (neg x) x) (negative_reduce (ratio_of (negsuc n) d h)) ∙ neg-reduce (ratio_of (negsuc n) d h)
  where
    x : Rational
    x = reduce (ratio_of (negsuc n) d h)

module _ (x : Rational) where
  -- the distance in parts of the denominator
  abbrev gap : ℤ → ℕ
  gap n = nat_abs (num x -ℤ n *ℤ pos (den x))

  -- k / den x
  abbrev parts : ℕ → Ratio
  parts k = ratio_of (pos k) (den x) x.ratio.above

  distance_is : (n : ℤ) → distance x n ≡ reduce (parts (gap n))
  unfolding lit
  distance_is n = ap size difference ∙ size-reduce (num x -ℤ n *ℤ pos (den x)) (den x) x.ratio.above
    where
      difference : sub x (reduce (whole n)) ≡ reduce (ratio_of (num x -ℤ n *ℤ pos (den x)) (den x) x.ratio.above)
      difference = ap (λ y. sub y (reduce (whole n))) (sym (reduce-ratio x)) ∙ sub-reduce x.ratio (whole n)
          ∙ reduce_eq (add_ratio x.ratio (neg_ratio (whole n))) (ratio_of (num x -ℤ n *ℤ pos (den x)) (den x) x.ratio.above)
          (ring ℤ-ring (num x ∷ pos (den x) ∷ n ∷ []) ((x₀ ⊗ con (pos 1) ⊕ minus x₂ ⊗ x₁) ⊗ x₁) ((x₀ ⊖ x₂ ⊗ x₁) ⊗ (x₁ ⊗ con (pos 1))) refl)

  more_than_half : (n : ℤ) → below (lit (pos 5) 1) (distance x n) ≡ ltb (5 * den x) (gap n * 10)
  unfolding lit
  more_than_half n = ap (below (reduce (decimal (pos 5) 1))) (distance_is n) ∙ below-reduce (decimal (pos 5) 1) (parts (gap n))

  half_is : (n : ℤ) → distance x n ≡ lit (pos 5) 1 → 2 * gap n ≡ den x
  unfolding lit
  half_is n e =
      let f : pos (gap n) *ℤ pos 10 ≡ pos 5 *ℤ pos (den x) = reduce_same (parts (gap n)) (decimal (pos 5) 1) (sym (distance_is n) ∙ e) in
      omega (arith, ints)

  is_half : (n : ℤ) → 2 * gap n ≡ den x → distance x n ≡ lit (pos 5) 1
  unfolding lit
  is_half n e = distance_is n ∙ reduce_eq (parts (gap n)) (decimal (pos 5) 1) (omega (arith, ints))

  farther_out : (n : ℤ) → below (size x) (size (lit n 0)) ≡ ltb (nat_abs (num x) * 1) (nat_abs n * den x)
  unfolding lit
  farther_out n = ap₂ below (ap size (sym (reduce-ratio x)) ∙ size-reduce (num x) (den x) x.ratio.above) (size-reduce n 1 _)
      ∙ below-reduce (parts (nat_abs (num x))) (ratio_of (pos (nat_abs n)) 1 _)

  holds : (n : ℤ) → Near (num x) (den x) (n *ℤ pos (den x)) → IsNearest x n
  holds n (p, q) = record {
    near = subst (λ b. T (not b)) (sym (more_than_half n)) (le→nltb _ _ (omega arith));
    half = λ e. subst T (sym (farther_out n)) (lt→ltb _ _ (omega (arith, q (half_is n e), abs_product n (pos (den x)))));
  }

  says : (n : ℤ) → IsNearest x n → Near (num x) (den x) (n *ℤ pos (den x))
  says n h = (
    omega (arith, nltb→le _ _ (subst (λ b. T (not b)) (more_than_half n) h.near)),
    λ e. omega (arith, abs_product n (pos (den x)), ltb→lt _ _ (subst T (farther_out n) (h.half (is_half n e)))),
  )

  not_nearer : (n m : ℤ) → gap n ≤ gap m → T (not (below (distance x m) (distance x n)))
  not_nearer n m h = subst (λ b. T (not b)) (sym (ap₂ below (distance_is m) (distance_is n) ∙ below-reduce (parts (gap m)) (parts (gap n))))
      (le→nltb _ _ (N.mul-le-mul_right (den x) h))

pub nearest_is_nearest : NearestIsNearest
unfolding nearest
nearest_is_nearest x = (holds x n near, λ m h. unique m (says x m h) (order m n), λ m. not_nearer x n m (least m (order m n)))
  where
    n : ℤ
    n = nearest x

    d : ℕ
    d = den x

    near : Near (num x) d (n *ℤ pos d)
    near = near_is (num x) d x.ratio.above

    unique : (m : ℤ) → Near (num x) d (m *ℤ pos d) → (m <ℤ n) ⊎ ((m ≡ n) ⊎ (n <ℤ m)) → m ≡ n
    unique m h (inl s) = absurd (clash (num x) (m *ℤ pos d) (n *ℤ pos d) d x.ratio.above (product-step m n d s) (product_side m d) h near)
    unique m h (inr (inl e)) = e
    unique m h (inr (inr s)) = absurd (clash (num x) (n *ℤ pos d) (m *ℤ pos d) d x.ratio.above (product-step n m d s) (product_side n d) near h)

    least : (m : ℤ) → (m <ℤ n) ⊎ ((m ≡ n) ⊎ (n <ℤ m)) → gap x n ≤ gap x m
    least m (inl s) = farther (num x) (n *ℤ pos d) (m *ℤ pos d) d (inr (product-step m n d s)) near.0
    least m (inr (inl e)) = N.le_of_eq (ap (gap x) (sym e))
    least m (inr (inr s)) = farther (num x) (n *ℤ pos d) (m *ℤ pos d) d (inl (product-step n m d s)) near.0
