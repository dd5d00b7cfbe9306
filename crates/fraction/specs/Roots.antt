-- The whole part of a root, and the roots of fractions: the root of a power is its base.
use Rattle.std.specs.Prelude.{◌≡◌, ℕ, zero, suc, ◌+◌, ◌*◌, ◌/◌, ◌^◌, ◌<◌, ◌≤◌, Bool, true, false, cond, ◌&&◌, T, ◌⊎◌, ℤ, pos, negsuc, ◌*ℤ◌, neg_ℤ, ◌==◌, nat_le, unsigned_abs, refl}
use Rattle.std.specs.Bool.{then_some}
use Rattle.std.specs.Int.{◌∣◌}
use Rattle.std.proofs.Common.{inl, inr, sym, ap, ap₂, subst, ◌∙◌, arith, pow_pos, pow_mono}
use Rattle.std.proofs.Math.Nat as N
use Rattle.std.specs.Float.Ieee.{size}
use Rattle.std.specs.Float.Ieee.Digits.{size-lt}
use Rattle.std.specs.Int.Signed.{non_neg}
use Rattle.std.proofs.lemmas.Nat.{mul-pow}
use Rattle.std.proofs.lemmas.Bool.{leb-true, leb-false, eqb-true, eq-eqb, and_parts, and_from, cond-true, cases_order}
use Rattle.rational.specs.Gcd.{gcd}
use Rattle.rational.specs.Rational.{Rational, num, den, ratio_of, signed, over, exact}
use Rattle.rational.specs.Parts.{Is}
use Rattle.rational.specs.Toe.{IsRoot}
use Rattle.rational.proofs.Parts.{parts_laws}
use Rattle.rational.proofs.Integers.{abs_product}
use Rattle.rational.proofs.Ratios.{reduce_eq, reduce-ratio}
use Rattle.roots.specs.Digits.{root_below}
use Rattle.number.specs.Meaning.{Meaning, lost, fraction}
use Rattle.number.specs.Exactness.{IsCubeRoot}
use Rattle.fraction.specs.Bound.{R}
use Rattle.fraction.specs.Bounded.{ratio, whole_root, is_power, root, square_root}
use Rattle.fraction.specs.Degrees.{IsWholeRoot, exact_root}
use Rattle.fraction.specs.Packs.{Within, Fit, fit_lost, fit_fraction}
use Rattle.fraction.specs.Bounds.{abs_signed}

-- ---- powers

pub square : (s : ℕ) → s ^ 2 ≡ s * s
square s = N.pow-suc s 1 ∙ ap (λ (x : ℕ). x * s) (N.pow-suc s 0 ∙ ap (λ (x : ℕ). x * s) (N.pow-zero s) ∙ N.one-mul s)

pub cube : (s : ℕ) → s ^ 3 ≡ s * s * s
cube s = N.pow-suc s 2 ∙ ap (λ (x : ℕ). x * s) (square s)

zero_power : (d : ℕ) → 0 < d → 0 ^ d ≡ 0
zero_power zero h = absurd (omega arith)
zero_power (suc d) h = N.pow-suc 0 d ∙ N.mul-zero (0 ^ d)

-- ---- the whole part of a root

twice : (r d : ℕ) → (2 * r) ^ d ≡ r ^ d * 2 ^ d
twice r d = mul-pow 2 r d ∙ N.mul_comm (2 ^ d) (r ^ d)

digit : (d r n : ℕ) (b : Bool) → IsWholeRoot d r (n / 2 ^ d) → nat_le ((2 * r + 1) ^ d) n ≡ b → IsWholeRoot d (cond b (2 * r + 1) (2 * r)) n
digit d r n true h e =
    let two : 2 * r + 1 + 1 ≡ 2 * (r + 1) = omega arith in
    (leb-true _ _ e, subst (λ (x : ℕ). n < x) (sym (ap (λ (x : ℕ). x ^ d) two ∙ twice (r + 1) d)) ((N.div-lt_iff_lt-mul (pow_pos d)).0 h.1))
digit d r n false h e = (N.le_trans (N.le_of_eq (twice r d)) ((N.le-div_iff_mul-le (pow_pos d)).0 h.0), leb-false _ _ e)

shorter : (d k n : ℕ) → 0 < d → n < 2 ^ suc k → n / 2 ^ d < 2 ^ k
shorter d k n D h =
    let two : 2 ^ 1 ≤ 2 ^ d = pow_mono {i = 1} {j = d} D in
    (N.div-lt_iff_lt-mul (pow_pos d)).1 (N.lt_of_lt_of_le h (N.le_trans (N.le_of_eq (N.pow-suc 2 k)) (N.mul-le-mul_left (2 ^ k) two)))

whole_part : (d k n : ℕ) → 0 < d → n < 2 ^ k → IsWholeRoot d (root_below d k n) n
unfolding root_below
whole_part d zero n D h =
    let z : n ≡ 0 = omega arith in
    (N.le_of_eq (zero_power d D ∙ sym z), subst (λ (x : ℕ). x < 1 ^ d) (sym z) (N.one-le-pow d 1 (omega arith)))
whole_part d (suc k) n D h = digit d (root_below d k (n / 2 ^ d)) n _ (whole_part d k (n / 2 ^ d) D (shorter d k n D h)) refl

-- a number has one whole part of its root
whole-one : (d s w n : ℕ) → 0 < d → IsWholeRoot d s n → IsWholeRoot d w n → s ≡ w
whole-one d s w n D p q = go (cases_order s w)
  where
    less : (a b : ℕ) → a < b → IsWholeRoot d a n → IsWholeRoot d b n → ⊥
    less a b h (_, k) (l, _) = let i : a + 1 ≤ b = omega arith in omega (arith, N.pow-le-pow_left i d)

    go : (s ≡ w) ⊎ ((s < w) ⊎ (w < s)) → s ≡ w
    go (inl e) = e
    go (inr (inl h)) = absurd (less s w h p q)
    go (inr (inr h)) = absurd (less w s h q p)

root-whole : (d s n : ℕ) → 0 < d → IsWholeRoot d s n → whole_root d n ≡ s
root-whole d s n D h = whole-one d (whole_root d n) s n D (whole_part d (size n) n D (size-lt n)) h

-- the base of a power is its whole root
base_whole : (d w n : ℕ) → 0 < d → w ^ d ≡ n → IsWholeRoot d w n
base_whole d w n D e = (N.le_of_eq e, subst (λ (x : ℕ). x < (w + 1) ^ d) e (N.pow-lt-pow_left {n = d} (omega arith) (λ (z : d ≡ 0). omega arith)))

power_root : (d w n : ℕ) → 0 < d → w ^ d ≡ n → (whole_root d n ≡ w) × (is_power d n ≡ true)
unfolding is_power
power_root d w n D e = (is, eq-eqb _ _ (ap (λ (x : ℕ). x ^ d) is ∙ e))
  where
    is : whole_root d n ≡ w
    is = root-whole d w n D (base_whole d w n D e)

power_is : (d n : ℕ) → is_power d n ≡ true → whole_root d n ^ d ≡ n
unfolding is_power
power_is d n e = eqb-true _ _ e

-- what is left of the whole part by a test
pub exact_root-test : (d s n : ℕ) → 0 < d → IsWholeRoot d s n → exact_root d n ≡ then_some (s ^ d == n) s
unfolding is_power
exact_root-test d s n D h = let e = root-whole d s n D h in λ i. then_some (e i ^ d == n) (e i)

pub exact-square : (s n : ℕ) → (s * s ≤ n) × (n < (s + 1) * (s + 1)) → exact_root 2 n ≡ then_some (s * s == n) s
exact-square s n (p, q) = exact_root-test 2 s n (N.zero-lt-suc 1) (subst (λ (x : ℕ). x ≤ n) (sym (square s)) p, subst (λ (x : ℕ). n < x) (sym (square (s + 1))) q)
    ∙ ap (λ (x : ℕ). then_some (x == n) s) (square s)

pub exact-cube : (s n : ℕ) → (s * s * s ≤ n) × (n < (s + 1) * (s + 1) * (s + 1)) → exact_root 3 n ≡ then_some (s * s * s == n) s
exact-cube s n (p, q) = exact_root-test 3 s n (N.zero-lt-suc 2) (subst (λ (x : ℕ). x ≤ n) (sym (cube s)) p, subst (λ (x : ℕ). n < x) (sym (cube (s + 1))) q)
    ∙ ap (λ (x : ℕ). then_some (x == n) s) (cube s)

pub square_below_cube : (s : ℕ) → s * s ≤ s * s * s
square_below_cube zero = omega arith
square_below_cube (suc s) = N.le_trans (N.le_of_eq (sym (N.mul-one (suc s * suc s)))) (N.mul-le-mul_left (suc s * suc s) (N.zero-lt-suc s))

-- a base divides its power, and is not above it
base_divides : (d w : ℕ) → 0 < d → w ∣ w ^ d
base_divides zero w D = absurd (omega arith)
base_divides (suc d) w D = subst (λ (x : ℕ). w ∣ x) (sym (N.pow-suc w d)) (N.dvd-mul_left w (w ^ d))

base_above : (d w n : ℕ) → 0 < d → 0 < n → w ^ d ≡ n → 0 < w
base_above d zero n D h e = absurd (omega (arith, zero_power d D))
base_above d (suc w) n D h e = N.zero-lt-suc w

base_below : (d w n : ℕ) → 0 < d → w ^ d ≡ n → w ≤ n
base_below d zero n D e = omega arith
base_below zero (suc w) n D e = absurd (omega arith)
base_below (suc d) (suc w) n D e = N.le_trans (N.le_of_eq (sym (N.one-mul (suc w)))) (N.le_trans (N.mul-le-mul_right (suc w) (N.one-le-pow d (suc w) (N.zero-lt-suc w))) (N.le_of_eq (sym (N.pow-suc (suc w) d) ∙ e)))

-- ---- the fraction with two given numbers

pub ratio_at : (n : ℤ) (d : ℕ) (h : 0 < d) → ratio n d ≡ fraction (over n d h)
unfolding over
ratio_at n zero h = absurd (omega arith)
ratio_at n (suc d) h = ap fraction (reduce_eq (ratio_of n (suc d) (N.zero-lt-suc d)) (ratio_of n (suc d) h) refl)

over_is : (x : Rational) → over (num x) (den x) x.ratio.above ≡ x
unfolding over
over_is x = reduce-ratio x

ratio-means : (x : Rational) (n : ℤ) (d : ℕ) → Is x n d → ratio n d ≡ fraction x
ratio-means x n d is = ap₂ ratio (sym is.0) (sym is.1) ∙ ratio_at (num x) (den x) x.ratio.above ∙ ap fraction (over_is x)

-- ---- roots of fractions

-- the root, where there is one
pub record RootOf (k : ℕ) (x r : Rational) : Type 0 where
  pub is : Is r (signed (num x) (whole_root k (unsigned_abs (num x)))) (whole_root k (den x))
  pub upper : whole_root k (unsigned_abs (num x)) ^ k ≡ unsigned_abs (num x)
  pub lower : whole_root k (den x) ^ k ≡ den x
  pub within : Within x → Within r

pub root_of : (k : ℕ) (x : Rational) → 0 < k → (is_power k (unsigned_abs (num x)) && is_power k (den x)) ≡ true → (r : Rational) × RootOf k x r
root_of k x K e = (r, record { is = (refl, refl); upper = p_is; lower = q_is; within = inside })
  where
    p : ℕ
    p = whole_root k (unsigned_abs (num x))

    q : ℕ
    q = whole_root k (den x)

    p_is : p ^ k ≡ unsigned_abs (num x)
    p_is = power_is k (unsigned_abs (num x)) (and_parts (is_power k (unsigned_abs (num x))) (is_power k (den x)) e).0

    q_is : q ^ k ≡ den x
    q_is = power_is k (den x) (and_parts (is_power k (unsigned_abs (num x))) (is_power k (den x)) e).1

    r : Rational
    r = record {
      ratio = ratio_of (signed (num x) p) q (base_above k q (den x) K x.ratio.above q_is);
      lowest = ap (λ z. gcd z q) (abs_signed (num x) p) ∙ parts_laws.divisors x p q (subst (λ z. p ∣ z) p_is (base_divides k p K)) (subst (λ z. q ∣ z) q_is (base_divides k q K));
    }

    inside : Within x → Within r
    inside w = record {
      upper = subst (λ z. z ≤ R) (sym (abs_signed (num x) p)) (N.le_trans (base_below k p (unsigned_abs (num x)) K p_is) w.upper);
      lower = N.le_trans (base_below k q (den x) K q_is) w.lower;
    }

pub root_is : (k : ℕ) (x : Rational) (K : 0 < k) (e : (is_power k (unsigned_abs (num x)) && is_power k (den x)) ≡ true) → root k x ≡ fraction (root_of k x K e).0
root_is k x K e = cond-true _ _ _ e ∙ ratio-means (root_of k x K e).0 _ _ (root_of k x K e).1.is

-- a root is lost or the one with the roots of the two numbers
pub root-cases : (k : ℕ) (x : Rational) → 0 < k → (root k x ≡ lost) ⊎ ((r : Rational) × (root k x ≡ fraction r) × RootOf k x r)
root-cases k x K = go (is_power k (unsigned_abs (num x)) && is_power k (den x)) refl
  where
    m : Meaning
    m = ratio (signed (num x) (whole_root k (unsigned_abs (num x)))) (whole_root k (den x))

    go : (b : Bool) → (is_power k (unsigned_abs (num x)) && is_power k (den x)) ≡ b → (cond b m lost ≡ lost) ⊎ ((r : Rational) × (cond b m lost ≡ fraction r) × RootOf k x r)
    go true e = let y = root_of k x K e in inr (y.0, ratio-means y.0 _ _ y.1.is, y.1)
    go false e = inl refl

pub root-fit : (k : ℕ) (x : Rational) → 0 < k → Within x → Fit (root k x)
root-fit k x K w = go (root-cases k x K)
  where
    go : (root k x ≡ lost) ⊎ ((r : Rational) × (root k x ≡ fraction r) × RootOf k x r) → Fit (root k x)
    go (inl e) = subst Fit (sym e) fit_lost
    go (inr (r, e, o)) = subst Fit (sym e) (fit_fraction r (o.within w))

-- what is raised to x is its root
root_kept : (k : ℕ) (x r : Rational) → 0 < k → unsigned_abs (num r) ^ k ≡ unsigned_abs (num x) → den r ^ k ≡ den x → signed (num x) (unsigned_abs (num r)) ≡ num r → root k x ≡ fraction r
root_kept k x r K u l s =
    let p = power_root k (unsigned_abs (num r)) (unsigned_abs (num x)) K u in
    let q = power_root k (den r) (den x) K l in
    cond-true _ _ _ (and_from _ _ p.1 q.1) ∙ ratio-means r _ _ (sym (ap (signed (num x)) p.0 ∙ s), sym q.0)

-- ---- of degree 2

signed_abs : (z : ℤ) → signed z (unsigned_abs z) ≡ z
signed_abs (pos a) = refl
signed_abs (negsuc a) = refl

not_negative : (z : ℤ) (n : ℕ) → non_neg z ≡ true → signed z n ≡ pos n
not_negative (pos a) n e = refl
not_negative (negsuc a) n e = cc

-- a value that is not negative, by its size
sized : (z : ℤ) → non_neg z ≡ true → z ≡ pos (unsigned_abs z)
sized (pos a) e = refl
sized (negsuc a) e = cc

square_root_is : (x r : Rational) → non_neg (num x) ≡ true → RootOf 2 x r → IsRoot exact x r
square_root_is x r s o = (parts_laws.square_root x r).1 (
  subst (λ z. T (non_neg z)) (sym up) tt,
  (sized (num x) s ∙ ap pos (sym o.upper ∙ square _) ∙ sym (ap₂ ◌*ℤ◌ up up), sym o.lower ∙ square _ ∙ ap₂ ◌*◌ (sym o.is.1) (sym o.is.1)),
)
  where
    up : num r ≡ pos (whole_root 2 (unsigned_abs (num x)))
    up = o.is.0 ∙ not_negative (num x) (whole_root 2 (unsigned_abs (num x))) s

pub square_root_value : (x : Rational) → (square_root x ≡ lost) ⊎ ((r : Rational) × (square_root x ≡ fraction r) × IsRoot exact x r)
square_root_value x = sign (non_neg (num x)) refl
  where
    found : non_neg (num x) ≡ true → (root 2 x ≡ lost) ⊎ ((r : Rational) × (root 2 x ≡ fraction r) × RootOf 2 x r) → (root 2 x ≡ lost) ⊎ ((r : Rational) × (root 2 x ≡ fraction r) × IsRoot exact x r)
    found s (inl e) = inl e
    found s (inr (r, e, o)) = inr (r, e, square_root_is x r s o)

    sign : (b : Bool) → non_neg (num x) ≡ b → (cond b (root 2 x) lost ≡ lost) ⊎ ((r : Rational) × (cond b (root 2 x) lost ≡ fraction r) × IsRoot exact x r)
    sign true s = found s (root-cases 2 x (N.zero-lt-suc 1))
    sign false s = inl refl

pub square_root-fit : (x : Rational) → Within x → Fit (square_root x)
square_root-fit x w = sign (non_neg (num x))
  where
    sign : (b : Bool) → Fit (cond b (root 2 x) lost)
    sign true = root-fit 2 x (N.zero-lt-suc 1) w
    sign false = fit_lost

square_nonneg : (z : ℤ) → non_neg (z *ℤ z) ≡ true
square_nonneg (pos a) = refl
square_nonneg (negsuc a) = refl

truth : (b : Bool) → T b → b ≡ true
truth true t = refl
truth false t = absurd t

pub square_root-kept : (x r : Rational) → IsRoot exact x r → square_root x ≡ fraction r
square_root-kept x r h =
    let p = (parts_laws.square_root x r).0 h in
    let n : non_neg (num x) ≡ true = ap non_neg p.1.0 ∙ square_nonneg (num r) in
    cond-true _ _ _ n ∙ root_kept 2 x r (N.zero-lt-suc 1)
    (square (unsigned_abs (num r)) ∙ sym (ap unsigned_abs p.1.0 ∙ abs_product (num r) (num r)))
    (square (den r) ∙ sym p.1.1)
    (not_negative (num x) (unsigned_abs (num r)) n ∙ sym (sized (num r) (truth (non_neg (num r)) p.0)))

-- ---- of degree 3

cube-signed : (z : ℤ) (p : ℕ) → signed z p *ℤ signed z p *ℤ signed z p ≡ signed z (p * p * p)
cube-signed (pos a) p = refl
cube-signed (negsuc a) zero = refl
cube-signed (negsuc a) (suc p) = refl

pub cube_root_value : (x : Rational) → (root 3 x ≡ lost) ⊎ ((r : Rational) × (root 3 x ≡ fraction r) × IsCubeRoot x r)
cube_root_value x = found (root-cases 3 x (N.zero-lt-suc 2))
  where
    cubed : (r : Rational) → RootOf 3 x r → IsCubeRoot x r
    cubed r o = (parts_laws.cube_root x r).1 (
      sym ((λ i. o.is.0 i *ℤ o.is.0 i *ℤ o.is.0 i) ∙ cube-signed (num x) (whole_root 3 (unsigned_abs (num x))) ∙ ap (signed (num x)) (sym (cube (whole_root 3 (unsigned_abs (num x)))) ∙ o.upper) ∙ signed_abs (num x)),
      sym ((λ i. o.is.1 i * o.is.1 i * o.is.1 i) ∙ sym (cube (whole_root 3 (den x))) ∙ o.lower),
    )

    found : (root 3 x ≡ lost) ⊎ ((r : Rational) × (root 3 x ≡ fraction r) × RootOf 3 x r) → (root 3 x ≡ lost) ⊎ ((r : Rational) × (root 3 x ≡ fraction r) × IsCubeRoot x r)
    found (inl e) = inl e
    found (inr (r, e, o)) = inr (r, e, cubed r o)

signed-cube : (z : ℤ) → signed (z *ℤ z *ℤ z) (unsigned_abs z) ≡ z
signed-cube (pos a) = refl
signed-cube (negsuc a) = negative (suc a * suc a * suc a) (N.mul-pos (N.mul-pos (N.zero-lt-suc a) (N.zero-lt-suc a)) (N.zero-lt-suc a))
  where
    negative : (n : ℕ) → 0 < n → signed (neg_ℤ (pos n)) (suc a) ≡ negsuc a
    negative zero h = absurd (omega arith)
    negative (suc n) h = refl

pub cube_root_kept : (x r : Rational) → IsCubeRoot x r → root 3 x ≡ fraction r
cube_root_kept x r h =
    let p = (parts_laws.cube_root x r).0 h in
    root_kept 3 x r (N.zero-lt-suc 2)
    (cube (unsigned_abs (num r)) ∙ sym (ap unsigned_abs p.0 ∙ abs_product (num r *ℤ num r) (num r) ∙ ap (λ z. z * unsigned_abs (num r)) (abs_product (num r) (num r))))
    (cube (den r) ∙ sym p.1)
    (ap (λ z. signed z (unsigned_abs (num r))) p.0 ∙ signed-cube (num r))
