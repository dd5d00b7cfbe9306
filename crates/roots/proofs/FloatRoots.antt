-- The roots of floats are the nearest ones: one proof over the degree and the format, for `sqrt` and `cbrt`. Assumes nothing.
use Rattle.std.proofs.Common.{◌≡◌, ℕ, zero, suc, ◌+◌, ◌-◌, ◌*◌, ◌/◌, ◌%◌, ◌^◌, ◌<◌, ◌≤◌, Bool, true, false, cond, ◌&&◌, T, eqb, ltb, leb, ℤ, pos, negsuc, sym, refl, ap, ◌∙◌, subst, inl, inr, lt_of_lt_of_le, lt_of_le_of_lt, mul-le-mul_right, mul_assoc, eq-zero-or-pos, add_comm, lt_of_mul-lt-mul_right, mul-le-mul_left, mul-lt-mul_of_pos_right, one-mul, lt_of_not-le, mul-one, mul_right_comm, not-le_of_lt, mul-div_cancel, arith, ltb→lt, leb→le, pow_pos, pow_mono, pow-add, leb-false, leb-true}
use native.Mathlib.Nat.{pow-le-pow_left}
use lib.Pow.{pow-lt}
use lib.Ieee.{Float, Format, nan, inf, fin, binary32, binary64, prec, emax, low, up, down, size, fits, of_bits}
use lib.Ieee as Ieee
use lib.Ieee.Digits.{size-lt}
use lib.Ieee.Fits.{and_l, and_r, down_pos, round_is, two, two-le_pos}
use lib.Ieee.Bits.{of_bits-to_bits}
use lib.Ieee.Exact.{HasValue, units_val}
use lib.Ieee.Order.{drop, kept}
use lib.Ieee.Positive.{positive}
use Rattle.std.specs.Float as Floats
use Rattle.roots.specs.Digits.{rounded, root_twice}
use Rattle.roots.specs.Roots.{Held, Nearest, Root, cbrt, sqrt_as_written, FloatsHeld, NearestUnique, RootsUnique, RootsNearest, SpecialRoots}
use Rattle.roots.proofs.Powers.{power_at, square, power_of_power, Twice, twice_of_whole, root_twice_lem}
use Rattle.roots.proofs.NearestRoot.{is_nearest}
use Rattle.roots.proofs.Patterns.{bits_of_value}

-- ---- a finite float in units of its format's smallest value

pub record Parts (f : Format) (m : ℕ) (e : ℤ) : Type 0 where
  pub small : m < 2 ^ prec f
  pub fine : down e ≤ 2 ^ low f
  pub finite : m * up e < 2 ^ suc (emax f) * down e

parts : (f : Format) (s : Bool) (m : ℕ) (e : ℤ) → T (fits f (fin s (suc m) e)) → Parts f (suc m) e
unfolding fits
parts f s m e h =
    let a = eqb (suc m % 2) 1 in
    let b = ltb (suc m) (2 ^ prec f) in
    let c = leb (down e) (2 ^ low f) in
    let d = ltb (suc m * up e) (2 ^ suc (emax f) * down e) in
    let abc = and_l (a && b && c) d h in
    record {
      small = ltb→lt (suc m) (2 ^ prec f) (and_r a b (and_l (a && b) c abc));
      fine = leb→le (down e) (2 ^ low f) (and_r (a && b) c abc);
      finite = ltb→lt (suc m * up e) (2 ^ suc (emax f) * down e) (and_r (a && b && c) d h);
    }

power_le_back : (a b : ℕ) → 2 ^ a ≤ 2 ^ b → a ≤ b
power_le_back a b h = native.Mathlib.Nat.le_of_suc-le-suc (lt_of_not-le (λ (g : suc b ≤ a). not-le_of_lt (pow-lt g) h))

place : (l m : ℕ) (e : ℤ) → down e ≤ 2 ^ l → (j : ℕ) × (m * up e * 2 ^ l ≡ m * 2 ^ j * down e)
place l m (pos k) h = (k + l, mul_assoc m (2 ^ k) (2 ^ l) ∙ ap (λ (x : ℕ). m * x) (sym (pow-add 2 k l)) ∙ sym (mul-one (m * 2 ^ (k + l))))
place l m (negsuc k) h =
    let g : suc k ≤ l = power_le_back (suc k) l h in
    (l - suc k, ap (λ (x : ℕ). x * 2 ^ l) (mul-one m) ∙ ap (λ (x : ℕ). m * x) (power_at l (l - suc k + suc k) (omega arith) ∙ pow-add 2 (l - suc k) (suc k)) ∙ sym (mul_assoc m (2 ^ (l - suc k)) (2 ^ suc k)))

-- ---- how far the root's places reach below the unit

abbrev spare : Format → ℕ
spare f = 2270 - low f

places : (f : Format) → suc (low f) + spare f ≡ 2271
places binary32 = refl
places binary64 = refl

roomy : (f : Format) → 2 ≤ emax f
roomy binary32 = omega arith
roomy binary64 = omega arith

-- ---- the root of degree d of m * 2 ^ e, with p significant digits

module _ (d p : ℕ) (f : Format) (m : ℕ) (e : ℤ) (s : Parts f m e) (D : 2 ≤ d) (P : 0 < p) (M : prec f ≤ p * d) (t : ℕ) (R : Twice d (m * up e * 2 ^ (2271 * d) / down e) t) where
  j : ℕ
  j = (place (low f) m e s.fine).0

  x : ℕ
  x = m * 2 ^ j

  is : m * up e * 2 ^ low f ≡ x * down e
  unfolding x j
  is = (place (low f) m e s.fine).1

  held : Held (prec f) x
  unfolding x
  held = (m, j, s.small, refl)

  n : ℕ
  n = m * up e * 2 ^ (2271 * d) / down e

  scaled : n * 2 ^ low f ≡ x * 2 ^ ((suc (low f) + spare f) * d)
  unfolding n
  scaled =
      let k = 2271 * d - low f in
      let a : 2271 * d ≡ low f + k = omega (arith, places f) in
      let b : m * up e * 2 ^ (2271 * d) ≡ x * 2 ^ k * down e =
      ap (λ (i : ℕ). m * up e * i) (power_at (2271 * d) (low f + k) a ∙ pow-add 2 (low f) k) ∙ sym (mul_assoc (m * up e) (2 ^ low f) (2 ^ k)) ∙ ap (λ (i : ℕ). i * 2 ^ k) is ∙ mul_right_comm x (down e) (2 ^ k) in
      let c : n ≡ x * 2 ^ k = ap (λ (i : ℕ). i / down e) b ∙ mul-div_cancel (x * 2 ^ k) (down_pos e) in
      ap (λ (i : ℕ). i * 2 ^ low f) c ∙ mul_assoc x (2 ^ k) (2 ^ low f) ∙ ap (λ (i : ℕ). x * i) (sym (pow-add 2 k (low f)) ∙ power_at (k + low f) ((suc (low f) + spare f) * d) (omega (arith, ap (λ (i : ℕ). i * d) (places f))))

  r : ℕ
  r = kept p (t * 2 ^ low f) (2 ^ 2272) * 2 ^ drop p (t * 2 ^ low f) (2 ^ 2272)

  nearest : Nearest d p (low f) x r
  unfolding r n
  nearest =
      subst (λ (i : ℕ). Nearest d p (low f) x (kept p (t * 2 ^ low f) i * 2 ^ drop p (t * 2 ^ low f) i)) (power_at (suc (suc (low f) + spare f)) 2272 (ap suc (places f)))
      (is_nearest d p (prec f) (low f) (spare f) x n t (omega arith) P M held R scaled)

  -- the number is below 2 ^ (emax + 1), so its root is at most 2 ^ emax
  number_under : x < 2 ^ (suc (emax f) + low f)
  number_under =
      let a : m * up e * 2 ^ low f < 2 ^ suc (emax f) * down e * 2 ^ low f = mul-lt-mul_of_pos_right s.finite (pow_pos (low f)) in
      lt_of_mul-lt-mul_right (down e) (omega (arith, is, ap (λ (i : ℕ). i * down e) (pow-add 2 (suc (emax f)) (low f))))

  abbrev bound : ℕ
  bound = 2 ^ (low f + emax f)

  root_at_most : r ≤ bound
  root_at_most = native.Mathlib.Nat.le_of_suc-le-suc (lt_of_not-le (λ (g : suc bound ≤ r). far g))
    where
      far : bound < r → ⊥
      far g =
          let a : (bound + r) ^ d * 2 ^ low f < x * 2 ^ (suc (low f) * d) = nearest.lower bound (1, low f + emax f, lt_of_lt_of_le (pow-lt {i = 0} {j = p} P) (native.Mathlib.Nat.le_refl (2 ^ p)), sym (one-mul bound)) g in
          let b : 2 ^ suc (low f + emax f) ≤ bound + r = omega (arith, native.Mathlib.Nat.two-pow-succ (low f + emax f)) in
          let c : 2 ^ (suc (low f + emax f) * d) ≤ (bound + r) ^ d = subst (λ (i : ℕ). i ≤ (bound + r) ^ d) (power_of_power 2 (suc (low f + emax f)) d) (pow-le-pow_left b d) in
          let y : 2 ^ (suc (low f + emax f) * d) ≡ 2 ^ (emax f * d) * 2 ^ (suc (low f) * d) = power_at (suc (low f + emax f) * d) (emax f * d + suc (low f) * d) (omega arith) ∙ pow-add 2 (emax f * d) (suc (low f) * d) in
          let z : 2 ^ (emax f * d) * 2 ^ low f * 2 ^ (suc (low f) * d) < x * 2 ^ (suc (low f) * d) = omega (arith, mul-le-mul_right (2 ^ low f) c, ap (λ (i : ℕ). i * 2 ^ low f) y) in
          let v : 2 ^ (emax f * d) * 2 ^ low f < x = lt_of_mul-lt-mul_right (2 ^ (suc (low f) * d)) z in
          let w : 2 ^ (suc (emax f) + low f) ≤ 2 ^ (emax f * d + low f) = pow_mono {i = suc (emax f) + low f} {j = emax f * d + low f} (omega (arith, mul-le-mul_left (emax f) D, roomy f)) in
          omega (arith, pow-add 2 (emax f * d) (low f), number_under)

  pub is_root : Root d p f (fin false m e) (rounded p f false t (2 ^ 2272))
  unfolding rounded r
  is_root = record {
    number = x;
    root = r;
    number_is = (refl, is);
    root_is = units_val f false (kept p (t * 2 ^ low f) (2 ^ 2272)) (drop p (t * 2 ^ low f) (2 ^ 2272)) (lt_of_le_of_lt root_at_most (pow-lt {i = low f + emax f} {j = low f + suc (emax f)} (omega arith)));
    nearest = nearest;
  }

-- ---- `cbrt`

wide_enough : (f : Format) → prec f ≤ 24 * 3
wide_enough binary32 = omega arith
wide_enough binary64 = omega arith

pub cbrt-root : (f : Format) (x : Float) → T (fits f x) → T (positive x) → Root 3 24 f x (cbrt f x)
unfolding cbrt
cbrt-root f (fin false (suc m) e) h g =
    is_root 3 24 f (suc m) e (parts f false m e h) (omega arith) (omega arith) (wide_enough f) (root_twice 3 (suc m * up e * 2 ^ 6813 / down e)) (root_twice_lem 3 (suc m * up e * 2 ^ 6813 / down e) (omega arith))
cbrt-root f (fin false zero e) h g = absurd g
cbrt-root f (fin true m e) h g = absurd g
cbrt-root f (inf s) h g = absurd g
cbrt-root f nan h g = absurd g

-- ---- `sqrt`, as std defines it

abbrev Square : ℕ → ℕ → Type 0
Square s n = (s * s ≤ n) × (n < (s + 1) * (s + 1))

digit : (r n : ℕ) (b : Bool) → Square r (n / 4) → leb ((2 * r + 1) * (2 * r + 1)) n ≡ b → Square (cond b (2 * r + 1) (2 * r)) n
digit r n true h e = (leb-true _ _ e, omega (arith, h.1))
digit r n false h e = (omega (arith, h.0), leb-false _ _ e)

below : (k n : ℕ) → n < 2 ^ k → Square (Ieee.root_below k n) n
unfolding Ieee.root_below
below zero n h = omega arith
below (suc k) n h = digit (Ieee.root_below k (n / 4)) n _ (below k (n / 4) (omega arith)) refl

pub square_twice : (n : ℕ) → Twice 2 n (Ieee.root_twice n)
unfolding Ieee.root_twice
square_twice n =
    let s = Ieee.root_below (size n) n in
    let h = below (size n) n (size-lt n) in
    twice_of_whole 2 s n (eqb (s * s) n) (omega arith) (omega (arith, square s), omega (arith, square (s + 1))) (ap (λ (x : ℕ). eqb x n) (square s))

pub at_own : (f : Format) (num den : ℕ) → rounded (prec f) f false num den ≡ lib.Ieee.round f false num den
unfolding rounded
at_own f num den = sym (round_is f false num den)

twice_wide : (f : Format) → prec f ≤ prec f * 2
twice_wide f = omega arith

pub sqrt_root : (f : Format) (x : Float) → T (fits f x) → T (positive x) → Root 2 (prec f) f x (Floats.sqrt f x)
unfolding Floats.sqrt
sqrt_root f (fin false (suc m) e) h g =
    let t = Ieee.root_twice (suc m * up e * 2 ^ 4542 / down e) in
    subst (λ (r : Float). Root 2 (prec f) f (fin false (suc m) e) r) (at_own f t (2 ^ 2272))
    (is_root 2 (prec f) f (suc m) e (parts f false m e h) (omega arith) (two-le_pos (prec f) (two f)) (twice_wide f) t (square_twice (suc m * up e * 2 ^ 4542 / down e)))
sqrt_root f (fin false zero e) h g = absurd g
sqrt_root f (fin true m e) h g = absurd g
sqrt_root f (inf s) h g = absurd g
sqrt_root f nan h g = absurd g

pub square_root : (f : Format) (x r : Float) → T (fits f x) → r ≡ Floats.sqrt f x → T (positive x) → Root 2 (prec f) f x r
square_root f x r h e g = subst (λ (y : Float). Root 2 (prec f) f x y) (sym e) (sqrt_root f x h g)

-- ---- the laws

pub floats_held : FloatsHeld
floats_held f nan n h v = absurd v
floats_held f (inf s) n h v = absurd v
floats_held f (fin s zero e) n h v = (0, 0, pow_pos (prec f), none (up e) (2 ^ low f) n (down e) (down_pos e) v.1)
  where
    none : (u l k d : ℕ) → 0 < d → 0 * u * l ≡ k * d → k ≡ 0 * 2 ^ 0
    none u l zero d D g = refl
    none u l (suc k) d D g = absurd (omega (arith, native.Mathlib.Nat.mul-pos {m = suc k} (omega arith) D))
floats_held f (fin s (suc m) e) n h v =
    let p = parts f s m e h in
    let q = place (low f) (suc m) e p.fine in
    (suc m, q.0, p.small, native.Mathlib.Nat.eq_of_mul-eq-mul_right (down e) (down_pos e) n (suc m * 2 ^ q.0) (sym v.1 ∙ q.1))

pub nearest_unique : NearestUnique
nearest_unique d p l x r s a b =
    elim (eq-zero-or-pos (s - r)) [
      | inl y ↦ elim (eq-zero-or-pos (r - s)) [
        | inl z ↦ omega arith
        | inr g ↦ let k : s < r = omega arith in absurd (omega (arith, b.upper r a.held k, a.lower s b.held k, ap (λ (z : ℕ). z ^ d * 2 ^ l) (add_comm r s)))
      ]
      | inr g ↦ let k : r < s = omega arith in absurd (omega (arith, a.upper s b.held k, b.lower r a.held k, ap (λ (z : ℕ). z ^ d * 2 ^ l) (add_comm r s)))
    ]

-- a float's value is a number in one way
one_number : (x : Float) (a b c : ℕ) → HasValue x false a c → HasValue x false b c → a ≡ b
one_number nan a b c v w = absurd v
one_number (inf s) a b c v w = absurd v
one_number (fin s m e) a b c v w = native.Mathlib.Nat.eq_of_mul-eq-mul_right (down e) (down_pos e) a b (sym v.1 ∙ w.1)

-- and one float of a format has it
one_float : (f : Format) (x y : Float) (a : ℕ) → T (fits f x) → T (fits f y) → HasValue x false a (2 ^ low f) → HasValue y false a (2 ^ low f) → x ≡ y
one_float f x y a h g v w = sym (of_bits-to_bits f x h) ∙ ap (of_bits f) (bits_of_value f x a v ∙ sym (bits_of_value f y a w)) ∙ of_bits-to_bits f y g

pub roots_unique : RootsUnique
roots_unique d p f x r s h g a b =
    let n : b.number ≡ a.number = one_number x b.number a.number (2 ^ low f) b.number_is a.number_is in
    let e : b.root ≡ a.root = nearest_unique d p (low f) a.number b.root a.root (subst (λ (k : ℕ). Nearest d p (low f) k b.root) n b.nearest) a.nearest in
    one_float f r s a.root h g a.root_is (subst (λ (k : ℕ). HasValue s false k (2 ^ low f)) e b.root_is)

pub roots_nearest : RootsNearest
roots_nearest f x h g = (sqrt_root f x h g, cbrt-root f x h g)

-- a format writes a zero in one way
zero_exponent : (f : Format) (s : Bool) (e : ℤ) → T (fits f (fin s 0 e)) → pos 0 ≡ e
unfolding fits
zero_exponent f s (pos zero) h = refl
zero_exponent f s (pos (suc k)) h = absurd (omega (arith, lib.Dec.eqb→eq (2 ^ suc k * 1) 1 h))
zero_exponent f s (negsuc k) h = absurd (omega (arith, lib.Dec.eqb→eq (1 * 2 ^ suc k) 1 h))

sqrt_of_fits : (f : Format) (x : Float) → T (fits f x) → Floats.sqrt f x ≡ sqrt_as_written f x
unfolding Floats.sqrt sqrt_as_written
sqrt_of_fits f nan h = refl
sqrt_of_fits f (inf s) h = refl
sqrt_of_fits f (fin s zero e) h = ap (fin s 0) (zero_exponent f s e h)
sqrt_of_fits f (fin s (suc m) e) h = refl

pub special_roots : (f : Format) → SpecialRoots f
unfolding Floats.sqrt sqrt_as_written cbrt
special_roots f = record {
  zeros = λ s e. (refl, refl);
  infinities = λ s. (refl, refl);
  below_zero = λ m e. (refl, refl);
  not_numbers = (refl, refl);
  library = sqrt_of_fits f;
  library_zeros = λ s e. refl;
}
