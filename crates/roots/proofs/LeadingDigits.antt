-- The 25 leading digits of a root, however they were found, give its value: over the degree, for floats of 32 bits. Assumes nothing.
use Rattle.std.proofs.Common.{◌≡◌, ℕ, zero, suc, ◌+◌, ◌-◌, ◌*◌, ◌/◌, ◌%◌, ◌^◌, ◌<◌, ◌≤◌, Bool, true, false, T, ◌⊎◌, sym, refl, ap, ◌∙◌, subst, inl, inr, true≢false, le_trans, le_of_eq, lt_of_lt_of_le, le_of_suc-le-suc, lt_of_le_of_lt, mul-le-mul_right, mul_assoc, div-lt_iff_lt-mul, eq-zero-or-pos, mul-le-mul, lt_of_mul-lt-mul_right, eq-or-lt_of_le, mul-lt-mul_of_pos_right, mul-pos, pow-suc, lt_of_not-le, le-div_iff_mul-le, mul_right_comm, not-le_of_lt, mul-div_cancel, arith, pow_pos, pow_mono, pow-add}
use Rattle.std.proofs.lemmas.Nat.{mul-pow}
use native.Mathlib.Nat.{pow-le-pow_left, eq_of_mul-eq-mul_right}
use lib.Ieee.{Float, nan, inf, fin, binary32, up, down, units, fits, is_nan, of_bits, to_bits}
use lib.Ieee as Ieee
use lib.Ieee.Fits.{up_pos, down_pos}
use lib.Ieee.Nearest.{closest, closest_same}
use lib.Ieee.Order.{drop}
use Rattle.std.specs.Float as Floats
use Rattle.roots.specs.Digits.{rounded, root_twice, steps}
use Rattle.roots.specs.Roots.{cbrt}
use Rattle.roots.proofs.Powers.{power_at, square, cube, power_of_power, odd_power, Whole, Twice, root_twice_lem}
use Rattle.roots.proofs.Rounding.{near}
use Rattle.roots.proofs.FloatRoots.{square_twice, at_own}
use Rattle.roots.proofs.Signs.{sign_of_units}
use Rattle.roots.proofs.Patterns.{Parts, steps_low, steps_pos, value_of, nan_bits_lem, inf_bits, not_finite, not_signed, size_is}

-- ---- less than a half away is the nearest

closest_is : (n u a : ℕ) → 2 * n < (2 * a + 1) * u → 2 * a * u < 2 * n + u → closest n u ≡ a
closest_is n u a h l =
    let s = native.Mathlib.Nat.div-add-mod' n u in
    let U : 0 < u = elim (eq-zero-or-pos u) [ inl z ↦ absurd (omega (arith, ap (λ (x : ℕ). 2 * a * x) z, ap (λ (x : ℕ). (2 * a + 1) * x) z)) | inr p ↦ p ] in
    let m = native.Mathlib.Nat.mod-lt n U in
    let c = n / u in
    elim (near n u) [
      | inl g ↦
          let x : a < c + 1 = lt_of_mul-lt-mul_right u (omega arith) in
          let y : c < a + 1 = lt_of_mul-lt-mul_right u (omega arith) in
          g.0 ∙ (let e : c ≡ a = omega arith in e)
      | inr g ↦
          let x : a < c + 2 = lt_of_mul-lt-mul_right u (omega arith) in
          let y : c < a = lt_of_mul-lt-mul_right u (omega arith) in
          g.0 ∙ (let e : c + 1 ≡ a = omega arith in e)
    ]

-- ---- t is twice the root of N, which is n * u ^ d, and q the whole part of the root of an even n

module _ (d h q u N t : ℕ) (U : 0 < u) (R : Twice d N t) (N_is : N ≡ 2 * h * u ^ d) (W : Whole d q (2 * h)) where
  power_of : (a : ℕ) → (a * u) ^ d ≡ a ^ d * u ^ d
  power_of a = mul-pow a u d

  V : 0 < u ^ d
  V = native.Mathlib.Nat.one-le-pow d u U

  from : 2 * (q * u) ≤ t
  from = le_of_suc-le-suc (lt_of_not-le (λ (g : suc t ≤ 2 * (q * u)). no g))
    where
      no : t < 2 * (q * u) → ⊥
      no g = omega (arith, R.more (q * u) g, power_of q, mul-le-mul_right (u ^ d) W.0)

  upto : t < 2 * ((q + 1) * u)
  upto = lt_of_not-le (λ (g : 2 * ((q + 1) * u) ≤ t). no (eq-or-lt_of_le g))
    where
      over : N < ((q + 1) * u) ^ d
      over = omega (arith, power_of (q + 1), mul-lt-mul_of_pos_right W.1 V)

      no : (2 * ((q + 1) * u) ≡ t) ⊎ (2 * ((q + 1) * u) < t) → ⊥
      no (inl x) = omega (arith, over, R.same ((q + 1) * u) (sym x))
      no (inr x) = omega (arith, over, R.less ((q + 1) * u) x)

  -- an odd q is not the root of an even number
  past : q % 2 ≡ 1 → 2 * (q * u) < t
  past o = lib.Arith.lt_of_le-ne from (λ (z : 2 * (q * u) ≡ t). odd_root (eq_of_mul-eq-mul_right (u ^ d) V (q ^ d) (2 * h) (sym (power_of q) ∙ R.same (q * u) (sym z) ∙ N_is)))
    where
      odd_root : q ^ d ≡ 2 * h → ⊥
      odd_root e = let c : 2 * (q / 2) + 1 ≡ q = omega arith in omega (arith, odd_power (q / 2) d, ap (λ (x : ℕ). x ^ d) c)

  rounds : closest t (u * 4) ≡ (q + 1) / 2
  rounds =
      elim (eq-zero-or-pos (q % 2)) [
        | inl z ↦
            let e : 2 * ((q + 1) / 2) ≡ q = omega arith in
            let g = ap (λ (x : ℕ). x * (u * 4)) e in
            closest_is t (u * 4) ((q + 1) / 2) (omega (arith, upto)) (omega (arith, from))
        | inr z ↦
            let e : 2 * ((q + 1) / 2) ≡ q + 1 = omega arith in
            let g = ap (λ (x : ℕ). x * (u * 4)) e in
            let p = past (omega arith) in
            closest_is t (u * 4) ((q + 1) / 2) (omega (arith, upto)) (omega arith)
      ]

-- ---- t, which lies from 2 ^ (i + 25) up to below 2 ^ (i + 26), in units of 2 ^ -149: its 24 leading digits

module _ (t i c z : ℕ) (C : c + z ≡ i + 151) (lo : 2 ^ 25 * 2 ^ i ≤ t) (hi : t < 2 ^ 26 * 2 ^ i) where
  drops : drop 24 (t * 2 ^ 149) (2 ^ z) ≡ c
  drops =
      let a : 2 ^ (23 + c) * 2 ^ z ≡ 2 ^ 25 * 2 ^ i * 2 ^ 149 = sym (pow-add 2 (23 + c) z) ∙ power_at (23 + c + z) (25 + i + 149) (omega arith) ∙ pow-add 2 (25 + i) 149 ∙ ap (λ (x : ℕ). x * 2 ^ 149) (pow-add 2 25 i) in
      let b : 2 ^ suc (23 + c) * 2 ^ z ≡ 2 ^ 26 * 2 ^ i * 2 ^ 149 = sym (pow-add 2 (suc (23 + c)) z) ∙ power_at (suc (23 + c) + z) (26 + i + 149) (omega arith) ∙ pow-add 2 (26 + i) 149 ∙ ap (λ (x : ℕ). x * 2 ^ 149) (pow-add 2 26 i) in
      let x : 2 ^ (23 + c) ≤ t * 2 ^ 149 / 2 ^ z = (le-div_iff_mul-le (pow_pos z)).1 (omega (arith, mul-le-mul_right (2 ^ 149) lo)) in
      let y : t * 2 ^ 149 / 2 ^ z < 2 ^ suc (23 + c) = (div-lt_iff_lt-mul (pow_pos z)).1 (omega (arith, mul-lt-mul_of_pos_right hi (pow_pos 149))) in
      ap (λ (k : ℕ). k - 24) (size_is (t * 2 ^ 149 / 2 ^ z) (23 + c) x y) ∙ (let k : suc (23 + c) - 24 ≡ c = omega arith in k)

  keeps : closest (t * 2 ^ 149) (2 ^ z * 2 ^ c) ≡ closest t (2 ^ i * 4)
  keeps =
      let w : 2 ^ 149 * (2 ^ i * 4) ≡ 2 ^ z * 2 ^ c = ap (λ (x : ℕ). 2 ^ 149 * x) (sym (pow-add 2 i 2)) ∙ sym (pow-add 2 149 (i + 2)) ∙ power_at (149 + (i + 2)) (z + c) (omega arith) ∙ pow-add 2 z c in
      closest_same (t * 2 ^ 149) (2 ^ z * 2 ^ c) t (2 ^ i * 4) (mul-pos (pow_pos z) (pow_pos c)) (mul-pos (pow_pos i) (omega arith)) (mul_assoc t (2 ^ 149) (2 ^ i * 4) ∙ ap (λ (x : ℕ). t * x) w)

  leading : (s : Bool) → rounded 24 binary32 s t (2 ^ z) ≡ units binary32 s (closest t (2 ^ i * 4)) c
  unfolding rounded
  leading s = ap (λ (x : ℕ). units binary32 s (closest (t * 2 ^ 149) (2 ^ z * 2 ^ x)) x) drops ∙ ap (λ (x : ℕ). units binary32 s x c) keeps

-- ---- the root of degree d of m * 2 ^ w, an even number of more than 24 * d and at most 25 * d digits

module _ (d m w p q : ℕ) (P : w ≡ suc p) (lo : 2 ^ (24 * d) ≤ m * 2 ^ w) (hi : m * 2 ^ w < 2 ^ (25 * d)) (W : Whole d q (m * 2 ^ w)) where
  even : m * 2 ^ w ≡ 2 * (m * 2 ^ p)
  even = ap (λ (x : ℕ). m * x) (power_at w (suc p) P ∙ pow-suc 2 p) ∙ regroup (2 ^ p)
    where
      regroup : (x : ℕ) → m * (x * 2) ≡ 2 * (m * x)
      regroup x = omega arith

  has_25 : (2 ^ 24 ≤ q) × (q < 2 ^ 25)
  has_25 = (
    (let l : 2 ^ 24 < q + 1 = lt_of_not-le (λ (g : q + 1 ≤ 2 ^ 24). not-le_of_lt (lt_of_le_of_lt lo W.1) (subst (λ (x : ℕ). (q + 1) ^ d ≤ x) (power_of_power 2 24 d) (pow-le-pow_left g d))) in omega arith),
    lt_of_not-le (λ (g : 2 ^ 25 ≤ q). not-le_of_lt (lt_of_le_of_lt W.0 hi) (subst (λ (x : ℕ). x ≤ q ^ d) (power_of_power 2 25 d) (pow-le-pow_left g d))),
  )

  -- N is that number in smaller units, and t twice its root
  value : (j a i c z N t : ℕ) (s : Bool) → Twice d N t → N ≡ m * 2 ^ j * 2 ^ a → j + a ≡ w + i * d → c + z ≡ i + 151 → rounded 24 binary32 s t (2 ^ z) ≡ units binary32 s ((q + 1) / 2) c
  value j a i c z N t s R e I C =
      let N_is : N ≡ 2 * (m * 2 ^ p) * (2 ^ i) ^ d =
      e ∙ mul_assoc m (2 ^ j) (2 ^ a) ∙ ap (λ (x : ℕ). m * x) (sym (pow-add 2 j a) ∙ power_at (j + a) (w + i * d) I ∙ pow-add 2 w (i * d)) ∙ sym (mul_assoc m (2 ^ w) (2 ^ (i * d)))
      ∙ (λ x. even x * sym (power_of_power 2 i d) x) in
      let V : Whole d q (2 * (m * 2 ^ p)) = subst (λ (n : ℕ). Whole d q n) even W in
      let x = from d (m * 2 ^ p) q (2 ^ i) N t (pow_pos i) R N_is V in
      let y = upto d (m * 2 ^ p) q (2 ^ i) N t (pow_pos i) R N_is V in
      leading t i c z C (omega (arith, mul-le-mul_right (2 ^ i) has_25.0)) (omega (arith, mul-le-mul_right (2 ^ i) has_25.1)) s
      ∙ ap (λ (k : ℕ). units binary32 s k c) (rounds d (m * 2 ^ p) q (2 ^ i) N t (pow_pos i) R N_is V)

-- ---- the numbers whose roots are taken

-- an m of 24 digits, shifted
between : (m w k r : ℕ) → 2 ^ 23 ≤ m → m < 2 ^ 24 → k ≤ w → w ≤ k + r → (2 ^ (23 + k) ≤ m * 2 ^ w) × (m * 2 ^ w < 2 ^ (24 + (k + r)))
between m w k r a b h l = (
  le_trans (le_of_eq (pow-add 2 23 k)) (mul-le-mul a (pow_mono h)),
  lt_of_lt_of_le (mul-lt-mul_of_pos_right b (pow_pos w)) (le_trans (mul-le-mul (native.Mathlib.Nat.le_refl (2 ^ 24)) (pow_mono l)) (le_of_eq (sym (pow-add 2 24 (k + r))))),
)

square_in : (m j : ℕ) → (2 ^ 23 ≤ m) × (m < 2 ^ 24) → (2 ^ 48 ≤ m * 2 ^ (25 + j % 2)) × (m * 2 ^ (25 + j % 2) < 2 ^ 50)
square_in m j M = between m (25 + j % 2) 25 1 M.0 M.1 (omega arith) (omega arith)

pub cube_in : (m j : ℕ) → (2 ^ 23 ≤ m) × (m < 2 ^ 24) → (2 ^ 72 ≤ m * 2 ^ (49 + j % 3)) × (m * 2 ^ (49 + j % 3) < 2 ^ 75)
cube_in m j M = between m (49 + j % 3) 49 2 M.0 M.1 (omega arith) (omega arith)

in_parts : (v m j a : ℕ) → m * 2 ^ j ≡ v * 2 ^ 24 → v * 2 ^ (24 + a) ≡ m * 2 ^ j * 2 ^ a
in_parts v m j a e = ap (λ (x : ℕ). v * x) (pow-add 2 24 a) ∙ sym (mul_assoc v (2 ^ 24) (2 ^ a)) ∙ ap (λ (x : ℕ). x * 2 ^ a) (sym e)

scaled : (a d v i j : ℕ) → 0 < d → a * 2 ^ i ≡ v * d → a * (2 ^ i * 2 ^ j) / d ≡ v * 2 ^ j
scaled a d v i j D e = ap (λ (k : ℕ). k / d) (sym (mul_assoc a (2 ^ i) (2 ^ j)) ∙ ap (λ (k : ℕ). k * 2 ^ j) e ∙ mul_right_comm v d (2 ^ j)) ∙ mul-div_cancel (v * 2 ^ j) D

not_zero : (u d v : ℕ) → 0 < d → 0 < v → (z : ℕ) → 0 * u * 2 ^ z ≡ v * d → ⊥
not_zero u d v D V z e = omega (arith, mul-pos V D)

-- ---- the two roots of the float of pattern b, whose digits are m

module _ (b m j q : ℕ) (B : (0 < b) × (b < 255 * 2 ^ 23)) (M : Parts b m j) where
  -- what the whole part of each root was found to be
  abbrev pub Square : Type 0
  Square = let n = (m * 2 ^ (25 + j % 2)) % 2 ^ 64 in (q * q ≤ n) × (n < (q + 1) * (q + 1))

  abbrev pub Cube : Type 0
  Cube = let n = (m * 2 ^ (49 + j % 3)) % 2 ^ 128 in (q * q * q ≤ n) × (n < (q + 1) * (q + 1) * (q + 1))

  whole-square : Square → Whole 2 q (m * 2 ^ (25 + j % 2))
  whole-square W = let r = square_in m j (M.0, M.1) in (omega (arith, square q), omega (arith, square (q + 1)))

  whole-cube : Cube → Whole 3 q (m * 2 ^ (49 + j % 3))
  whole-cube W = let r = cube_in m j (M.0, M.1) in (omega (arith, cube q), omega (arith, cube (q + 1)))

  pub square_digits : Square → (2 ^ 24 ≤ q) × (q < 2 ^ 25)
  square_digits W = has_25 2 m (25 + j % 2) (24 + j % 2) q (omega arith) (square_in m j (M.0, M.1)).0 (square_in m j (M.0, M.1)).1 (whole-square W)

  pub cube_digits : Cube → (2 ^ 24 ≤ q) × (q < 2 ^ 25)
  cube_digits W = has_25 3 m (49 + j % 3) (48 + j % 3) q (omega arith) (cube_in m j (M.0, M.1)).0 (cube_in m j (M.0, M.1)).1 (whole-cube W)

  -- N is the number whose root is taken, and t twice the root
  of_square : (N t z : ℕ) (s : Bool) → Twice 2 N t → N ≡ steps b * 2 ^ 4393 → z ≡ 2272 → Square → rounded 24 binary32 s t (2 ^ z) ≡ units binary32 s ((q + 1) / 2) (j / 2 + 51)
  of_square N t z s R e Z W =
      value 2 m (25 + j % 2) (24 + j % 2) q (omega arith) (square_in m j (M.0, M.1)).0 (square_in m j (M.0, M.1)).1 (whole-square W) j 4369 (j / 2 + 2172) (j / 2 + 51) z N t s R
      (e ∙ in_parts (steps b) m j 4369 M.3) (omega arith) (omega arith)

  of_cube : (N t z : ℕ) (s : Bool) → Twice 3 N t → N ≡ steps b * 2 ^ 6664 → z ≡ 2272 → Cube → rounded 24 binary32 s t (2 ^ z) ≡ units binary32 s ((q + 1) / 2) (j / 3 + 76)
  of_cube N t z s R e Z W =
      value 3 m (49 + j % 3) (48 + j % 3) q (omega arith) (cube_in m j (M.0, M.1)).0 (cube_in m j (M.0, M.1)).1 (whole-cube W) j 6640 (j / 3 + 2197) (j / 3 + 76) z N t s R
      (e ∙ in_parts (steps b) m j 6640 M.3) (omega arith) (omega arith)

  same : (x : Float) → b ≡ to_bits binary32 x → b ≡ to_bits binary32 x % 2 ^ 31
  same x e = omega arith

  pub sqrt_value : (x : Float) → T (fits binary32 x) → b ≡ to_bits binary32 x → Square → Floats.sqrt binary32 x ≡ units binary32 false ((q + 1) / 2) (j / 2 + 51)
  unfolding Floats.sqrt
  sqrt_value nan f e W = absurd (omega (arith, nan_bits_lem))
  sqrt_value (inf s) f e W = absurd (omega (arith, inf_bits s))
  sqrt_value (fin true m d) f e W = absurd (omega (arith, not_signed m d))
  sqrt_value (fin false zero d) f e W = absurd (not_zero (up d) (down d) (steps b) (down_pos d) (steps_pos b B.0) 149 (value_of false 0 b d f (same (fin false 0 d) e) B.1))
  sqrt_value (fin false (suc m) d) f e W =
      let n = scaled (suc m * up d) (down d) (steps b) 149 4393 (down_pos d) (value_of false (suc m) b d f (same (fin false (suc m) d) e) B.1) in
      let t = Ieee.root_twice (suc m * up d * 2 ^ 4542 / down d) in
      sym (at_own binary32 t (2 ^ 2272)) ∙ of_square (suc m * up d * 2 ^ 4542 / down d) t 2272 false (square_twice (suc m * up d * 2 ^ 4542 / down d)) n refl W

  cube_units : (x : Float) → T (fits binary32 x) → b ≡ to_bits binary32 x % 2 ^ 31 → Cube → cbrt binary32 x ≡ units binary32 (Floats.is_sign_negative x) ((q + 1) / 2) (j / 3 + 76)
  unfolding cbrt Floats.is_sign_negative
  cube_units nan f e W = absurd (omega (arith, nan_bits_lem))
  cube_units (inf s) f e W = absurd (omega (arith, inf_bits s))
  cube_units (fin s zero d) f e W = absurd (not_zero (up d) (down d) (steps b) (down_pos d) (steps_pos b B.0) 149 (value_of s 0 b d f e B.1))
  cube_units (fin s (suc m) d) f e W =
      let n = scaled (suc m * up d) (down d) (steps b) 149 6664 (down_pos d) (value_of s (suc m) b d f e B.1) in
      of_cube (suc m * up d * 2 ^ 6813 / down d) (root_twice 3 (suc m * up d * 2 ^ 6813 / down d)) 2272 s (root_twice_lem 3 (suc m * up d * 2 ^ 6813 / down d) three) n refl W
    where
      three : 0 < 3
      three = omega arith

  pub cbrt_value : (x : Float) → T (fits binary32 x) → b ≡ to_bits binary32 x % 2 ^ 31 → Cube → Floats.float_with_sign (Floats.is_sign_negative x) (units binary32 false ((q + 1) / 2) (j / 3 + 76)) ≡ cbrt binary32 x
  cbrt_value x f e W = sign_of_units (Floats.is_sign_negative x) binary32 ((q + 1) / 2) (j / 3 + 76) ∙ sym (cube_units x f e W)

-- ---- what is its own cube root

no_number : (m u d w : ℕ) → 0 < u → 0 < w → suc m * u * w ≡ 0 * d → ⊥
no_number m u d w U W e = omega (arith, mul-pos (mul-pos {m = suc m} (omega arith) U) W)

pub own-zero : (x : Float) (b : ℕ) → T (fits binary32 x) → b ≡ to_bits binary32 x % 2 ^ 31 → b ≡ 0 → x ≡ cbrt binary32 x
unfolding cbrt
own-zero nan b f e z = refl
own-zero (inf s) b f e z = refl
own-zero (fin s zero d) b f e z = refl
own-zero (fin s (suc m) d) b f e z =
    let v = value_of s (suc m) b d f e (omega arith) in
    absurd (no_number m (up d) (down d) (2 ^ 149) (up_pos d) (pow_pos 149) (v ∙ ap (λ (k : ℕ). k * down d) (ap steps z ∙ steps_low 0 (pow_pos 23))))

pub own_infinity : (x : Float) (b : ℕ) → T (fits binary32 x) → b ≡ to_bits binary32 x % 2 ^ 31 → 255 * 2 ^ 23 ≤ b → x ≡ cbrt binary32 x
unfolding cbrt
own_infinity nan b f e h = refl
own_infinity (inf s) b f e h = refl
own_infinity (fin s m d) b f e h = absurd (not_finite s m d f (omega arith))

pub own_nan : (x : Float) (b : Bool) → b ≡ is_nan x → b ≡ true → x ≡ cbrt binary32 x
unfolding cbrt is_nan
own_nan nan b e h = refl
own_nan (inf s) b e h = refl
own_nan (fin s m d) b e h = absurd (true≢false (sym h ∙ e))
