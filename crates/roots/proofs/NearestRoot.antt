-- Twice a root, rounded to p significant digits, is the nearest root: for any degree, any p and any unit 2 ^ -l. Assumes nothing.
use Rattle.std.proofs.Common.{◌≡◌, ℕ, suc, ◌+◌, ◌-◌, ◌*◌, ◌%◌, ◌^◌, ◌<◌, ◌≤◌, sym, ap, ◌∙◌, subst, inl, inr, le_trans, mul_assoc, eq-zero-or-pos, lt_of_mul-lt-mul_right, mul-le-mul_left, mul-lt-mul_of_pos_right, mul-pos, div-add-mod', arith, pow_pos, pow_mono, pow-add}
use Rattle.std.proofs.lemmas.Nat.{mul-pow}
use native.Mathlib.Nat.{eq_of_mul-eq-mul_right, pow-le-pow_left}
use lib.Ieee.Order.{drop, kept}
use Rattle.roots.specs.Roots.{Held, Nearest}
use Rattle.roots.proofs.Powers.{power_at, power_of_power, odd_power, Twice}
use Rattle.roots.proofs.Rounding as Rounding

-- An odd number of more than p digits, to the power of d, is no number of at most p * d digits, whatever powers of two they are multiplied by.
apart : (o a q b w : ℕ) → o % 2 ≡ 1 → o * 2 ^ a ≡ q * 2 ^ b → q < w → (b ≤ a → w ≤ o) → ⊥
apart o a q b w O e Q W =
    elim (eq-zero-or-pos (b - a)) [
      | inl z ↦
          let s : 2 ^ a ≡ 2 ^ (a - b) * 2 ^ b = power_at a (a - b + b) (omega arith) ∙ pow-add 2 (a - b) b in
          let i : o * 2 ^ (a - b) ≡ q = eq_of_mul-eq-mul_right (2 ^ b) (pow_pos b) (o * 2 ^ (a - b)) q (mul_assoc o (2 ^ (a - b)) (2 ^ b) ∙ ap (λ (x : ℕ). o * x) (sym s) ∙ e) in
          let j : o * 1 ≤ o * 2 ^ (a - b) = mul-le-mul_left o (pow_pos (a - b)) in
          omega (arith, W (omega arith))
      | inr g ↦
          let s : 2 ^ b ≡ 2 ^ (b - a - 1) * 2 * 2 ^ a = power_at b (b - a - 1 + 1 + a) (omega arith) ∙ pow-add 2 (b - a - 1 + 1) a ∙ ap (λ (x : ℕ). x * 2 ^ a) (pow-add 2 (b - a - 1) 1) in
          let i : o ≡ q * (2 ^ (b - a - 1) * 2) = eq_of_mul-eq-mul_right (2 ^ a) (pow_pos a) o (q * (2 ^ (b - a - 1) * 2)) (e ∙ ap (λ (x : ℕ). q * x) s ∙ sym (mul_assoc q (2 ^ (b - a - 1) * 2) (2 ^ a))) in
          even q (2 ^ (b - a - 1)) i
    ]
  where
    even : (x y : ℕ) → o ≡ x * (y * 2) → ⊥
    even x y i = let j : x * (y * 2) ≡ 2 * (x * y) = omega arith in omega arith

-- x has at most m significant digits, and t is twice the root of n, which is x in smaller units.
module _ (d p m l g x n t : ℕ) (D : 0 < d) (P : 0 < p) (M : m ≤ p * d) (X : Held m x) (R : Twice d n t) (N : n * 2 ^ l ≡ x * 2 ^ ((suc l + g) * d)) where
  abbrev pub num : ℕ
  num = t * 2 ^ l

  abbrev pub den : ℕ
  den = 2 ^ suc (suc l + g)

  den_pos : 0 < den
  den_pos = pow_pos (suc (suc l + g))

  den_is : den ≡ 2 ^ g * 2 * (2 * 2 ^ l)
  den_is = power_at (suc (suc l + g)) (g + 1 + (1 + l)) (omega arith) ∙ pow-add 2 (g + 1) (1 + l) ∙ (λ i. pow-add 2 g 1 i * pow-add 2 1 l i)

  -- z / 2 units, as a number that is compared with t, and to the power of d
  power : (z : ℕ) → (z * 2 ^ g) ^ d * 2 ^ l ≡ z ^ d * 2 ^ l * 2 ^ (g * d)
  power z = ap (λ (k : ℕ). k * 2 ^ l) (mul-pow z (2 ^ g) d ∙ ap (λ (k : ℕ). z ^ d * k) (power_of_power 2 g d)) ∙ native.Mathlib.Nat.mul_right_comm (z ^ d) (2 ^ (g * d)) (2 ^ l)

  scaled : n * 2 ^ l ≡ x * 2 ^ (suc l * d) * 2 ^ (g * d)
  scaled = N ∙ ap (λ (k : ℕ). x * k) (power_at ((suc l + g) * d) (suc l * d + g * d) (omega arith) ∙ pow-add 2 (suc l * d) (g * d)) ∙ sym (mul_assoc x (2 ^ (suc l * d)) (2 ^ (g * d)))

  under : (z : ℕ) → z * den < 2 * num → z ^ d * 2 ^ l < x * 2 ^ (suc l * d)
  under z h =
      let a : 2 * (z * 2 ^ g) < t = lt_of_mul-lt-mul_right (2 * 2 ^ l) (omega (arith, ap (λ (k : ℕ). z * k) den_is)) in
      let b : (z * 2 ^ g) ^ d * 2 ^ l < n * 2 ^ l = mul-lt-mul_of_pos_right (R.less (z * 2 ^ g) a) (pow_pos l) in
      lt_of_mul-lt-mul_right (2 ^ (g * d)) (omega (arith, power z, scaled))

  over : (z : ℕ) → 2 * num < z * den → x * 2 ^ (suc l * d) < z ^ d * 2 ^ l
  over z h =
      let a : t < 2 * (z * 2 ^ g) = lt_of_mul-lt-mul_right (2 * 2 ^ l) (omega (arith, ap (λ (k : ℕ). z * k) den_is)) in
      let b : n * 2 ^ l < (z * 2 ^ g) ^ d * 2 ^ l = mul-lt-mul_of_pos_right (R.more (z * 2 ^ g) a) (pow_pos l) in
      lt_of_mul-lt-mul_right (2 ^ (g * d)) (omega (arith, power z, scaled))

  abbrev k : ℕ
  k = Rounding.k p num den P den_pos

  abbrev u : ℕ
  u = Rounding.u p num den P den_pos

  abbrev c : ℕ
  c = Rounding.c p num den P den_pos

  far : (j : ℕ) → j + (suc l + g) * d ≤ (g + k) * d + l → 2 ^ m ≤ (2 * c + 1) ^ d
  far j h =
      let K : 0 < k = elim (eq-zero-or-pos k) [
        | inl z ↦ absurd (let a : (g + k) * d ≡ g * d = ap (λ (i : ℕ). (g + i) * d) z ∙ ap (λ (i : ℕ). i * d) (native.Mathlib.Nat.add-zero g) in let b : suc l * 1 ≤ suc l * d = mul-le-mul_left (suc l) D in omega arith)
        | inr q ↦ q
      ] in
      let f = Rounding.full p num den P den_pos K in
      let a : 2 ^ p ≤ 2 * c + 1 = omega (arith, power_at p (p - 1 + 1) (omega arith), pow-add 2 (p - 1) 1) in
      le_trans (pow_mono M) (subst (λ (v : ℕ). v ≤ (2 * c + 1) ^ d) (power_of_power 2 p d) (pow-le-pow_left a d))

  tie : num % u * 2 ≡ u → ⊥
  tie e =
      let a : 2 * num ≡ (2 * c + 1) * (den * 2 ^ k) = omega (arith, div-add-mod' num u) in
      let w : ℕ = (2 * c + 1) * 2 ^ k in
      let b : t * (2 * 2 ^ l) ≡ 2 * (w * 2 ^ g) * (2 * 2 ^ l) = omega (arith, ap (λ (i : ℕ). (2 * c + 1) * (i * 2 ^ k)) den_is) in
      let s : t ≡ 2 * (w * 2 ^ g) = eq_of_mul-eq-mul_right (2 * 2 ^ l) (mul-pos {m = 2} (omega arith) (pow_pos l)) t (2 * (w * 2 ^ g)) b in
      let o = (2 * c + 1) ^ d in
      let v : w * 2 ^ g ≡ (2 * c + 1) * 2 ^ (g + k) = omega (arith, ap (λ (i : ℕ). (2 * c + 1) * i) (pow-add 2 g k)) in
      let h : o * 2 ^ ((g + k) * d + l) ≡ n * 2 ^ l =
      ap (λ (i : ℕ). o * i) (pow-add 2 ((g + k) * d) l) ∙ sym (mul_assoc o (2 ^ ((g + k) * d)) (2 ^ l))
      ∙ ap (λ (i : ℕ). i * 2 ^ l) (ap (λ (i : ℕ). o * i) (sym (power_of_power 2 (g + k) d)) ∙ sym (mul-pow (2 * c + 1) (2 ^ (g + k)) d) ∙ ap (λ (i : ℕ). i ^ d) (sym v) ∙ R.same (w * 2 ^ g) s) in
      let q = X.0 in
      let j = X.1 in
      let i : n * 2 ^ l ≡ q * 2 ^ (j + (suc l + g) * d) =
      N ∙ ap (λ (y : ℕ). y * 2 ^ ((suc l + g) * d)) X.3 ∙ mul_assoc q (2 ^ j) (2 ^ ((suc l + g) * d)) ∙ ap (λ (y : ℕ). q * y) (sym (pow-add 2 j ((suc l + g) * d))) in
      apart o ((g + k) * d + l) q (j + (suc l + g) * d) (2 ^ m) (odd_power c d) (h ∙ i) X.2 (far j)

  pub is_nearest : Nearest d p l x (kept p num den * 2 ^ drop p num den)
  is_nearest = record {
    held = Rounding.r_held p num den P den_pos;
    lower = λ y H h. under (y + Rounding.r p num den P den_pos) (Rounding.lower p num den P den_pos tie y H h);
    upper = λ y H h. over (y + Rounding.r p num den P den_pos) (Rounding.upper p num den P den_pos tie y H h);
  }
