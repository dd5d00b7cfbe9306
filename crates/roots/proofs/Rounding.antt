-- `kept` and `drop`, by which `round` works, give the nearest number of p significant digits. Assumes nothing.
use Rattle.std.proofs.Common.{◌≡◌, ℕ, ◌+◌, ◌-◌, ◌*◌, ◌/◌, ◌%◌, ◌^◌, ◌<◌, ◌≤◌, not, T, ◌⊎◌, sym, refl, ap, ◌∙◌, subst, inl, inr, le_trans, le_of_eq, mul-le-mul_right, mod-lt, mul_assoc, eq-zero-or-pos, lt_of_mul-lt-mul_right, mul-lt-mul_of_pos_right, mul-pos, lt_of_not-le, div-add-mod', le-div_iff_mul-le, arith, eqb→eq, leb→le, pow_pos, pow_mono, pow-add}
use Prim.Native.Nat.{compare, Ordering}
use native.Mathlib.Nat.{div-div-eq-div-mul}
use lib.Dec.{is_le, compare_is_eq, nleb→lt}
use lib.Ieee.{size, nearest}
use lib.Ieee.Digits.{size_reaches}
use lib.Ieee.Fits.{kept-lt}
use lib.Ieee.Nearest.{closest}
use lib.Ieee.Order.{drop, kept}
use Rattle.roots.specs.Roots.{Held}
use Rattle.roots.proofs.Powers.{power_at}

-- ---- to the nearest whole number

abbrev pub Near : ℕ → ℕ → ℕ → ℕ → Type 0
Near q a r u = ((a ≡ q) × (r * 2 ≤ u)) ⊎ ((a ≡ q + 1) × (u ≤ r * 2))

pub near : (n u : ℕ) → Near (n / u) (closest n u) (n % u) u
near n u = go (compare (n % u * 2) u) (leb→le (n % u * 2) u) (nleb→lt (n % u * 2) u) (eqb→eq (n % u * 2) u)
  where
    go : (o : Ordering) → (T (is_le o) → n % u * 2 ≤ u) → (T (not (is_le o)) → u < n % u * 2) → (T (compare_is_eq o) → n % u * 2 ≡ u) → Near (n / u) (nearest (n / u) o) (n % u) u
    go Ordering.lt h k e = inl (refl, h tt)
    go Ordering.eq h k e =
        elim (eq-zero-or-pos (n / u % 2)) [
          | inl z ↦ inl (omega arith, h tt)
          | inr p ↦ inr (omega arith, le_of_eq (sym (e tt)))
        ]
    go Ordering.gt h k e = inr (omega arith, let l = k tt in omega arith)

-- ---- from a number of at least p digits, times 2 ^ k, the next one with p significant digits is 2 ^ k away

gap : (p k c y : ℕ) → 0 < p → (0 < k → 2 ^ (p - 1) ≤ c) → Held p y → c * 2 ^ k < y → (c + 1) * 2 ^ k ≤ y
gap p k c y P C (q, j, Q, e) h =
    elim (eq-zero-or-pos (k - j)) [
      | inl z ↦
          let v : y ≡ q * 2 ^ (j - k) * 2 ^ k = e ∙ ap (λ (x : ℕ). q * x) (power_at j (j - k + k) (omega arith) ∙ pow-add 2 (j - k) k) ∙ sym (mul_assoc q (2 ^ (j - k)) (2 ^ k)) in
          let l : c < q * 2 ^ (j - k) = lt_of_mul-lt-mul_right (2 ^ k) (omega arith) in
          let m : (c + 1) * 2 ^ k ≤ q * 2 ^ (j - k) * 2 ^ k = mul-le-mul_right (2 ^ k) (omega arith) in
          omega arith
      | inr g ↦
          let a : 2 ^ (p - 1) * 2 ^ k ≤ c * 2 ^ k = mul-le-mul_right (2 ^ k) (C (omega arith)) in
          let b : q * 2 ^ j < 2 ^ p * 2 ^ j = mul-lt-mul_of_pos_right Q (pow_pos j) in
          let d : 2 ^ (p + j) ≤ 2 ^ (p - 1 + k) = pow_mono {i = p + j} {j = p - 1 + k} (omega arith) in
          absurd (omega (arith, pow-add 2 p j, pow-add 2 (p - 1) k))
    ]

-- ---- n / den with p significant digits

module _ (p n den : ℕ) (P : 0 < p) (D : 0 < den) where
  abbrev pub k : ℕ
  k = drop p n den

  abbrev pub u : ℕ
  u = den * 2 ^ k

  abbrev pub c : ℕ
  c = n / u

  abbrev pub r : ℕ
  r = kept p n den * 2 ^ k

  pub full : 0 < k → 2 ^ (p - 1) ≤ c
  full K =
      let w = n / den in
      let a : 2 ^ (p - 1) * 2 ^ k ≤ w = le_trans (le_of_eq (sym (pow-add 2 (p - 1) k))) (size_reaches w (p - 1 + k) (all_in_use (size w) K)) in
      subst (λ (x : ℕ). 2 ^ (p - 1) ≤ x) (div-div-eq-div-mul n den (2 ^ k)) ((le-div_iff_mul-le (pow_pos k)).1 a)
    where
      all_in_use : (z : ℕ) → 0 < z - p → p - 1 + (z - p) < z
      all_in_use z h = omega arith

  short : c < 2 ^ p
  short = subst (λ (x : ℕ). x < 2 ^ p) (div-div-eq-div-mul n den (2 ^ k)) (kept-lt p (n / den))

  split : c * u + n % u ≡ n
  split = div-add-mod' n u

  pub r_held : Held p r
  r_held =
      elim (near n u) [
        | inl h ↦ (c, k, short, ap (λ (x : ℕ). x * 2 ^ k) h.0)
        | inr h ↦ up (ap (λ (x : ℕ). x * 2 ^ k) h.0)
      ]
    where
      up : r ≡ (c + 1) * 2 ^ k → Held p r
      up e =
          elim (eq-zero-or-pos (2 ^ p - (c + 1))) [
            | inl z ↦
                let t : c + 1 ≡ 2 ^ (p - 1) * 2 = let s = short in omega (arith, power_at p (p - 1 + 1) (omega arith), pow-add 2 (p - 1) 1) in
                (2 ^ (p - 1), k + 1, lib.Pow.pow-lt {i = p - 1} {j = p} (omega arith), e ∙ ap (λ (x : ℕ). x * 2 ^ k) t ∙ regroup (2 ^ (p - 1)) ∙ ap (λ (x : ℕ). 2 ^ (p - 1) * x) (sym (pow-add 2 k 1)))
            | inr z ↦ (c + 1, k, omega arith, e)
          ]
        where
          regroup : (x : ℕ) → x * 2 * 2 ^ k ≡ x * (2 ^ k * 2)
          regroup x = omega arith

  -- where n / den is no tie, no other number of p significant digits is as near to it
  module _ (tie : n % u * 2 ≡ u → ⊥) where
    -- the middle of a lower y and r is below n / den
    pub lower : (y : ℕ) → Held p y → y < r → (y + r) * den < 2 * n
    lower y H h =
        elim (near n u) [
          | inl g ↦
              let e : r ≡ c * 2 ^ k = ap (λ (x : ℕ). x * 2 ^ k) g.0 in
              let a : (y + r) * den < c * 2 ^ k * 2 * den = mul-lt-mul_of_pos_right (omega arith) D in
              omega (arith, split)
          | inr g ↦
              let e : r ≡ (c + 1) * 2 ^ k = ap (λ (x : ℕ). x * 2 ^ k) g.0 in
              let b : y < c * 2 ^ k + 1 = lt_of_not-le (λ (l : c * 2 ^ k + 1 ≤ y). let i = gap p k c y P full H (omega arith) in omega arith) in
              let a : (y + r) * den ≤ (2 * c + 1) * 2 ^ k * den = mul-le-mul_right den (omega arith) in
              let t : u < n % u * 2 = lib.Arith.lt_of_le-ne g.1 (λ (z : u ≡ n % u * 2). tie (sym z)) in
              omega (arith, split)
        ]

    pub upper : (y : ℕ) → Held p y → r < y → 2 * n < (y + r) * den
    upper y H h =
        elim (near n u) [
          | inl g ↦
              let e : r ≡ c * 2 ^ k = ap (λ (x : ℕ). x * 2 ^ k) g.0 in
              let b : (c + 1) * 2 ^ k ≤ y = gap p k c y P full H (omega arith) in
              let a : (2 * c + 1) * 2 ^ k * den ≤ (y + r) * den = mul-le-mul_right den (omega arith) in
              let t : n % u * 2 < u = lib.Arith.lt_of_le-ne g.1 tie in
              omega (arith, split)
          | inr g ↦
              let e : r ≡ (c + 1) * 2 ^ k = ap (λ (x : ℕ). x * 2 ^ k) g.0 in
              let a : (c + 1) * 2 ^ k * 2 * den < (y + r) * den = mul-lt-mul_of_pos_right (omega arith) D in
              let t : n % u < u = mod-lt n (mul-pos D (pow_pos k)) in
              omega (arith, split)
        ]
