-- Bit patterns of `f32`: the number that one says, its 24 digits, and the pattern of 24 digits. Assumes nothing.
use Rattle.std.proofs.Common.{◌≡◌, ℕ, zero, suc, ◌+◌, ◌-◌, ◌*◌, ◌/◌, ◌%◌, ◌^◌, ◌<◌, ◌≤◌, Bool, true, false, cond, not, T, eqb, leb, ℤ, sym, refl, ap, ◌∙◌, subst, inl, inr, le_trans, le_of_eq, lt_of_lt_of_le, lt_of_le_of_lt, mul-le-mul_right, mul_assoc, eq-zero-or-pos, le_antisymm, mul-lt-mul_of_pos_right, mul-pos, lt_of_not-le, not-le_of_lt, mul-div_cancel, arith, pow_pos, pow_mono, pow-add, le-ltb, lt-ltb, ne_eqb}
use lib.Count.{count_leading_zeros, leading_top}
use lib.Pow.{pow-lt}
use lib.Ieee.{Float, Format, nan, inf, fin, binary32, prec, low, hid, top, up, down, size, odd, units, fits, of_bits, to_bits, of_fields, nan_bits}
use lib.Ieee.Digits.{size-lt, size-le}
use lib.Ieee.Fits.{down_pos, odd-fits}
use lib.Ieee.Bits.{of_bits-to_bits, nan_bits_above}
use lib.Ieee.Exact.{HasValue, odd_sign, units_val}
use Rattle.roots.specs.Digits.{steps}
use Rattle.roots.proofs.Powers.{power_at}

-- ---- what a pattern says

pub steps_low : (b : ℕ) → b < 2 ^ 23 → steps b ≡ b
unfolding steps
steps_low b h = rw (lt-ltb b (2 ^ 23) h) refl

steps_high : (b : ℕ) → 2 ^ 23 ≤ b → steps b ≡ (2 ^ 23 + b % 2 ^ 23) * 2 ^ (b / 2 ^ 23 - 1)
unfolding steps
steps_high b h = rw (le-ltb b (2 ^ 23) h) refl

pub steps_pos : (b : ℕ) → 0 < b → 0 < steps b
steps_pos b p =
    elim (eq-zero-or-pos (2 ^ 23 - b)) [
      | inl z ↦ subst (λ (k : ℕ). 0 < k) (sym (steps_high b (omega arith))) (mul-pos (omega arith) (pow_pos (b / 2 ^ 23 - 1)))
      | inr q ↦ omega (arith, steps_low b (omega arith))
    ]

fields : (s : Bool) (x t b : ℕ) → x < 255 → t < 2 ^ 23 → b ≡ x * 2 ^ 23 + t → HasValue (of_fields binary32 s x t) s (steps b) (2 ^ 149)
unfolding of_fields
fields s zero t b X H e =
    let v : t * 2 ^ 0 ≡ steps b = omega (arith, steps_low b (omega arith)) in
    subst (λ (a : ℕ). HasValue (odd 24 s t 0 149) s a (2 ^ 149)) v (odd_sign 24 s t 0 149)
fields s (suc j) t b X H e =
    let p : t ≡ b % 2 ^ 23 = omega arith in
    let q : j ≡ b / 2 ^ 23 - 1 = omega arith in
    let v : (2 ^ 23 + t) * 2 ^ j ≡ steps b = (λ i. (2 ^ 23 + p i) * 2 ^ q i) ∙ sym (steps_high b (omega arith)) in
    subst (λ (k : Bool). HasValue (cond k (cond (eqb t 0) (inf s) nan) (odd 24 s (2 ^ 23 + t) j 149)) s (steps b) (2 ^ 149)) (sym (ne_eqb (suc j) 255 (omega arith)))
    (subst (λ (a : ℕ). HasValue (odd 24 s (2 ^ 23 + t) j 149) s a (2 ^ 149)) v (odd_sign 24 s (2 ^ 23 + t) j 149))

read : (b : ℕ) → b % 2 ^ 31 < 255 * 2 ^ 23 → HasValue (of_bits binary32 b) (leb (2 ^ 31) b) (steps (b % 2 ^ 31)) (2 ^ 149)
unfolding of_bits
read b h = fields (leb (2 ^ 31) b) (b % 2 ^ 31 / 2 ^ 23) (b % 2 ^ 23) (b % 2 ^ 31) (omega arith) (omega arith) (omega arith)

pub value_of : (s : Bool) (m b : ℕ) (e : ℤ) → T (fits binary32 (fin s m e)) → b ≡ to_bits binary32 (fin s m e) % 2 ^ 31 → b < 255 * 2 ^ 23 → m * up e * 2 ^ 149 ≡ steps b * down e
value_of s m b e f i h =
    let a = to_bits binary32 (fin s m e) in
    let v = read a (omega arith) in
    (subst (λ (y : Float). HasValue y (leb (2 ^ 31) a) (steps (a % 2 ^ 31)) (2 ^ 149)) (of_bits-to_bits binary32 (fin s m e) f) v).1 ∙ ap (λ (k : ℕ). steps k * down e) (sym i)

pub nan_bits_lem : to_bits binary32 nan % 2 ^ 31 ≡ 255 * 2 ^ 23 + 2 ^ 22
unfolding to_bits
nan_bits_lem = refl

pub inf_bits : (s : Bool) → to_bits binary32 (inf s) % 2 ^ 31 ≡ 255 * 2 ^ 23
unfolding to_bits
inf_bits true = refl
inf_bits false = refl

-- a field of all ones is no finite float's
high : (b : ℕ) (s : Bool) (m : ℕ) (e : ℤ) → 255 * 2 ^ 23 ≤ b % 2 ^ 31 → of_bits binary32 b ≡ fin s m e → ⊥
unfolding of_bits
high b s m e h p =
    let x : b % 2 ^ 31 / 2 ^ 23 ≡ 255 = omega arith in
    go (eqb (b % 2 ^ 23) 0) (ap (λ (k : ℕ). of_fields binary32 (leb (2 ^ 31) b) k (b % 2 ^ 23)) (sym x) ∙ p)
  where
    go : (t : Bool) → cond t (inf (leb (2 ^ 31) b)) nan ≡ fin s m e → ⊥
    go true q = let z : ◌≡◌ {A = ℕ} 0 1 = cc in omega arith
    go false q = let z : ◌≡◌ {A = ℕ} 0 1 = cc in omega arith

pub not_finite : (s : Bool) (m : ℕ) (e : ℤ) → T (fits binary32 (fin s m e)) → 255 * 2 ^ 23 ≤ to_bits binary32 (fin s m e) % 2 ^ 31 → ⊥
not_finite s m e f h = high (to_bits binary32 (fin s m e)) s m e h (of_bits-to_bits binary32 (fin s m e) f)

pub not_signed : (m : ℕ) (e : ℤ) → 2 ^ 31 ≤ to_bits binary32 (fin true m e)
unfolding to_bits
not_signed m e = go _ _
  where
    go : (v w : ℕ) → 2 ^ 31 ≤ 2 ^ 31 + v + w
    go v w = omega arith

-- ---- its 24 digits

abbrev pub Parts : ℕ → ℕ → ℕ → Type 0
Parts b m j = (2 ^ 23 ≤ m) × (m < 2 ^ 24) × (j < 278) × (m * 2 ^ j ≡ steps b * 2 ^ 24)

pub shift_in : (b : ℕ) → 0 < b → b < 2 ^ 23 → (9 ≤ count_leading_zeros 32 b) × (count_leading_zeros 32 b ≤ 31)
shift_in b p q =
    let t = leading_top 32 b p (omega arith) in
    let j : t.0 < 23 = lt_of_not-le (λ (g : 23 ≤ t.0). let m : 2 ^ 23 ≤ 2 ^ t.0 = pow_mono g in omega (arith, t.2)) in
    omega (arith, t.1)

pub lifted : (b d : ℕ) → 0 < b → b < 2 ^ 23 → d ≡ count_leading_zeros 32 b - 8 → Parts b ((b * 2 ^ d) % 2 ^ 32) (24 - d)
lifted b d p q e =
    let t = leading_top 32 b p (omega arith) in
    let j = t.0 in
    let s : j + d ≡ 23 = omega (arith, t.1, shift_in b p q) in
    let w : 2 ^ j * 2 ^ d ≡ 2 ^ 23 = sym (pow-add 2 j d) ∙ power_at (j + d) 23 s in
    let lo : 2 ^ 23 ≤ b * 2 ^ d = omega (arith, mul-le-mul_right (2 ^ d) t.2) in
    let up : b < 2 * 2 ^ j = omega (arith, t.3) in
    let hi : b * 2 ^ d < 2 ^ 24 = omega (arith, mul-lt-mul_of_pos_right up (pow_pos d)) in
    let m : (b * 2 ^ d) % 2 ^ 32 ≡ b * 2 ^ d = omega arith in
    let v : 2 ^ d * 2 ^ (24 - d) ≡ 2 ^ 24 = sym (pow-add 2 d (24 - d)) ∙ power_at (d + (24 - d)) 24 (omega arith) in (
      omega arith,
      omega arith,
      omega arith,
      ap (λ (k : ℕ). k * 2 ^ (24 - d)) m ∙ mul_assoc b (2 ^ d) (2 ^ (24 - d)) ∙ ap (λ (k : ℕ). b * k) v ∙ ap (λ (k : ℕ). k * 2 ^ 24) (sym (steps_low b q)),
    )

pub normal : (b : ℕ) → b < 255 * 2 ^ 23 → 2 ^ 23 ≤ b → Parts b (b % 2 ^ 23 + 2 ^ 23) (b / 2 ^ 23 + 23)
normal b l h =
    let x : b % 2 ^ 23 + 2 ^ 23 ≡ 2 ^ 23 + b % 2 ^ 23 = omega arith in
    let y : b / 2 ^ 23 + 23 ≡ b / 2 ^ 23 - 1 + 24 = omega arith in (
      omega arith,
      omega arith,
      omega arith,
      (λ i. x i * 2 ^ y i) ∙ ap (λ (k : ℕ). (2 ^ 23 + b % 2 ^ 23) * k) (pow-add 2 (b / 2 ^ 23 - 1) 24)
          ∙ sym (mul_assoc (2 ^ 23 + b % 2 ^ 23) (2 ^ (b / 2 ^ 23 - 1)) (2 ^ 24)) ∙ ap (λ (k : ℕ). k * 2 ^ 24) (sym (steps_high b h)),
    )

-- ---- the 53 digits of a whole number

pub whole_digits : (n d : ℕ) → 0 < n → n < 2 ^ 64 → d ≡ count_leading_zeros 64 n → (2 ^ 52 ≤ (n * 2 ^ d) % 2 ^ 64 / 2 ^ 11) × ((n * 2 ^ d) % 2 ^ 64 / 2 ^ 11 < 2 ^ 53)
whole_digits n d p h e =
    let t = leading_top 64 n p h in
    let j = t.0 in
    let w : 2 ^ j * 2 ^ d ≡ 2 ^ 63 = sym (pow-add 2 j d) ∙ power_at (j + d) 63 (omega (arith, t.1)) in
    let lo : 2 ^ 63 ≤ n * 2 ^ d = omega (arith, mul-le-mul_right (2 ^ d) t.2) in
    let up : n < 2 * 2 ^ j = omega (arith, t.3) in
    let hi : n * 2 ^ d < 2 ^ 64 = omega (arith, mul-lt-mul_of_pos_right up (pow_pos d)) in
    omega arith

-- ---- how many digits a number has

pub size_is : (n a : ℕ) → 2 ^ a ≤ n → n < 2 ^ suc a → size n ≡ suc a
size_is n a h l = le_antisymm (size-le n (suc a) l) (lt_of_not-le (λ (g : size n ≤ a). not-le_of_lt (lt_of_lt_of_le (size-lt n) (pow_mono g)) h))

-- ---- the pattern of m * 2 ^ k steps, for an m of 24 digits or 2 ^ 24

pub bits_of_value : (f : Format) (x : Float) (a : ℕ) → HasValue x false a (2 ^ low f) → to_bits f x ≡ (size a - prec f) * hid f + a / 2 ^ (size a - prec f)
unfolding to_bits
bits_of_value f nan a v = absurd v
bits_of_value f (inf t) a v = absurd v
bits_of_value f (fin t m e) a v =
    let n : m * up e * 2 ^ low f / down e ≡ a = ap (λ (k : ℕ). k / down e) v.1 ∙ mul-div_cancel a (down_pos e) in
    (λ i. cond (v.0 i) (top f) 0 + (size (n i) - prec f) * hid f + n i / 2 ^ (size (n i) - prec f)) ∙ ap (λ (k : ℕ). k + a / 2 ^ (size a - prec f)) (native.Mathlib.Nat.zero-add ((size a - prec f) * hid f))

digits_of : (m k : ℕ) → 2 ^ 23 ≤ m → m ≤ 2 ^ 24 → (size (m * 2 ^ k) - 24) * 2 ^ 23 + m * 2 ^ k / 2 ^ (size (m * 2 ^ k) - 24) ≡ k * 2 ^ 23 + m
digits_of m k lo hi =
    elim (eq-zero-or-pos (2 ^ 24 - m)) [
      | inl z ↦
          let a : m * 2 ^ k ≡ 2 ^ (24 + k) = ap (λ (x : ℕ). x * 2 ^ k) {x = m} {y = 2 ^ 24} (omega arith) ∙ sym (pow-add 2 24 k) in
          let s : size (m * 2 ^ k) ≡ suc (24 + k) = ap size a ∙ size_is (2 ^ (24 + k)) (24 + k) (native.Mathlib.Nat.le_refl (2 ^ (24 + k))) (pow-lt {i = 24 + k} {j = suc (24 + k)} (omega arith)) in
          let d : m * 2 ^ k ≡ 2 ^ 23 * 2 ^ (k + 1) = a ∙ power_at (24 + k) (23 + (k + 1)) (omega arith) ∙ pow-add 2 23 (k + 1) in
          from (k + 1) (omega arith) (ap (λ (x : ℕ). x / 2 ^ (k + 1)) d ∙ mul-div_cancel (2 ^ 23) (pow_pos (k + 1))) (omega arith)
      | inr z ↦
          let s : size (m * 2 ^ k) ≡ suc (23 + k) =
          size_is (m * 2 ^ k) (23 + k) (subst (λ (x : ℕ). x ≤ m * 2 ^ k) (sym (pow-add 2 23 k)) (mul-le-mul_right (2 ^ k) lo))
          (subst (λ (x : ℕ). m * 2 ^ k < x) (sym (power_at (suc (23 + k)) (24 + k) (omega arith) ∙ pow-add 2 24 k)) (mul-lt-mul_of_pos_right (omega arith) (pow_pos k))) in
          from k (omega arith) (mul-div_cancel m (pow_pos k)) refl
    ]
  where
    from : (g : ℕ) {q : ℕ} → size (m * 2 ^ k) - 24 ≡ g → m * 2 ^ k / 2 ^ g ≡ q → g * 2 ^ 23 + q ≡ k * 2 ^ 23 + m → (size (m * 2 ^ k) - 24) * 2 ^ 23 + m * 2 ^ k / 2 ^ (size (m * 2 ^ k) - 24) ≡ k * 2 ^ 23 + m
    from g s q e = (λ i. s i * 2 ^ 23 + m * 2 ^ k / 2 ^ s i) ∙ ap (λ (x : ℕ). g * 2 ^ 23 + x) q ∙ e

fitting : (m k : ℕ) → m ≤ 2 ^ 24 → m * 2 ^ k < 2 ^ 277 → T (fits binary32 (units binary32 false m k))
unfolding units
fitting m k hi room =
    subst (λ (b : Bool). T (fits binary32 (cond b (odd 25 false m k 149) (inf false)))) (sym (lt-ltb (m * 2 ^ k) (2 ^ 277) room))
    (odd-fits binary32 25 false m k (omega arith) hi room)

pub written : (m k : ℕ) → 2 ^ 23 ≤ m → m ≤ 2 ^ 24 → k < 253 → units binary32 false m k ≡ of_bits binary32 (k * 2 ^ 23 + m)
written m k lo hi l =
    let room : m * 2 ^ k < 2 ^ 277 = lt_of_le_of_lt (mul-le-mul_right (2 ^ k) hi) (lt_of_le_of_lt (le_of_eq (sym (pow-add 2 24 k))) (pow-lt {i = 24 + k} {j = 277} (omega arith))) in
    sym (ap (of_bits binary32) (sym (bits_of_value binary32 (units binary32 false m k) (m * 2 ^ k) (units_val binary32 false m k room) ∙ digits_of m k lo hi)) ∙ of_bits-to_bits binary32 (units binary32 false m k) (fitting m k hi room))

pub below_infinity : (n : ℕ) → n < 255 * 2 ^ 23 → T (not (nan_bits binary32 n))
below_infinity n h = subst (λ (b : Bool). T (not b)) (sym (nan_bits_above binary32 n)) (lib.Arith.le→nltb (255 * 2 ^ 23) (n % 2 ^ 31) (le_trans (native.Mathlib.Nat.mod-le n (2 ^ 31)) (native.Mathlib.Nat.le_of_lt h)))
