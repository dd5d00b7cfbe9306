-- Powers, and the whole part of a root of any degree. Assumes nothing.
use Rattle.std.proofs.Common.{◌≡◌, ℕ, zero, suc, ◌+◌, ◌*◌, ◌/◌, ◌%◌, ◌^◌, ◌<◌, ◌≤◌, Bool, true, false, cond, eqb, leb, sym, refl, ap, ◌∙◌, subst, le_trans, le_of_eq, lt_of_lt_of_le, mul_comm, div-lt_iff_lt-mul, mul-le-mul_left, one-mul, pow-suc, le-div_iff_mul-le, arith, pow_pos, pow_mono, pow-add, eqb-true, leb-false, leb-true}
use Rattle.std.proofs.lemmas.Nat.{mul-pow}
use native.Mathlib.Nat.{pow-zero, pow-le-pow_left, pow-lt-pow_left}
use borrow.Author.Tests.{eqb-false}
use lib.Arith.{lt_of_le-ne}
use lib.Ieee.{size}
use lib.Ieee.Digits.{size-lt}
use Rattle.roots.specs.Digits.{root_below, root_twice}

pub power_at : (a b : ℕ) → a ≡ b → 2 ^ a ≡ 2 ^ b
power_at a b e = ap (λ (k : ℕ). 2 ^ k) e

pub square : (s : ℕ) → s ^ 2 ≡ s * s
square s = pow-suc s 1 ∙ ap (λ (x : ℕ). x * s) (pow-suc s 0 ∙ ap (λ (x : ℕ). x * s) (pow-zero s) ∙ one-mul s)

pub cube : (s : ℕ) → s ^ 3 ≡ s * s * s
cube s = pow-suc s 2 ∙ ap (λ (x : ℕ). x * s) (square s)

pub power_of_power : (a k d : ℕ) → (a ^ k) ^ d ≡ a ^ (k * d)
power_of_power a k zero = pow-zero (a ^ k) ∙ sym (ap (λ (x : ℕ). a ^ x) {x = k * 0} {y = 0} (omega arith) ∙ pow-zero a)
power_of_power a k (suc d) =
    pow-suc (a ^ k) d ∙ ap (λ (x : ℕ). x * a ^ k) (power_of_power a k d) ∙ sym (pow-add a (k * d) k) ∙ ap (λ (x : ℕ). a ^ x) {x = k * d + k} {y = k * suc d} (omega arith)

zero_power : (d : ℕ) → 0 < d → 0 ^ d ≡ 0
zero_power zero h = absurd (omega arith)
zero_power (suc d) h = pow-suc 0 d ∙ native.Mathlib.Nat.mul-zero (0 ^ d)

-- ---- the whole part of a root

abbrev pub Whole : ℕ → ℕ → ℕ → Type 0
Whole d s n = (s ^ d ≤ n) × (n < (s + 1) ^ d)

twice : (r d : ℕ) → (2 * r) ^ d ≡ r ^ d * 2 ^ d
twice r d = mul-pow 2 r d ∙ mul_comm (2 ^ d) (r ^ d)

digit : (d r n : ℕ) (b : Bool) → Whole d r (n / 2 ^ d) → leb ((2 * r + 1) ^ d) n ≡ b → Whole d (cond b (2 * r + 1) (2 * r)) n
digit d r n true h e =
    let two : 2 * r + 1 + 1 ≡ 2 * (r + 1) = omega arith in
    (leb-true _ _ e, subst (λ (x : ℕ). n < x) (sym (ap (λ (x : ℕ). x ^ d) two ∙ twice (r + 1) d)) ((div-lt_iff_lt-mul (pow_pos d)).0 h.1))
digit d r n false h e = (le_trans (le_of_eq (twice r d)) ((le-div_iff_mul-le (pow_pos d)).0 h.0), leb-false _ _ e)

shorter : (d k n : ℕ) → 0 < d → n < 2 ^ suc k → n / 2 ^ d < 2 ^ k
shorter d k n D h =
    let two : 2 ^ 1 ≤ 2 ^ d = pow_mono {i = 1} {j = d} D in
    (div-lt_iff_lt-mul (pow_pos d)).1 (lt_of_lt_of_le h (le_trans (le_of_eq (pow-suc 2 k)) (mul-le-mul_left (2 ^ k) two)))

below : (d k n : ℕ) → 0 < d → n < 2 ^ k → Whole d (root_below d k n) n
unfolding root_below
below d zero n D h =
    let z : n ≡ 0 = omega arith in
    (le_of_eq (zero_power d D ∙ sym z), subst (λ (x : ℕ). x < 1 ^ d) (sym z) (native.Mathlib.Nat.one-le-pow d 1 (omega arith)))
below d (suc k) n D h = digit d (root_below d k (n / 2 ^ d)) n _ (below d k (n / 2 ^ d) D (shorter d k n D h)) refl

-- ---- t is twice the root of n as far as even numbers tell

pub record Twice (d n t : ℕ) : Type 0 where
  pub less : (w : ℕ) → 2 * w < t → w ^ d < n
  pub more : (w : ℕ) → t < 2 * w → n < w ^ d
  pub same : (w : ℕ) → t ≡ 2 * w → w ^ d ≡ n

power_less : (d v w : ℕ) → 0 < d → v < w → v ^ d < w ^ d
power_less d v w D h = pow-lt-pow_left {n = d} h (λ (z : d ≡ 0). omega arith)

-- s is the whole part, and b tells whether it is the root
pub twice_of_whole : (d s n : ℕ) (b : Bool) → 0 < d → Whole d s n → eqb (s ^ d) n ≡ b → Twice d n (2 * s + cond b 0 1)
twice_of_whole d s n true D h e =
    let r : s ^ d ≡ n = eqb-true _ _ e in record {
      less = λ w l. omega (arith, power_less d w s D (omega arith));
      more = λ w l. omega (arith, power_less d s w D (omega arith));
      same = λ w l. ap (λ (x : ℕ). x ^ d) {x = w} {y = s} (omega arith) ∙ r;
    }
twice_of_whole d s n false D h e =
    let r : s ^ d < n = lt_of_le-ne h.0 (eqb-false _ _ e) in record {
      less = λ w l. let i : w ≤ s = omega arith in omega (arith, pow-le-pow_left i d);
      more = λ w l. let i : s + 1 ≤ w = omega arith in omega (arith, pow-le-pow_left i d, h.1);
      same = λ w l. absurd (omega arith);
    }

pub root_twice_lem : (d n : ℕ) → 0 < d → Twice d n (root_twice d n)
unfolding root_twice
root_twice_lem d n D = twice_of_whole d (root_below d (size n) n) n _ D (below d (size n) n D (size-lt n)) refl

-- ---- powers of odd numbers are odd

pub odd_power : (c d : ℕ) → (2 * c + 1) ^ d % 2 ≡ 1
odd_power c zero = ap (λ (x : ℕ). x % 2) (pow-zero (2 * c + 1))
odd_power c (suc d) = ap (λ (x : ℕ). x % 2) (pow-suc (2 * c + 1) d) ∙ step ((2 * c + 1) ^ d) (odd_power c d)
  where
    step : (x : ℕ) → x % 2 ≡ 1 → x * (2 * c + 1) % 2 ≡ 1
    step x h = let e : x * (2 * c + 1) ≡ 2 * (x * c) + x = omega arith in omega arith
