-- The greatest common divisor, by Euclid's way, and that a pair of numbers divided by theirs has the greatest common divisor 1.
use Rattle.std.specs.Prelude.{◌≡◌, ℕ, zero, suc, ◌*◌, ◌/◌, ◌%◌, ◌≤◌, ◌<◌}
use Rattle.std.proofs.Common.{sym, ap, subst, ◌∙◌, zero-le}
use Rattle.std.specs.Int.{◌∣◌}
use Rattle.std.proofs.Math.Nat as N

-- the second number falls with each step, so it bounds them
unfoldable pub gcd_in : ℕ → ℕ → ℕ → ℕ
gcd_in zero a b = a
gcd_in (suc f) a zero = a
gcd_in (suc f) a (suc b) = gcd_in f (suc b) (a % suc b)

unfoldable pub gcd : ℕ → ℕ → ℕ
unfolding gcd_in
gcd a b = gcd_in b a b

-- it divides both, and every number that divides both divides it
abbrev pub GcdIsGreatest : Type 0
GcdIsGreatest = (a b : ℕ) → (gcd a b ∣ a) × (gcd a b ∣ b) × ((k : ℕ) → k ∣ a → k ∣ b → k ∣ gcd a b)

-- ---- it divides both

divides_in : (f a b : ℕ) → b ≤ f → (gcd_in f a b ∣ a) × (gcd_in f a b ∣ b)
unfolding gcd_in
divides_in zero a b h = (N.dvd_refl a, subst (λ z. a ∣ z) (N.le_antisymm zero-le h) (N.dvd-zero a))
divides_in (suc f) a zero h = (N.dvd_refl a, N.dvd-zero a)
divides_in (suc f) a (suc b) h = both (divides_in f (suc b) (a % suc b) (N.le_of_suc-le-suc (N.le_trans (N.mod-lt a (N.zero-lt-suc b)) h)))
  where
    both : (gcd_in f (suc b) (a % suc b) ∣ suc b) × (gcd_in f (suc b) (a % suc b) ∣ a % suc b) → (gcd_in f (suc b) (a % suc b) ∣ a) × (gcd_in f (suc b) (a % suc b) ∣ suc b)
    both (p, q) = ((N.dvd-mod_iff _ p).0 q, p)

pub gcd_left : (a b : ℕ) → gcd a b ∣ a
unfolding gcd
gcd_left a b = (divides_in b a b (N.le_refl b)).0

pub gcd_right : (a b : ℕ) → gcd a b ∣ b
unfolding gcd
gcd_right a b = (divides_in b a b (N.le_refl b)).1

-- ---- and what divides both divides it

greatest_in : (f a b k : ℕ) → k ∣ a → k ∣ b → k ∣ gcd_in f a b
unfolding gcd_in
greatest_in zero a b k p q = p
greatest_in (suc f) a zero k p q = p
greatest_in (suc f) a (suc b) k p q = greatest_in f (suc b) (a % suc b) k q ((N.dvd-mod_iff k q).1 p)

pub gcd_greatest : (a b k : ℕ) → k ∣ a → k ∣ b → k ∣ gcd a b
unfolding gcd
gcd_greatest a b k p q = greatest_in b a b k p q

pub gcd_above : (a b : ℕ) → 0 < b → 0 < gcd a b
gcd_above a b h = N.pos_of_dvd_of_pos (gcd_right a b) h

-- a common factor comes out
pub gcd-scale : (a b k : ℕ) → 0 < k → gcd (a * k) (b * k) ≡ gcd a b * k
gcd-scale a b k h = N.dvd_antisymm into (gcd_greatest _ _ _ (N.mul-dvd-mul_right _ (gcd_left a b) k) (N.mul-dvd-mul_right _ (gcd_right a b) k))
  where
    g : ℕ
    g = gcd (a * k) (b * k)

    has : k ∣ g
    has = gcd_greatest _ _ k (N.dvd-mul_left k a) (N.dvd-mul_left k b)

    part : g / k * k ≡ g
    part = N.div-mul_cancel k has

    down : (c : ℕ) → g ∣ c * k → g / k ∣ c
    down c p = N.dvd_of_mul-dvd-mul_right (g / k) h (subst (λ z. z ∣ c * k) (sym part) p)

    into : g ∣ gcd a b * k
    into = subst (λ z. z ∣ gcd a b * k) part (N.mul-dvd-mul_right (g / k) (gcd_greatest a b (g / k) (down a (gcd_left _ _)) (down b (gcd_right _ _))) k)

-- divided by it, the two have 1
pub gcd_reduced : (a b : ℕ) → 0 < b → gcd (a / gcd a b) (b / gcd a b) ≡ 1
gcd_reduced a b h = N.eq_of_mul-eq-mul_right g (gcd_above a b h) _ 1
    (sym (gcd-scale (a / g) (b / g) g (gcd_above a b h)) ∙ ap₂' (N.div-mul_cancel g (gcd_left a b)) (N.div-mul_cancel g (gcd_right a b)) ∙ sym (N.one-mul g))
  where
    g : ℕ
    g = gcd a b

    ap₂' : {x y z w : ℕ} → x ≡ y → z ≡ w → gcd x z ≡ gcd y w
    ap₂' p q i = gcd (p i) (q i)

-- ---- products of numbers without a common factor

pub gcd_comm : (a b : ℕ) → gcd a b ≡ gcd b a
gcd_comm a b = N.dvd_antisymm (gcd_greatest b a (gcd a b) (gcd_right a b) (gcd_left a b)) (gcd_greatest a b (gcd b a) (gcd_right b a) (gcd_left b a))

-- k divides b c and has no factor in common with b, so it divides c
pub gcd_divides : (k b c : ℕ) → 0 < c → gcd k b ≡ 1 → k ∣ b * c → k ∣ c
gcd_divides k b c h g p = subst (λ z. k ∣ z) (gcd-scale k b c h ∙ ap (λ z. z * c) g ∙ N.one-mul c) (gcd_greatest (k * c) (b * c) k (N.dvd-mul_right k c) p)

pub gcd_one_mul : (a b c : ℕ) → gcd a b ≡ 1 → gcd a c ≡ 1 → gcd a (b * c) ≡ 1
gcd_one_mul a b zero p q = N.eq-one_of_dvd-one (N.dvd_trans (gcd a (b * 0)) (gcd_left a (b * 0)) (subst (λ z. a ∣ z) q (gcd_greatest a 0 a (N.dvd_refl a) (N.dvd-zero a))))
gcd_one_mul a b (suc c) p q = N.eq-one_of_dvd-one (subst (λ z. k ∣ z) q (gcd_greatest a (suc c) k (gcd_left a (b * suc c)) (gcd_divides k b (suc c) (N.zero-lt-suc c) apart (gcd_right a (b * suc c)))))
  where
    k : ℕ
    k = gcd a (b * suc c)

    apart : gcd k b ≡ 1
    apart = N.eq-one_of_dvd-one (subst (λ z. gcd k b ∣ z) p (gcd_greatest a b (gcd k b) (N.dvd_trans (gcd k b) (gcd_left k b) (gcd_left a (b * suc c))) (gcd_right k b)))
