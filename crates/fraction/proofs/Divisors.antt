-- The steps of Euclid's way.
use Rattle.std.proofs.Common.{◌≡◌, ℕ, ◌%◌, ◌<◌, refl}
use native.Mathlib.Nat as N
use Rattle.rational.specs.Gcd.{gcd, gcd_left, gcd_right, gcd_greatest}

pub gcd-zero : (a : ℕ) → gcd a 0 ≡ a
unfolding gcd
gcd-zero a = refl

pub gcd-step : (a b : ℕ) → 0 < b → gcd a b ≡ gcd b (a % b)
gcd-step a b h = N.dvd_antisymm
    (gcd_greatest b (a % b) (gcd a b) (gcd_right a b) ((N.dvd-mod_iff (gcd a b) (gcd_right a b)).1 (gcd_left a b)))
    (gcd_greatest a b (gcd b (a % b)) ((N.dvd-mod_iff (gcd b (a % b)) (gcd_left b (a % b))).0 (gcd_right b (a % b))) (gcd_left b (a % b)))
