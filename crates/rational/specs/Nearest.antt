-- The whole number nearest to a fraction, halves away from 0, and what makes it the nearest.
use Rattle.std.specs.Prelude.{◌≡◌, not, cond, ◌+◌, ◌*◌, ◌/◌, ℤ, pos, nat_abs, T}
use Rattle.rational.specs.Rational.{Rational, num, den, signed, sub, neg, lit, below}

-- a / d rounded is (2 a + d) / (2 d) rounded down
unfoldable pub nearest : Rational → ℤ
nearest x = signed (num x) ((2 * nat_abs (num x) + den x) / (2 * den x))

-- |x|
abbrev pub size : Rational → Rational
size x = cond (below x (lit (pos 0) 0)) (neg x) x

-- |x − n|
abbrev pub distance : Rational → ℤ → Rational
distance x n = size (sub x (lit n 0))

-- n is at most a half away from x, and farther from 0 than x where it is a half
pub record IsNearest (x : Rational) (n : ℤ) : Type 0 where
  pub near : T (not (below (lit (pos 5) 1) (distance x n)))
  pub half : distance x n ≡ lit (pos 5) 1 → T (below (size x) (size (lit n 0)))

-- `nearest x` is such a number, the only one, and no whole number is nearer to x
abbrev pub NearestIsNearest : Type 0
NearestIsNearest = (x : Rational) → IsNearest x (nearest x)
    × ((m : ℤ) → IsNearest x m → m ≡ nearest x)
    × ((m : ℤ) → T (not (below (distance x m) (distance x (nearest x)))))
