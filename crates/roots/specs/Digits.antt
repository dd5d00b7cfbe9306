-- What the value of a root is made of: digits kept and dropped, whole parts of roots, bit patterns. Assumes nothing.
use Rattle.std.specs.Prelude.{ℕ, suc, ◌+◌, ◌-◌, ◌*◌, ◌/◌, ◌%◌, ◌^◌, Bool, cond, ◌==◌, nat_le, nat_lt, Float}
use Rattle.std.specs.Float.{Format}
use Rattle.std.specs.Float.Ieee.{low, size, units}
use Rattle.std.specs.Float.Ieee.Order.{drop, kept}

-- the value with p significant digits that is nearest to num / den: at the format's own p this is `round`
unfoldable pub rounded : ℕ → Format → Bool → ℕ → ℕ → Float
rounded p f s num den = units f s (kept p (num * 2 ^ low f) den) (drop p (num * 2 ^ low f) den)

-- the whole part of the root of degree d of an n below 2 ^ k
unfoldable pub root_below : ℕ → ℕ → ℕ → ℕ
root_below d ℕ.zero n = 0
root_below d (suc k) n = let r = root_below d k (n / 2 ^ d) in cond (nat_le ((2 * r + 1) ^ d) n) (2 * r + 1) (2 * r)

-- twice the root of n where it is whole, and else the odd number between twice its two neighbours
unfoldable pub root_twice : ℕ → ℕ → ℕ
root_twice d n = let r = root_below d (size n) n in 2 * r + cond (r ^ d == n) 0 1

-- how many times 2 ^ -149 the `f32` of pattern b is, for a b below infinity's
unfoldable pub steps : ℕ → ℕ
steps b = cond (nat_lt b (2 ^ 23)) b ((2 ^ 23 + b % 2 ^ 23) * 2 ^ (b / 2 ^ 23 - 1))
