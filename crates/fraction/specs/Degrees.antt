-- Roots of whole numbers by degree.
use Rattle.std.specs.Prelude.{ℕ, ◌+◌, ◌^◌, ◌<◌, ◌≤◌, Option}
use Rattle.std.specs.Bool.{then_some}
use Rattle.fraction.specs.Bounded.{is_power, whole_root}

-- s is the whole part of the root of degree k of n
abbrev pub IsWholeRoot : ℕ → ℕ → ℕ → Type 0
IsWholeRoot k s n = (s ^ k ≤ n) × (n < (s + 1) ^ k)

-- the root of degree k of n, where n has one
abbrev pub exact_root : ℕ → ℕ → Option ℕ
exact_root k n = then_some (is_power k n) (whole_root k n)
