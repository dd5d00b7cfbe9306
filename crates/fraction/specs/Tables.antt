-- The two numbers of a decimal in lowest terms, as they stand in the table: none where it exceeds the bound.
use Rattle.std.specs.Prelude.{ℕ, cond, ℤ, Some, None, Option}
use Rattle.rational.specs.Rational.{num, den}
use Rattle.number.specs.Decimals.{Decimal}
use Rattle.number.specs.Exactness.{decimal_value}
use Rattle.fraction.specs.Bounded.{fits}

abbrev pub lowest_terms_of : Decimal → Option (ℤ × ℕ)
lowest_terms_of d = cond (fits (decimal_value d)) (Some (num (decimal_value d), den (decimal_value d))) None
