-- A fraction as text.
use Rattle.std.specs.Prelude.{ℕ, cond, List, ◌++◌, codes, decimal}
use Rattle.std.specs.Fmt.{signed_decimal}
use Rattle.fraction.specs.declared.fraction.Fraction.{Fraction}

-- n/d, or the word for a lost one
abbrev pub written : Fraction → List ℕ
written q = cond q.lost (codes "lost") (signed_decimal q.numerator ++ (codes "/" ++ decimal q.denominator))
