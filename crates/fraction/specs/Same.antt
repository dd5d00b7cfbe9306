-- Tests of equality of fractions and of meanings.
use Rattle.std.specs.Prelude.{Bool, true, false, ◌&&◌, ◌==◌}
use Rattle.rational.specs.Rational.{Rational, num, den}
use Rattle.number.specs.Floats.{same_int, same_float}
use Rattle.number.specs.Meaning.{Meaning, lost, fraction, float}

-- fractions in lowest terms are equal when their two numbers are
abbrev pub same_rational : Rational → Rational → Bool
same_rational a b = same_int (num a) (num b) && den a == den b

abbrev pub same_meaning : Meaning → Meaning → Bool
same_meaning lost lost = true
same_meaning lost (fraction b) = false
same_meaning lost (float y) = false
same_meaning (fraction a) lost = false
same_meaning (fraction a) (fraction b) = same_rational a b
same_meaning (fraction a) (float y) = false
same_meaning (float x) lost = false
same_meaning (float x) (fraction b) = false
same_meaning (float x) (float y) = same_float x y
