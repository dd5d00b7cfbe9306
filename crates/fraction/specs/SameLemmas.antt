-- The tests of equality decide it.
use Rattle.std.specs.Prelude.{◌≡◌, Decides, ◌==◌, refl}
use Rattle.std.proofs.Common.{ap}
use Rattle.std.proofs.lemmas.Bool.Decides.{Decides-eqb, Decides-and, Decides-like}
use Rattle.rational.specs.Rational.{Rational, num, den}
use Rattle.rational.proofs.Ratios.{same_parts}
use Rattle.number.specs.Floats.{same_int}
use Rattle.number.specs.Meaning.{Meaning, lost, fraction, float}
use Rattle.number.specs.SameFloats.{decides_int, decides_float_meaning}
use Rattle.fraction.specs.Same.{same_rational, same_meaning}

pub decides_rational : (a b : Rational) → Decides (same_rational a b) (a ≡ b)
decides_rational a b = Decides-like (same_rational a b) (λ h. same_parts h.0 h.1) (λ e. (ap num e, ap den e))
    (Decides-and (same_int (num a) (num b)) (den a == den b) (decides_int (num a) (num b)) (Decides-eqb (den a) (den b)))

pub decides_meaning : (m n : Meaning) → Decides (same_meaning m n) (m ≡ n)
decides_meaning lost lost = (λ _. refl, λ _. refl)
decides_meaning lost (fraction b) = (λ e. cc, λ e. cc)
decides_meaning lost (float y) = (λ e. cc, λ e. cc)
decides_meaning (fraction a) lost = (λ e. cc, λ e. cc)
decides_meaning (fraction a) (fraction b) = Decides-like (same_rational a b) (ap fraction) (λ e. cc) (decides_rational a b)
decides_meaning (fraction a) (float y) = (λ e. cc, λ e. cc)
decides_meaning (float x) lost = (λ e. cc, λ e. cc)
decides_meaning (float x) (fraction b) = (λ e. cc, λ e. cc)
decides_meaning (float x) (float y) = decides_float_meaning x y
