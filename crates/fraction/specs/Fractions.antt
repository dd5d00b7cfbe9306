-- What a `Fraction` means, and the fraction of a meaning.
use Rattle.std.specs.Prelude.{◌≡◌, ℕ, Bool, true, false, cond, ◌&&◌, ℤ, pos, neg_ℤ, ◌==◌, nat_le, nat_lt, unsigned_abs, refl}
use Rattle.std.proofs.Common.{lit<, lit≤}
use Rattle.std.proofs.lemmas.Bool.{ltb-true, leb-true, eqb-true, and_parts, false≢true}
use Rattle.rational.specs.Gcd.{gcd}
use Rattle.rational.specs.Rational.{Rational, ratio_of, num, den}
use Rattle.number.specs.Meaning.{Meaning, lost, fraction, float}
use Rattle.number.specs.Ops.{Ops, carried}
use Rattle.fraction.specs.Bound.{R}
use Rattle.fraction.specs.Bounded.{arithmetic}
use Rattle.fraction.specs.declared.fraction.Fraction.{Fraction}
use Rattle.fraction.specs.declared.fraction.PlainFraction.{PlainFraction}

-- the two numbers as they stand: their invariant makes them a fraction in lowest terms
abbrev pub value_of : Fraction → Rational
value_of q = record { ratio = ratio_of q.numerator q.denominator q.positive; lowest = q.lowest }

abbrev pub meaning_of : Fraction → Meaning
meaning_of q = cond q.lost lost (fraction (value_of q))

-- n, or −n where it is negative
abbrev pub with_sign : Bool → ℕ → ℤ
with_sign negative n = cond negative (neg_ℤ (pos n)) (pos n)

-- ---- the way back

pub gcd-one : gcd 0 1 ≡ 1
unfolding gcd
gcd-one = refl

abbrev pub lost_fraction : Fraction
lost_fraction = record { numerator = pos 0; denominator = 1; lost = true; positive = lit< tt; lower = lit≤ tt; upper = lit≤ tt; lowest = gcd-one; empty = λ _. (refl, refl) }

-- whether n and d are the two numbers of a fraction
abbrev pub proper : ℤ → ℕ → Bool
proper n d = nat_lt 0 d && (nat_le d R && (nat_le (unsigned_abs n) R && gcd (unsigned_abs n) d == 1))

-- the fraction with the two numbers n and d, lost where there is none
unfoldable pub made : (n : ℤ) (d : ℕ) (b : Bool) → proper n d ≡ b → Fraction
made n d true e =
    let p = and_parts (nat_lt 0 d) _ e in
    let q = and_parts (nat_le d R) _ p.1 in
    let r = and_parts (nat_le (unsigned_abs n) R) _ q.1 in
    record {
      numerator = n;
      denominator = d;
      lost = false;
      positive = ltb-true 0 d p.0;
      lower = leb-true d R q.0;
      upper = leb-true (unsigned_abs n) R r.0;
      lowest = eqb-true _ _ r.1;
      empty = λ h. absurd (false≢true h);
    }
made n d false e = lost_fraction

unfoldable pub pack : Meaning → Fraction
unfolding made
pack lost = lost_fraction
pack (float x) = lost_fraction
pack (fraction x) = made (num x) (den x) (proper (num x) (den x)) refl

abbrev pub ops : Ops Fraction
ops = carried pack meaning_of arithmetic

-- ---- plain forms

abbrev pub plain_form : Fraction → PlainFraction
plain_form q = record { numerator = q.numerator; denominator = q.denominator; lost = q.lost }

-- the fraction of a plain form, lost where the form is no fraction's
abbrev pub of_plain : PlainFraction → Fraction
of_plain p = cond p.lost lost_fraction (made p.numerator p.denominator (proper p.numerator p.denominator) refl)
