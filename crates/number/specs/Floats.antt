-- f32 as a number kind: IEEE 754's binary32, each operation rounded once, to nearest even.
use Rattle.std.specs.Prelude.{◌^◌, Bool, true, false, cond, not, ◌&&◌, ℤ, pos, negsuc, Some, None, Option, ◌==◌, nat_le, unsigned_abs, Float}
use Rattle.std.specs.Bool.{beq}
use Rattle.std.specs.Float.Ieee as Ieee
use Rattle.std.specs.Float.{nan, inf, fin, binary32, binary64}
use Rattle.std.specs.Float as Std
use Rattle.roots.specs.Roots.{cbrt}
use Rattle.number.specs.Decimals.{Decimal, plus, minus}
use Rattle.number.specs.Meaning.{Meaning, lost, fraction, float}
use Rattle.number.specs.Ops.{Ops, carried}

abbrev pub same_int : ℤ → ℤ → Bool
same_int (pos m) (pos n) = m == n
same_int (pos m) (negsuc n) = false
same_int (negsuc m) (pos n) = false
same_int (negsuc m) (negsuc n) = m == n

-- whether two floats are equal as data: all not-a-numbers are one, and the zeros are two
unfoldable pub same_float : Float → Float → Bool
same_float nan nan = true
same_float nan (inf t) = false
same_float nan (fin t n d) = false
same_float (inf s) nan = false
same_float (inf s) (inf t) = beq s t
same_float (inf s) (fin t n d) = false
same_float (fin s m e) nan = false
same_float (fin s m e) (inf t) = false
same_float (fin s m e) (fin t n d) = beq s t && (m == n && same_int e d)

-- the f32 nearest to the f64 nearest to a decimal
abbrev pub nearest_decimal : Decimal → Float
nearest_decimal (plus digits places) = Std.round_to_format binary32 (Ieee.round binary64 false digits (10 ^ places))
nearest_decimal (minus digits places) = Std.round_to_format binary32 (Ieee.round binary64 true digits (10 ^ places))

-- 1 − 2^-20 and 1 + 2^-20
abbrev pub lowest : Float
lowest = Ieee.round binary32 false 1048575 1048576

abbrev pub highest : Float
highest = Ieee.round binary32 false 1048577 1048576

-- a × a + b × b, so rounded, lies within 2^-20 of 1, ends included
abbrev pub accepted_direction : Float → Float → Bool
accepted_direction a b =
    let length² = Ieee.add binary32 (Ieee.mul binary32 a a) (Ieee.mul binary32 b b) in
    Ieee.le lowest length² && Ieee.le length² highest

-- halves away from 0; none if not finite or above 1,000,000 in size
abbrev pub nearest_whole : Float → Option ℤ
nearest_whole x =
    let n = Ieee.to_signed 31 (Std.float_round binary32 x) in
    cond (Std.float_is_finite x && nat_le (unsigned_abs n) 1000000) (Some n) None

abbrev pub float_ops : Ops Float
float_ops = record {
  add = Ieee.add binary32;
  sub = Ieee.sub binary32;
  mul = Ieee.mul binary32;
  div = Ieee.div binary32;
  neg = Ieee.neg;
  min = Std.float_min;
  max = Std.float_max;
  sqrt = Std.sqrt binary32;
  cbrt = cbrt binary32;
  whole = Ieee.of_int binary32;
  literal = nearest_decimal;
  mark = λ s x. x;
  lt = Ieee.lt;
  le = Ieee.le;
  eq = Ieee.eq;
  same = same_float;
  spoiled = λ x. not (Std.float_is_finite x);
  divisor = Std.is_normal binary32;
  direction = accepted_direction;
  nearest = nearest_whole;
}

-- the float of a meaning; no other meaning is a float's
abbrev pub to_float : Meaning → Float
to_float lost = nan
to_float (fraction x) = nan
to_float (float x) = x

abbrev pub float_arithmetic : Ops Meaning
float_arithmetic = carried float to_float float_ops
