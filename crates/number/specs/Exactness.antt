-- The laws of an exact kind's arithmetic: it may lose a result, but answers no wrong one, and loses none that is small.
use Rattle.std.specs.Prelude.{◌≡◌, ◌≤◌, Bool, true, false, cond, not, ◌⊎◌, ℤ, pos, neg_ℤ, Some, None, Decides, Option, nat_le, unsigned_abs, Float}
use Rattle.rational.specs.Algebra.{zero_of}
use Rattle.rational.specs.Rational.{Rational, exact}
use Rattle.rational.specs.Nearest.{nearest}
use Rattle.rational.specs.Toe.{IsRoot}
use Rattle.number.specs.Decimals.{Decimal, plus, minus}
use Rattle.number.specs.Meaning.{Meaning, lost, fraction, float, OrLost}
use Rattle.number.specs.Ops.{Ops}
use Rattle.number.specs.declared.fault.Stage.{Stage}

-- numerator and denominator are at most a million in size
pub record Small (x : Rational) : Type 0 where
  pub numerator : unsigned_abs x.ratio.num ≤ 1000000
  pub denominator : x.ratio.den ≤ 1000000

-- the nearest whole number, or none above a million in size
abbrev pub nearest_of : Rational → Option ℤ
nearest_of x = cond (nat_le (unsigned_abs (nearest x)) 1000000) (Some (nearest x)) None

-- the value of a decimal
abbrev pub decimal_value : Decimal → Rational
decimal_value (plus digits places) = exact.lit (pos digits) places
decimal_value (minus digits places) = exact.lit (neg_ℤ (pos digits)) places

-- r · r · r ≡ x
abbrev pub IsCubeRoot : Rational → Rational → Type 0
IsCubeRoot x r = exact.mul (exact.mul r r) r ≡ x

-- An operation of two operands, where `defined` holds of them: a lost operand makes a lost result, a result that is not
-- lost is that of f, and one of small operands is not lost.
pub record Binary (op : Meaning → Meaning → Meaning) (defined : Rational → Rational → Type 0) (f : Rational → Rational → Rational) : Type 0 where
  pub lost_left : (m : Meaning) → op lost m ≡ lost
  pub lost_right : (m : Meaning) → op m lost ≡ lost
  pub value : (a b : Rational) → OrLost (op (fraction a) (fraction b)) (f a b)
  pub kept : (a b : Rational) → defined a b → Small a → Small b → op (fraction a) (fraction b) ≡ fraction (f a b)

abbrev pub always : Rational → Rational → Type 0
always a b = Unit {0}

abbrev pub nonzero : Rational → Rational → Type 0
nonzero a b = ¬ (b ≡ zero_of exact)

-- A root: lost at lost; a result that is not lost is a root; a root of a small operand is not lost.
pub record Radical (root : Meaning → Meaning) (IsRootOf : Rational → Rational → Type 0) : Type 0 where
  pub lost_operand : root lost ≡ lost
  pub value : (a : Rational) → (root (fraction a) ≡ lost) ⊎ ((r : Rational) × (root (fraction a) ≡ fraction r) × IsRootOf a r)
  pub kept : (a r : Rational) → IsRootOf a r → Small a → root (fraction a) ≡ fraction r

-- A constant is lost or its own value, and not lost where that is small.
pub record Constant (m : Meaning) (x : Rational) : Type 0 where
  pub value : OrLost m x
  pub kept : Small x → m ≡ fraction x

-- A comparison is false at a lost operand, and else that of the fractions.
pub record Comparison (test : Meaning → Meaning → Bool) (f : Rational → Rational → Bool) : Type 0 where
  pub lost_left : (m : Meaning) → test lost m ≡ false
  pub lost_right : (m : Meaning) → test m lost ≡ false
  pub value : (a b : Rational) → test (fraction a) (fraction b) ≡ f a b

pub record Exactness (o : Ops Meaning) : Type 0 where
  pub add : Binary o.add always exact.add
  pub sub : Binary o.sub always exact.sub
  pub mul : Binary o.mul always exact.mul
  pub div : Binary o.div nonzero exact.div
  pub div_zero : (m : Meaning) → o.div m (fraction (zero_of exact)) ≡ lost
  pub neg_lost : o.neg lost ≡ lost
  pub neg : (a : Rational) → Constant (o.neg (fraction a)) (exact.neg a)
  pub min : Binary o.min always (λ a b. cond (exact.below b a) b a)
  pub max : Binary o.max always (λ a b. cond (exact.below a b) b a)
  pub sqrt : Radical o.sqrt (IsRoot exact)
  pub cbrt : Radical o.cbrt IsCubeRoot
  pub whole : (z : ℤ) → Constant (o.whole z) (exact.lit z 0)
  pub literal : (d : Decimal) → Constant (o.literal d) (decimal_value d)
  pub mark : (s : Stage) (m : Meaning) → o.mark s m ≡ m
  pub lt : Comparison o.lt exact.below
  pub le : Comparison o.le (λ a b. not (exact.below b a))
  pub eq_lost_left : (m : Meaning) → o.eq lost m ≡ false
  pub eq_lost_right : (m : Meaning) → o.eq m lost ≡ false
  pub eq : (a b : Rational) → Decides (o.eq (fraction a) (fraction b)) (a ≡ b)
  pub same : (m n : Meaning) → Decides (o.same m n) (m ≡ n)
  pub spoiled_lost : o.spoiled lost ≡ true
  pub spoiled : (a : Rational) → o.spoiled (fraction a) ≡ false
  pub spoiled_float : (x : Float) → o.spoiled (float x) ≡ true
  pub divisor_lost : o.divisor lost ≡ false
  pub divisor : (a : Rational) → Decides (o.divisor (fraction a)) (¬ (a ≡ zero_of exact))
  pub direction : (m n : Meaning) → Decides (o.direction m n) (o.add (o.mul m m) (o.mul n n) ≡ fraction (exact.lit (pos 1) 0))
  pub nearest_lost : o.nearest lost ≡ None
  pub nearest : (a : Rational) → o.nearest (fraction a) ≡ nearest_of a
