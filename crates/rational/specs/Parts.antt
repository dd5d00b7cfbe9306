-- The operations of fractions by the numerators and denominators alone, in the forms that keep the numbers small: a sum over the least common
-- denominator, a product with what cancels crosswise taken out first, roots of the two numbers, and the order of the cross products.
use Rattle.std.specs.Prelude.{◌≡◌, ◌↔◌, ℕ, ◌*◌, ◌/◌, ◌≤◌, ◌<◌, T, ℤ, pos, neg_ℤ, nat_abs, ◌+ℤ◌, ◌*ℤ◌}
use Rattle.std.specs.Int.{◌∣◌}
use Rattle.std.specs.Int.Signed.{lt_z, non_neg}
use Rattle.rational.specs.Gcd.{gcd}
use Rattle.rational.specs.Rational.{Ratio, Rational, num, den, ratio_of, signed, part, reduce, lit, add, sub, neg, mul, div, below, reciprocal, exact}
use Rattle.rational.specs.Toe.{IsRoot}

-- the fraction a is n / d in lowest terms
abbrev pub Is : Rational → ℤ → ℕ → Type 0
Is a n d = (num a ≡ n) × (den a ≡ d)

-- ---- lowest terms

-- they have the ratio's value, and are no larger than its numbers
abbrev pub LowestTerms : Type 0
LowestTerms = (x : Ratio) → (num (reduce x) *ℤ pos x.den ≡ x.num *ℤ pos (den (reduce x))) × (nat_abs (num (reduce x)) ≤ nat_abs x.num) × (den (reduce x) ≤ x.den)

abbrev pub EqualityByParts : Type 0
EqualityByParts = (a b : Rational) → (a ≡ b) ↔ Is a (num b) (den b)

abbrev pub EqualityByValue : Type 0
EqualityByValue = (a b : Rational) → (a ≡ b) ↔ (num a *ℤ pos (den b) ≡ num b *ℤ pos (den a))

abbrev pub OrderByParts : Type 0
OrderByParts = (a b : Rational) → below a b ≡ lt_z (num a *ℤ pos (den b)) (num b *ℤ pos (den a))

abbrev pub WholeByParts : Type 0
WholeByParts = (z : ℤ) → Is (lit z 0) z 1

abbrev pub ZeroByParts : Type 0
ZeroByParts = (a : Rational) → (a ≡ lit (pos 0) 0) ↔ (num a ≡ pos 0)

-- divisors of the two numbers have no factor in common
abbrev pub DivisorsApart : Type 0
DivisorsApart = (x : Rational) (m e : ℕ) → m ∣ nat_abs (num x) → e ∣ den x → gcd m e ≡ 1

-- ---- sums

-- what the denominators have in common
abbrev pub shared : Rational → Rational → ℕ
shared a b = gcd (den a) (den b)

-- their least common multiple
abbrev pub multiple : Rational → Rational → ℕ
multiple a b = den a * (den b / shared a b)

abbrev pub SumByParts : Type 0
SumByParts = (a b : Rational) (h : 0 < multiple a b)
    → reduce (ratio_of (num a *ℤ pos (den b / shared a b) +ℤ num b *ℤ pos (den a / shared a b)) (multiple a b) h) ≡ add a b

abbrev pub DifferenceByParts : Type 0
DifferenceByParts = (a b : Rational) (h : 0 < multiple a b)
    → reduce (ratio_of (num a *ℤ pos (den b / shared a b) +ℤ neg_ℤ (num b) *ℤ pos (den a / shared a b)) (multiple a b) h) ≡ sub a b

abbrev pub NegativeByParts : Type 0
NegativeByParts = (a : Rational) → Is (neg a) (neg_ℤ (num a)) (den a)

-- ---- products and quotients

-- what the numerator of a and the denominator of b have in common
abbrev pub crosswise : Rational → Rational → ℕ
crosswise a b = gcd (nat_abs (num a)) (den b)

abbrev pub ProductByParts : Type 0
ProductByParts = (a b : Rational) → Is (mul a b) (part (num a) (crosswise a b) *ℤ part (num b) (crosswise b a)) (den a / crosswise b a * (den b / crosswise a b))

abbrev pub ReciprocalByParts : Type 0
ReciprocalByParts = (b : Rational) → ¬ (num b ≡ pos 0) → Is (reciprocal b) (signed (num b) (den b)) (nat_abs (num b))

abbrev pub QuotientByReciprocal : Type 0
QuotientByReciprocal = (a b : Rational) → div a b ≡ mul a (reciprocal b)

-- what the two numerators have in common
abbrev pub upper : Rational → Rational → ℕ
upper a b = gcd (nat_abs (num a)) (nat_abs (num b))

abbrev pub QuotientByParts : Type 0
QuotientByParts = (a b : Rational) → ¬ (num b ≡ pos 0)
    → Is (div a b) (part (num a) (upper a b) *ℤ signed (num b) (den b / shared b a)) (den a / shared b a * (nat_abs (num b) / upper a b))

-- ---- roots

-- r is the square root of x exactly when its numbers are the roots of those of x; so for the cube root
abbrev pub SquareRootByParts : Type 0
SquareRootByParts = (x r : Rational) → IsRoot exact x r ↔ (T (non_neg (num r)) × Is x (num r *ℤ num r) (den r * den r))

abbrev pub CubeRootByParts : Type 0
CubeRootByParts = (x r : Rational) → (mul (mul r r) r ≡ x) ↔ Is x (num r *ℤ num r *ℤ num r) (den r * den r * den r)

-- and where the numbers of x have roots, these are in lowest terms: x has the root m / e
abbrev pub SquareRootFromParts : Type 0
SquareRootFromParts = (x : Rational) (m e : ℕ) → Is x (pos (m * m)) (e * e) → (r : Rational) × Is r (pos m) e × IsRoot exact x r

abbrev pub CubeRootFromParts : Type 0
CubeRootFromParts = (x : Rational) (m : ℤ) (e : ℕ) → Is x (m *ℤ m *ℤ m) (e * e * e) → (r : Rational) × Is r m e × (mul (mul r r) r ≡ x)

pub record PartsLaws : Type 0 where
  pub lowest_terms : LowestTerms
  pub equality : EqualityByParts
  pub equal_value : EqualityByValue
  pub order : OrderByParts
  pub whole : WholeByParts
  pub zero : ZeroByParts
  pub divisors : DivisorsApart
  pub sum : SumByParts
  pub difference : DifferenceByParts
  pub negative : NegativeByParts
  pub product : ProductByParts
  pub reciprocal_is : ReciprocalByParts
  pub by_reciprocal : QuotientByReciprocal
  pub quotient : QuotientByParts
  pub square_root : SquareRootByParts
  pub cube_root : CubeRootByParts
  pub square_root_from : SquareRootFromParts
  pub cube_root_from : CubeRootFromParts
