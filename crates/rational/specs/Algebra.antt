-- The operations of a ring and of a field, and their laws: a commutative ring with the whole numbers in it, and an ordered field.
use Rattle.std.specs.Prelude.{◌≡◌, ◌⊎◌, Bool, false, ℕ, ◌^◌, T, ℤ, pos, ◌+ℤ◌, ◌*ℤ◌}

-- `lit z` is the whole number z
pub record RingOps (F : Type 0) : Type 0 where
  pub add : F → F → F
  pub sub : F → F → F
  pub mul : F → F → F
  pub neg : F → F
  pub lit : ℤ → F

pub record RingLaws {F : Type 0} (o : RingOps F) : Type 0 where
  pub add_comm : (a b : F) → o.add a b ≡ o.add b a
  pub add_assoc : (a b c : F) → o.add (o.add a b) c ≡ o.add a (o.add b c)
  pub add_zero : (a : F) → o.add a (o.lit (pos 0)) ≡ a
  pub add_neg : (a : F) → o.add a (o.neg a) ≡ o.lit (pos 0)
  pub sub_is : (a b : F) → o.sub a b ≡ o.add a (o.neg b)
  pub mul_comm : (a b : F) → o.mul a b ≡ o.mul b a
  pub mul_assoc : (a b c : F) → o.mul (o.mul a b) c ≡ o.mul a (o.mul b c)
  pub mul_one : (a : F) → o.mul a (o.lit (pos 1)) ≡ a
  pub mul_add : (a b c : F) → o.mul a (o.add b c) ≡ o.add (o.mul a b) (o.mul a c)
  pub lit_add : (x y : ℤ) → o.lit (x +ℤ y) ≡ o.add (o.lit x) (o.lit y)
  pub lit_mul : (x y : ℤ) → o.lit (x *ℤ y) ≡ o.mul (o.lit x) (o.lit y)

-- `lit z k` is z / 10^k; `below a b` is the test a < b
pub record FieldOps (F : Type 0) : Type 0 where
  pub add : F → F → F
  pub sub : F → F → F
  pub mul : F → F → F
  pub div : F → F → F
  pub neg : F → F
  pub below : F → F → Bool
  pub lit : ℤ → ℕ → F

abbrev pub ring_of : {F : Type 0} → FieldOps F → RingOps F
ring_of o = record { add = o.add; sub = o.sub; mul = o.mul; neg = o.neg; lit = λ z. o.lit z 0 }

abbrev pub zero_of : {F : Type 0} → FieldOps F → F
zero_of o = o.lit (pos 0) 0

-- z / 10^k times 10^k is z; a quotient is undone by the product where the divisor is not 0; a < b is 0 < b − a; 0 is not above 0, 1 is, and so are
-- sums and products of what is above 0; and each number is above 0, is 0, or has a negative that is above 0
pub record OrderedField {F : Type 0} (o : FieldOps F) : Type 0 where
  pub laws : RingLaws (ring_of o)
  pub lit_dec : (z : ℤ) (k : ℕ) → o.mul (o.lit z k) (o.lit (pos (10 ^ k)) 0) ≡ o.lit z 0
  pub div_mul : (a b : F) → ¬ (b ≡ zero_of o) → o.mul (o.div a b) b ≡ a
  pub below_sub : (a b : F) → o.below a b ≡ o.below (zero_of o) (o.sub b a)
  pub irrefl : o.below (zero_of o) (zero_of o) ≡ false
  pub one_above : T (o.below (zero_of o) (o.lit (pos 1) 0))
  pub add_above : (a b : F) → T (o.below (zero_of o) a) → T (o.below (zero_of o) b) → T (o.below (zero_of o) (o.add a b))
  pub mul_above : (a b : F) → T (o.below (zero_of o) a) → T (o.below (zero_of o) b) → T (o.below (zero_of o) (o.mul a b))
  pub signs : (a : F) → T (o.below (zero_of o) a) ⊎ ((a ≡ zero_of o) ⊎ T (o.below (zero_of o) (o.neg a)))
