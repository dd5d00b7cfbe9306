-- The operations of a number kind, over its values or over what they mean.
use Rattle.std.specs.Prelude.{◌≡◌, ℕ, zero, suc, Bool, ℤ, pos, negsuc, Option}
use Rattle.rational.specs.Algebra.{FieldOps}
use Rattle.number.specs.Decimals.{Decimal, plus, minus}
use Rattle.number.specs.declared.fault.Stage.{Stage}

pub record Ops (N : Type 0) : Type 0 where
  pub add : N → N → N
  pub sub : N → N → N
  pub mul : N → N → N
  pub div : N → N → N
  pub neg : N → N
  pub min : N → N → N
  pub max : N → N → N
  pub sqrt : N → N
  pub cbrt : N → N
  pub whole : ℤ → N
  pub literal : Decimal → N
  -- marks a number as the answer of a stage
  pub mark : Stage → N → N
  pub lt : N → N → Bool
  pub le : N → N → Bool
  pub eq : N → N → Bool
  -- whether two numbers mean the same
  pub same : N → N → Bool
  pub spoiled : N → Bool
  -- whether a number is a valid divisor
  pub divisor : N → Bool
  -- whether (a, b) is accepted as a direction
  pub direction : N → N → Bool
  -- the nearest whole number, halves away from 0; none if spoiled or above 1,000,000 in size
  pub nearest : N → Option ℤ

-- f carries the operations o to the operations p: what it makes of a result depends only on what it makes of the operands.
pub record Hom {N M : Type 0} (f : N → M) (o : Ops N) (p : Ops M) : Type 0 where
  pub add : (x y : N) → f (o.add x y) ≡ p.add (f x) (f y)
  pub sub : (x y : N) → f (o.sub x y) ≡ p.sub (f x) (f y)
  pub mul : (x y : N) → f (o.mul x y) ≡ p.mul (f x) (f y)
  pub div : (x y : N) → f (o.div x y) ≡ p.div (f x) (f y)
  pub neg : (x : N) → f (o.neg x) ≡ p.neg (f x)
  pub min : (x y : N) → f (o.min x y) ≡ p.min (f x) (f y)
  pub max : (x y : N) → f (o.max x y) ≡ p.max (f x) (f y)
  pub sqrt : (x : N) → f (o.sqrt x) ≡ p.sqrt (f x)
  pub cbrt : (x : N) → f (o.cbrt x) ≡ p.cbrt (f x)
  pub whole : (z : ℤ) → f (o.whole z) ≡ p.whole z
  pub literal : (d : Decimal) → f (o.literal d) ≡ p.literal d
  pub mark : (s : Stage) (x : N) → f (o.mark s x) ≡ p.mark s (f x)
  pub lt : (x y : N) → o.lt x y ≡ p.lt (f x) (f y)
  pub le : (x y : N) → o.le x y ≡ p.le (f x) (f y)
  pub eq : (x y : N) → o.eq x y ≡ p.eq (f x) (f y)
  pub same : (x y : N) → o.same x y ≡ p.same (f x) (f y)
  pub spoiled : (x : N) → o.spoiled x ≡ p.spoiled (f x)
  pub divisor : (x : N) → o.divisor x ≡ p.divisor (f x)
  pub direction : (x y : N) → o.direction x y ≡ p.direction (f x) (f y)
  pub nearest : (x : N) → o.nearest x ≡ p.nearest (f x)

-- The operations o carried over by f, with g for the way back. Where g (f x) ≡ x, f carries o to them.
abbrev pub carried : {N M : Type 0} → (N → M) → (M → N) → Ops N → Ops M
carried f g o = record {
  add = λ m n. f (o.add (g m) (g n));
  sub = λ m n. f (o.sub (g m) (g n));
  mul = λ m n. f (o.mul (g m) (g n));
  div = λ m n. f (o.div (g m) (g n));
  neg = λ m. f (o.neg (g m));
  min = λ m n. f (o.min (g m) (g n));
  max = λ m n. f (o.max (g m) (g n));
  sqrt = λ m. f (o.sqrt (g m));
  cbrt = λ m. f (o.cbrt (g m));
  whole = λ z. f (o.whole z);
  literal = λ d. f (o.literal d);
  mark = λ s m. f (o.mark s (g m));
  lt = λ m n. o.lt (g m) (g n);
  le = λ m n. o.le (g m) (g n);
  eq = λ m n. o.eq (g m) (g n);
  same = λ m n. o.same (g m) (g n);
  spoiled = λ m. o.spoiled (g m);
  divisor = λ m. o.divisor (g m);
  direction = λ m n. o.direction (g m) (g n);
  nearest = λ m. o.nearest (g m);
}

-- z / 10 ^ k: a whole number, or a decimal constant
abbrev pub number : {N : Type 0} → Ops N → ℤ → ℕ → N
number o z zero = o.whole z
number o (pos n) (suc k) = o.literal (plus n (suc k))
number o (negsuc n) (suc k) = o.literal (minus (suc n) (suc k))

-- The operations of a field among them: a formula over these serves values, meanings and exact fractions alike.
abbrev pub basic : {N : Type 0} → Ops N → FieldOps N
basic o = record { add = o.add; sub = o.sub; mul = o.mul; div = o.div; neg = o.neg; below = o.lt; lit = number o }
