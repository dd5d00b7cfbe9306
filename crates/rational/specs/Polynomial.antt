-- Expressions of a commutative ring and their normal form: a sum of monomials in order, with whole coefficients other than 0. Two expressions
-- with one normal form have one value, whatever their variables stand for; so an identity is proved by computing two normal forms.
use Rattle.std.specs.Prelude.{◌≡◌, ℤ, pos, negsuc, ◌+ℤ◌, ◌*ℤ◌}
use Prim.Native.Nat.{ℕ, zero, suc, compare, Ordering}
use Rattle.rational.specs.Algebra.{RingOps, ring_of}
use Rattle.rational.specs.Rational.{Rational, exact}

infixl 60 ◌⊕◌ ◌⊖◌
infixl 70 ◌⊗◌
pub data Expr : Type 0 where
  var : ℕ → Expr
  con : ℤ → Expr
  ◌⊕◌ : Expr → Expr → Expr
  ◌⊖◌ : Expr → Expr → Expr
  ◌⊗◌ : Expr → Expr → Expr
  neg : Expr → Expr

-- ---- monomials (variables in order) and sums of monomials with their coefficients

infixr 80 ◌·◌
pub data Mono : Type 0 where
  one : Mono
  ◌·◌ : ℕ → Mono → Mono

pub data Poly : Type 0 where
  nil : Poly
  term : ℤ → Mono → Poly → Poly

abbrev pub insert : ℕ → Mono → Mono
insert v one = v · one
insert v (w · m) = elim (compare v w) [ Ordering.lt ↦ v · (w · m) | Ordering.eq ↦ v · (w · m) | Ordering.gt ↦ w · insert v m ]

abbrev pub mul_m : Mono → Mono → Mono
mul_m one n = n
mul_m (v · m) n = insert v (mul_m m n)

-- which of two monomials stands first
abbrev pub order : Mono → Mono → Ordering
order one one = Ordering.eq
order one (w · n) = Ordering.gt
order (v · m) one = Ordering.lt
order (v · m) (w · n) = elim (compare v w) [ Ordering.lt ↦ Ordering.lt | Ordering.eq ↦ order m n | Ordering.gt ↦ Ordering.gt ]

-- a term with coefficient 0 is left out
abbrev pub keep : ℤ → Mono → Poly → Poly
keep (pos zero) m p = p
keep (pos (suc c)) m p = term (pos (suc c)) m p
keep (negsuc c) m p = term (negsuc c) m p

abbrev pub add_t : ℤ → Mono → Poly → Poly
add_t c m nil = keep c m nil
add_t c m (term d n p) = elim (order m n) [ Ordering.lt ↦ keep c m (term d n p) | Ordering.eq ↦ keep (c +ℤ d) n p | Ordering.gt ↦ term d n (add_t c m p) ]

abbrev pub add_p : Poly → Poly → Poly
add_p nil q = q
add_p (term c m p) q = add_t c m (add_p p q)

abbrev pub mul_t : ℤ → Mono → Poly → Poly
mul_t c m nil = nil
mul_t c m (term d n p) = add_t (c *ℤ d) (mul_m m n) (mul_t c m p)

abbrev pub mul_p : Poly → Poly → Poly
mul_p nil q = nil
mul_p (term c m p) q = add_p (mul_t c m q) (mul_p p q)

abbrev pub norm : Expr → Poly
norm (var v) = term (pos 1) (v · one) nil
norm (con z) = keep z one nil
norm (a ⊕ b) = add_p (norm a) (norm b)
norm (a ⊖ b) = add_p (norm a) (mul_t (negsuc 0) one (norm b))
norm (a ⊗ b) = mul_p (norm a) (norm b)
norm (neg a) = mul_t (negsuc 0) one (norm a)

-- ---- values

infixr 50 ◌∷◌
pub data Env (F : Type 0) : Type 0 where
  [] : Env F
  ◌∷◌ : F → Env F → Env F

module _ {F : Type 0} (o : RingOps F) where
  abbrev pub look : Env F → ℕ → F
  look [] n = o.lit (pos 1)
  look (x ∷ ρ) zero = x
  look (x ∷ ρ) (suc n) = look ρ n

  abbrev pub eval : Env F → Expr → F
  eval ρ (var v) = look ρ v
  eval ρ (con z) = o.lit z
  eval ρ (a ⊕ b) = o.add (eval ρ a) (eval ρ b)
  eval ρ (a ⊖ b) = o.sub (eval ρ a) (eval ρ b)
  eval ρ (a ⊗ b) = o.mul (eval ρ a) (eval ρ b)
  eval ρ (neg a) = o.neg (eval ρ a)

-- stated of the fractions; it is shown for every commutative ring
abbrev pub NormalFormDecides : Type 0
NormalFormDecides = (ρ : Env Rational) (e f : Expr) → norm e ≡ norm f → eval (ring_of exact) ρ e ≡ eval (ring_of exact) ρ f
