-- A solver for identities of an ordered field, with quotients. A formula is a quotient of two ring expressions wherever its divisors are not 0;
-- two formulas have one value when the cross products have one sum (`field`). What is above 0 (or not below 0) in all of its variables
-- with whole coefficients above 0 is so too (`above`, `least`).
use mathlib.Core.Path.{◌≡◌, refl, sym, ap, ap₂, subst, ◌∙◌}
use mathlib.Core.Bool.{false}
use Prim.Native.Nat.{ℕ, zero, suc, ◌^◌, ◌<◌}
use native.Mathlib.Nat as N
use native.Mathlib.Numerals.{add-one}
use lib.IntN.{ℤ, pos, negsuc}
use lib.Dec.{T}
use Rattle.rational.specs.Algebra.{RingLaws, FieldOps, OrderedField, ring_of, zero_of}
use Rattle.rational.proofs.Ring as R
use Rattle.rational.proofs.Ring.{Expr, Env, [], ◌∷◌, look, norm, ◌⊕◌ as plus, ◌⊖◌ as minus, ◌⊗◌ as times}

infixl 60 ◌⊕◌ ◌⊖◌
infixl 70 ◌⊗◌ ◌⊘◌
pub data Formula : Type 0 where
  var : ℕ → Formula
  lit : ℤ → ℕ → Formula
  ◌⊕◌ : Formula → Formula → Formula
  ◌⊖◌ : Formula → Formula → Formula
  ◌⊗◌ : Formula → Formula → Formula
  neg : Formula → Formula
  ◌⊘◌ : Formula → Formula → Formula

-- a formula written over any field's operations, taken at these, is its own syntax
abbrev pub formulas : FieldOps Formula
formulas = record { add = ◌⊕◌; sub = ◌⊖◌; mul = ◌⊗◌; div = ◌⊘◌; neg = neg; below = λ a b. false; lit = lit }

abbrev pub x₀ : Formula
x₀ = var 0

abbrev pub x₁ : Formula
x₁ = var 1

abbrev pub x₂ : Formula
x₂ = var 2

abbrev pub x₃ : Formula
x₃ = var 3

abbrev pub x₄ : Formula
x₄ = var 4

abbrev pub x₅ : Formula
x₅ = var 5

abbrev pub # : ℕ → Formula
# n = lit (pos n) 0

-- ---- a formula as a quotient

pub record Quot : Type 0 where
  pub num : Expr
  pub den : Expr

abbrev pub add_q : Quot → Quot → Quot
add_q p q = record { num = plus (times p.num q.den) (times q.num p.den); den = times p.den q.den }

abbrev pub sub_q : Quot → Quot → Quot
sub_q p q = record { num = minus (times p.num q.den) (times q.num p.den); den = times p.den q.den }

abbrev pub mul_q : Quot → Quot → Quot
mul_q p q = record { num = times p.num q.num; den = times p.den q.den }

abbrev pub div_q : Quot → Quot → Quot
div_q p q = record { num = times p.num q.den; den = times p.den q.num }

abbrev pub neg_q : Quot → Quot
neg_q p = record { num = R.neg p.num; den = p.den }

abbrev pub quot : Formula → Quot
quot (var v) = record { num = R.var v; den = R.con (pos 1) }
quot (lit z k) = record { num = R.con z; den = R.con (pos (10 ^ k)) }
quot (a ⊕ b) = add_q (quot a) (quot b)
quot (a ⊖ b) = sub_q (quot a) (quot b)
quot (a ⊗ b) = mul_q (quot a) (quot b)
quot (neg a) = neg_q (quot a)
quot (a ⊘ b) = div_q (quot a) (quot b)

module _ {F : Type 0} (o : FieldOps F) where
  abbrev pub eval : Env F → Formula → F
  eval ρ (var v) = look (ring_of o) ρ v
  eval ρ (lit z k) = o.lit z k
  eval ρ (a ⊕ b) = o.add (eval ρ a) (eval ρ b)
  eval ρ (a ⊖ b) = o.sub (eval ρ a) (eval ρ b)
  eval ρ (a ⊗ b) = o.mul (eval ρ a) (eval ρ b)
  eval ρ (neg a) = o.neg (eval ρ a)
  eval ρ (a ⊘ b) = o.div (eval ρ a) (eval ρ b)

  abbrev pub NonZero : F → Type 0
  NonZero a = ¬ (a ≡ zero_of o)

  -- no divisor is 0: a list of pairs, the divisors from left to right, before what else is asked
  abbrev pub Fine : Env F → Formula → Type 0 → Type 0
  Fine ρ (var v) more = more
  Fine ρ (lit z k) more = more
  Fine ρ (a ⊕ b) more = Fine ρ a (Fine ρ b more)
  Fine ρ (a ⊖ b) more = Fine ρ a (Fine ρ b more)
  Fine ρ (a ⊗ b) more = Fine ρ a (Fine ρ b more)
  Fine ρ (neg a) more = Fine ρ a more
  Fine ρ (a ⊘ b) more = Fine ρ a (Fine ρ b (NonZero (eval ρ b) × more))

module _ {F : Type 0} {o : FieldOps F} (K : OrderedField o) where
  infixl 60 ◌+◌ ◌-◌
  infixl 70 ◌*◌ ◌/◌
  abbrev ◌+◌ : F → F → F
  a + b = o.add a b

  abbrev ◌*◌ : F → F → F
  a * b = o.mul a b

  abbrev ◌/◌ : F → F → F
  a / b = o.div a b

  abbrev ◌-◌ : F → F → F
  a - b = o.sub a b

  abbrev 𝟘 : F
  𝟘 = zero_of o

  abbrev 𝟙 : F
  𝟙 = o.lit (pos 1) 0

  abbrev ring : RingLaws (ring_of o)
  ring = K.laws

  -- ---- factors that are not 0

  -- from b c = 0 and c not 0, b = 0
  pub factor_zero : (b c : F) → NonZero o c → b * c ≡ 𝟘 → b ≡ 𝟘
  factor_zero b c h e = R.ring_from ring (b ∷ c ∷ 𝟙 / c ∷ []) R.x₀ (R.con (pos 0))
      (R.fact R.x₂ (times R.x₀ R.x₁) (R.con (pos 0)) e (R.fact (R.neg R.x₀) (times R.x₂ R.x₁) (R.con (pos 1)) (K.div_mul 𝟙 c h) R.none)) refl

  pub mul_nonzero : (b c : F) → NonZero o b → NonZero o c → NonZero o (b * c)
  mul_nonzero b c h k e = h (factor_zero b c k e)

  pub mul_cancel : (a b c : F) → NonZero o c → a * c ≡ b * c → a ≡ b
  mul_cancel a b c h e = R.ring_by ring (a ∷ b ∷ []) R.x₀ R.x₁ (R.con (pos 1)) (minus R.x₀ R.x₁) (R.con (pos 0))
      (factor_zero (a - b) c h (R.ring_by ring (a ∷ b ∷ c ∷ []) (times (minus R.x₀ R.x₁) R.x₂) (R.con (pos 0)) (R.con (pos 1)) (times R.x₀ R.x₂) (times R.x₁ R.x₂) e refl)) refl

  -- 1 is not 0, nor is a power of 10
  pub whole_above : (n : ℕ) → T (o.below 𝟘 (o.lit (pos (suc n)) 0))
  whole_above zero = K.one_above
  whole_above (suc n) = subst (λ z. T (o.below 𝟘 z)) (sym (ring.lit_add (pos (suc n)) (pos 1)) ∙ ap (λ k. o.lit (pos k) 0) (add-one (suc n)))
      (K.add_above (o.lit (pos (suc n)) 0) 𝟙 (whole_above n) K.one_above)

  whole_nonzero : (n : ℕ) → 0 < n → NonZero o (o.lit (pos n) 0)
  whole_nonzero zero h e = N.lt_irrefl 0 h
  whole_nonzero (suc n) h e = subst T K.irrefl (subst (λ z. T (o.below 𝟘 z)) e (whole_above n))

  -- ---- the value of a formula is that of its quotient

  module _ (ρ : Env F) where
    abbrev pub Sound : F → Quot → Type 0
    Sound a q = NonZero o (R.eval (ring_of o) ρ q.den) × (a * R.eval (ring_of o) ρ q.den ≡ R.eval (ring_of o) ρ q.num)

    pub sound : (e : Formula) (more : Type 0) → Fine o ρ e more → Sound (eval o ρ e) (quot e) × more
    sound (var v) more k = ((whole_nonzero 1 (N.zero-lt-suc 0), ring.mul_one _), k)
    sound (lit z d) more k = ((whole_nonzero (10 ^ d) (N.one-le-pow d 10 (N.zero-lt-suc 9)), K.lit_dec z d), k)
    sound (a ⊕ b) more k =
        let (p, k₁) = sound a _ k in
        let (q, k₂) = sound b _ k₁ in
        ((mul_nonzero _ _ p.0 q.0, sums (eval o ρ a) (eval o ρ b) _ _ _ _ p.1 q.1), k₂)
      where
        sums : (a b p q m n : F) → a * p ≡ m → b * q ≡ n → (a + b) * (p * q) ≡ m * q + n * p
        sums a b p q m n e f = R.ring_from ring (a ∷ b ∷ p ∷ q ∷ m ∷ n ∷ []) (times (plus R.x₀ R.x₁) (times R.x₂ R.x₃)) (plus (times R.x₄ R.x₃) (times R.x₅ R.x₂))
            (R.fact R.x₃ (times R.x₀ R.x₂) R.x₄ e (R.fact R.x₂ (times R.x₁ R.x₃) R.x₅ f R.none)) refl
    sound (a ⊖ b) more k =
        let (p, k₁) = sound a _ k in
        let (q, k₂) = sound b _ k₁ in
        ((mul_nonzero _ _ p.0 q.0, differences (eval o ρ a) (eval o ρ b) _ _ _ _ p.1 q.1), k₂)
      where
        differences : (a b p q m n : F) → a * p ≡ m → b * q ≡ n → (a - b) * (p * q) ≡ m * q - n * p
        differences a b p q m n e f = R.ring_from ring (a ∷ b ∷ p ∷ q ∷ m ∷ n ∷ []) (times (minus R.x₀ R.x₁) (times R.x₂ R.x₃)) (minus (times R.x₄ R.x₃) (times R.x₅ R.x₂))
            (R.fact R.x₃ (times R.x₀ R.x₂) R.x₄ e (R.fact (R.neg R.x₂) (times R.x₁ R.x₃) R.x₅ f R.none)) refl
    sound (a ⊗ b) more k =
        let (p, k₁) = sound a _ k in
        let (q, k₂) = sound b _ k₁ in
        ((mul_nonzero _ _ p.0 q.0, prods (eval o ρ a) (eval o ρ b) _ _ _ _ p.1 q.1), k₂)
      where
        prods : (a b p q m n : F) → a * p ≡ m → b * q ≡ n → (a * b) * (p * q) ≡ m * n
        prods a b p q m n e f = R.ring_from ring (a ∷ b ∷ p ∷ q ∷ m ∷ n ∷ []) (times (times R.x₀ R.x₁) (times R.x₂ R.x₃)) (times R.x₄ R.x₅)
            (R.fact (times R.x₁ R.x₃) (times R.x₀ R.x₂) R.x₄ e (R.fact R.x₄ (times R.x₁ R.x₃) R.x₅ f R.none)) refl
    sound (neg a) more k =
        let (p, k₁) = sound a _ k in
        ((p.0, negs (eval o ρ a) _ _ p.1), k₁)
      where
        negs : (a p m : F) → a * p ≡ m → o.neg a * p ≡ o.neg m
        negs a p m e = R.ring_by ring (a ∷ p ∷ m ∷ []) (times (R.neg R.x₀) R.x₁) (R.neg R.x₂) (R.con (negsuc 0)) (times R.x₀ R.x₁) R.x₂ e refl
    sound (a ⊘ b) more k =
        let (p, k₁) = sound a _ k in
        let (q, k₂) = sound b _ k₁ in (
          (
            mul_nonzero _ _ p.0 (λ e. mul_nonzero (eval o ρ b) _ k₂.0 q.0 (q.1 ∙ e)),
            quots (eval o ρ a / eval o ρ b) (eval o ρ a) (eval o ρ b) _ _ _ _ (K.div_mul (eval o ρ a) (eval o ρ b) k₂.0) p.1 q.1,
          ),
          k₂.1,
        )
      where
        quots : (d a b p q m n : F) → d * b ≡ a → a * p ≡ m → b * q ≡ n → d * (p * n) ≡ m * q
        quots d a b p q m n g e f = R.ring_from ring (a ∷ b ∷ p ∷ q ∷ m ∷ n ∷ d ∷ []) (times R.x₆ (times R.x₂ R.x₅)) (times R.x₄ R.x₃)
            (R.fact R.x₃ (times R.x₀ R.x₂) R.x₄ e (R.fact (R.neg (times R.x₆ R.x₂)) (times R.x₁ R.x₃) R.x₅ f (R.fact (times R.x₂ R.x₃) (times R.x₆ R.x₁) R.x₀ g R.none))) refl

    -- two formulas with equal cross products have one value
    pub crossed : (e f : Formula) → Fine o ρ e (Fine o ρ f (Unit {0}))
        → R.eval (ring_of o) ρ (times (quot e).num (quot f).den) ≡ R.eval (ring_of o) ρ (times (quot f).num (quot e).den) → eval o ρ e ≡ eval o ρ f
    crossed e f k h =
        let (p, k₁) = sound e _ k in
        let (q, k₂) = sound f _ k₁ in
        cross (eval o ρ e) (eval o ρ f) _ _ _ _ p.0 q.0 p.1 q.1 h
      where
        cross : (a b p q m n : F) → NonZero o p → NonZero o q → a * p ≡ m → b * q ≡ n → m * q ≡ n * p → a ≡ b
        cross a b p q m n hp hq e f g = mul_cancel a b (p * q) (mul_nonzero p q hp hq)
            (R.ring_from ring (a ∷ b ∷ p ∷ q ∷ m ∷ n ∷ []) (times R.x₀ (times R.x₂ R.x₃)) (times R.x₁ (times R.x₂ R.x₃))
            (R.fact R.x₃ (times R.x₀ R.x₂) R.x₄ e (R.fact (R.neg R.x₂) (times R.x₁ R.x₃) R.x₅ f (R.fact (R.con (pos 1)) (times R.x₄ R.x₃) (times R.x₅ R.x₂) g R.none))) refl)

    -- and so where the cross products have one sum
    pub field : (e f : Formula) → Fine o ρ e (Fine o ρ f (Unit {0}))
        → norm (times (quot e).num (quot f).den) ≡ norm (times (quot f).num (quot e).den) → eval o ρ e ≡ eval o ρ f
    field e f k h = crossed e f k (R.ring ring ρ (times (quot e).num (quot f).den) (times (quot f).num (quot e).den) h)

-- ---- the formulas are found: `field! K (a ∷ b ∷ []) (search forms depth 30) (nonzero …, tt) refl`

module _ {F : Type 0} (o : FieldOps F) (ρ : Env F) where
  -- a formula with the value a
  pub record Form (a : F) : Type 0 where
    pub formula : Formula
    pub is : eval o ρ formula ≡ a

  pub record Forms (a b : F) : Type 0 where
    pub left : Form a
    pub right : Form b

  -- the sides of a goal, and a factor and the sides of a fact without quotients
  pub record FactForms (a b c x y : F) : Type 0 where
    pub goal : Forms a b
    pub factor : R.Read (ring_of o) ρ c
    pub fact : R.Sides (ring_of o) ρ x y

module _ {F : Type 0} {o : FieldOps F} where
  abbrev pub f_both : {ρ : Env F} {a b : F} → Form o ρ a → Form o ρ b → Forms o ρ a b
  f_both p q = record { left = p; right = q }

  abbrev pub f_fact : {ρ : Env F} {a b c x y : F} → Forms o ρ a b → R.Read (ring_of o) ρ c → R.Sides (ring_of o) ρ x y → FactForms o ρ a b c x y
  f_fact p q r = record { goal = p; factor = q; fact = r }

  abbrev pub f_add : {ρ : Env F} {a b : F} → Form o ρ a → Form o ρ b → Form o ρ (o.add a b)
  f_add p q = record { formula = p.formula ⊕ q.formula; is = ap₂ o.add p.is q.is }

  abbrev pub f_mul : {ρ : Env F} {a b : F} → Form o ρ a → Form o ρ b → Form o ρ (o.mul a b)
  f_mul p q = record { formula = p.formula ⊗ q.formula; is = ap₂ o.mul p.is q.is }

  abbrev pub f_div : {ρ : Env F} {a b : F} → Form o ρ a → Form o ρ b → Form o ρ (o.div a b)
  f_div p q = record { formula = p.formula ⊘ q.formula; is = ap₂ o.div p.is q.is }

  abbrev pub f_neg : {ρ : Env F} {a : F} → Form o ρ a → Form o ρ (o.neg a)
  f_neg p = record { formula = neg p.formula; is = ap o.neg p.is }

  abbrev pub f_sub : {ρ : Env F} {a b : F} → Form o ρ a → Form o ρ b → Form o ρ (o.sub a b)
  f_sub p q = record { formula = p.formula ⊖ q.formula; is = ap₂ o.sub p.is q.is }

  abbrev pub f_lit : {ρ : Env F} (z : ℤ) (k : ℕ) → Form o ρ (o.lit z k)
  f_lit z k = record { formula = lit z k; is = refl }

  abbrev pub f_0 : {x : F} {ρ : Env F} → Form o (x ∷ ρ) x
  f_0 = record { formula = var 0; is = refl }

  abbrev pub f_1 : {x a : F} {ρ : Env F} → Form o (a ∷ x ∷ ρ) x
  f_1 = record { formula = var 1; is = refl }

  abbrev pub f_2 : {x a b : F} {ρ : Env F} → Form o (a ∷ b ∷ x ∷ ρ) x
  f_2 = record { formula = var 2; is = refl }

  abbrev pub f_3 : {x a b c : F} {ρ : Env F} → Form o (a ∷ b ∷ c ∷ x ∷ ρ) x
  f_3 = record { formula = var 3; is = refl }

  abbrev pub f_4 : {x a b c d : F} {ρ : Env F} → Form o (a ∷ b ∷ c ∷ d ∷ x ∷ ρ) x
  f_4 = record { formula = var 4; is = refl }

  abbrev pub f_5 : {x a b c d e : F} {ρ : Env F} → Form o (a ∷ b ∷ c ∷ d ∷ e ∷ x ∷ ρ) x
  f_5 = record { formula = var 5; is = refl }

  -- a variable is looked for before a formula is taken apart
  pub ruleset forms = (f_0, f_1, f_2, f_3, f_4, f_5, f_lit, f_add, f_sub, f_mul, f_neg, f_div, f_both, f_fact)

  pub field! : OrderedField o → (ρ : Env F) {a b : F} (p : Forms o ρ a b) → Fine o ρ p.left.formula (Fine o ρ p.right.formula (Unit {0}))
      → norm (times (quot p.left.formula).num (quot p.right.formula).den) ≡ norm (times (quot p.right.formula).num (quot p.left.formula).den) → a ≡ b
  field! K ρ p k h = sym p.left.is ∙ field K ρ p.left.formula p.right.formula k h ∙ p.right.is
