-- A solver for identities of commutative rings. An expression is brought to a sum of monomials in order, with whole coefficients;
-- two expressions with the same sum have the same value in every ring (`ring`). The sums are computed, so that `refl` closes an identity.
use mathlib.Core.Path.{◌≡◌, refl, sym, ap, ap₂, subst, ◌∙◌}
use Prim.Native.Nat.{ℕ, zero, suc, compare, Ordering}
use lib.IntN.{ℤ, pos, negsuc, ◌+ℤ◌, ◌*ℤ◌}
use lib.Dec.{compare_is_eq, eqb→eq, T}
use Rattle.rational.specs.Algebra.{RingOps, RingLaws}
use Rattle.rational.specs.Polynomial.{insert, mul_m, order, keep, add_t, add_p, mul_t, mul_p}
pub use Rattle.rational.specs.Polynomial.{Expr, var, con, ◌⊕◌, ◌⊖◌, ◌⊗◌, neg, Mono, one, ◌·◌, Poly, nil, term, norm, Env, [], ◌∷◌, look, eval}

-- the first variables
abbrev pub x₀ : Expr
x₀ = var 0

abbrev pub x₁ : Expr
x₁ = var 1

abbrev pub x₂ : Expr
x₂ = var 2

abbrev pub x₃ : Expr
x₃ = var 3

abbrev pub x₄ : Expr
x₄ = var 4

abbrev pub x₅ : Expr
x₅ = var 5

abbrev pub x₆ : Expr
x₆ = var 6

abbrev pub x₇ : Expr
x₇ = var 7

-- ---- values of the normal form

order_eq : (m n : Mono) → order m n ≡ Ordering.eq → m ≡ n
order_eq one one e = refl
order_eq one (w · n) e = absurd (subst (λ o. T (compare_is_eq o)) (sym e) tt)
order_eq (v · m) one e = absurd (subst (λ o. T (compare_is_eq o)) (sym e) tt)
order_eq (v · m) (w · n) e = go (compare v w) refl (order_eq m n) e
  where
    go : (o : Ordering) → compare v w ≡ o → (order m n ≡ Ordering.eq → m ≡ n) → elim o as (λ _. Ordering) [ Ordering.lt ↦ Ordering.lt | Ordering.eq ↦ order m n | Ordering.gt ↦ Ordering.gt ] ≡ Ordering.eq → (v · m) ≡ (w · n)
    go Ordering.lt p h e = absurd (subst (λ o. T (compare_is_eq o)) (sym e) tt)
    go Ordering.eq p h e = ap₂ ◌·◌ (eqb→eq v w (subst (λ o. T (compare_is_eq o)) (sym p) tt)) (h e)
    go Ordering.gt p h e = absurd (subst (λ o. T (compare_is_eq o)) (sym e) tt)

module _ {F : Type 0} (o : RingOps F) where
  unfoldable pub val_m : Env F → Mono → F
  val_m ρ one = o.lit (pos 1)
  val_m ρ (v · m) = o.mul (look o ρ v) (val_m ρ m)

  unfoldable pub val_p : Env F → Poly → F
  val_p ρ nil = o.lit (pos 0)
  val_p ρ (term c m p) = o.add (o.mul (o.lit c) (val_m ρ m)) (val_p ρ p)

-- ---- the value of an expression is that of its sum

module _ {F : Type 0} {o : RingOps F} (L : RingLaws o) where
  zero-add : (a : F) → o.add (o.lit (pos 0)) a ≡ a
  zero-add a = L.add_comm (o.lit (pos 0)) a ∙ L.add_zero a

  one-mul : (a : F) → o.mul (o.lit (pos 1)) a ≡ a
  one-mul a = L.mul_comm (o.lit (pos 1)) a ∙ L.mul_one a

  add_left : (a b c : F) → o.add a (o.add b c) ≡ o.add b (o.add a c)
  add_left a b c = sym (L.add_assoc a b c) ∙ ap (λ x. o.add x c) (L.add_comm a b) ∙ L.add_assoc b a c

  mul_left : (a b c : F) → o.mul a (o.mul b c) ≡ o.mul b (o.mul a c)
  mul_left a b c = sym (L.mul_assoc a b c) ∙ ap (λ x. o.mul x c) (L.mul_comm a b) ∙ L.mul_assoc b a c

  add-mul : (a b c : F) → o.mul (o.add a b) c ≡ o.add (o.mul a c) (o.mul b c)
  add-mul a b c = L.mul_comm (o.add a b) c ∙ L.mul_add c a b ∙ ap₂ o.add (L.mul_comm c a) (L.mul_comm c b)

  -- a sum is determined: from a + b = a + c, b = c
  add_cancel : (a b c : F) → o.add a b ≡ o.add a c → b ≡ c
  add_cancel a b c e = sym (back b) ∙ ap (o.add (o.neg a)) e ∙ back c
    where
      back : (d : F) → o.add (o.neg a) (o.add a d) ≡ d
      back d = sym (L.add_assoc (o.neg a) a d) ∙ ap (λ x. o.add x d) (L.add_comm (o.neg a) a ∙ L.add_neg a) ∙ zero-add d

  mul-zero : (a : F) → o.mul a (o.lit (pos 0)) ≡ o.lit (pos 0)
  mul-zero a = add_cancel (o.mul a (o.lit (pos 0))) _ _
      (sym (L.mul_add a (o.lit (pos 0)) (o.lit (pos 0))) ∙ ap (o.mul a) (L.add_zero (o.lit (pos 0))) ∙ sym (L.add_zero (o.mul a (o.lit (pos 0)))))

  zero-mul : (a : F) → o.mul (o.lit (pos 0)) a ≡ o.lit (pos 0)
  zero-mul a = L.mul_comm (o.lit (pos 0)) a ∙ mul-zero a

  -- − a is −1 times a
  minus_one : (a : F) → o.mul (o.lit (negsuc 0)) a ≡ o.neg a
  minus_one a = add_cancel a _ _
      (ap (λ x. o.add x (o.mul (o.lit (negsuc 0)) a)) (sym (one-mul a)) ∙ sym (add-mul (o.lit (pos 1)) (o.lit (negsuc 0)) a)
      ∙ ap (λ x. o.mul x a) (sym (L.lit_add (pos 1) (negsuc 0))) ∙ zero-mul a ∙ sym (L.add_neg a))

  module _ (ρ : Env F) where
    insert_is : (v : ℕ) (m : Mono) → val_m o ρ (insert v m) ≡ o.mul (look o ρ v) (val_m o ρ m)
    unfolding val_m
    insert_is v one = refl
    insert_is v (w · m) = go (compare v w) (insert_is v m)
      where
        go : (c : Ordering) → val_m o ρ (insert v m) ≡ o.mul (look o ρ v) (val_m o ρ m)
            → val_m o ρ (elim c as (λ _. Mono) [ Ordering.lt ↦ v · w · m | Ordering.eq ↦ v · w · m | Ordering.gt ↦ w · insert v m ]) ≡ o.mul (look o ρ v) (o.mul (look o ρ w) (val_m o ρ m))
        go Ordering.lt h = refl
        go Ordering.eq h = refl
        go Ordering.gt h = ap (o.mul (look o ρ w)) h ∙ mul_left _ _ _

    mul_m_is : (m n : Mono) → val_m o ρ (mul_m m n) ≡ o.mul (val_m o ρ m) (val_m o ρ n)
    unfolding val_m
    mul_m_is one n = sym (one-mul _)
    mul_m_is (v · m) n = insert_is v (mul_m m n) ∙ ap (o.mul (look o ρ v)) (mul_m_is m n) ∙ sym (L.mul_assoc _ _ _)

    keep_is : (c : ℤ) (m : Mono) (p : Poly) → val_p o ρ (keep c m p) ≡ o.add (o.mul (o.lit c) (val_m o ρ m)) (val_p o ρ p)
    unfolding val_p
    keep_is (pos zero) m p = sym (ap (λ x. o.add x (val_p o ρ p)) (zero-mul _) ∙ zero-add _)
    keep_is (pos (suc c)) m p = refl
    keep_is (negsuc c) m p = refl

    add_t_is : (c : ℤ) (m : Mono) (p : Poly) → val_p o ρ (add_t c m p) ≡ o.add (o.mul (o.lit c) (val_m o ρ m)) (val_p o ρ p)
    unfolding val_p
    add_t_is c m nil = keep_is c m nil
    add_t_is c m (term d n p) = go (order m n) refl (add_t_is c m p)
      where
        go : (r : Ordering) → order m n ≡ r → val_p o ρ (add_t c m p) ≡ o.add (o.mul (o.lit c) (val_m o ρ m)) (val_p o ρ p)
            → val_p o ρ (elim r as (λ _. Poly) [ Ordering.lt ↦ keep c m (term d n p) | Ordering.eq ↦ keep (c +ℤ d) n p | Ordering.gt ↦ term d n (add_t c m p) ])
            ≡ o.add (o.mul (o.lit c) (val_m o ρ m)) (o.add (o.mul (o.lit d) (val_m o ρ n)) (val_p o ρ p))
        go Ordering.lt e h = keep_is c m (term d n p)
        go Ordering.eq e h = keep_is (c +ℤ d) n p
            ∙ ap (λ x. o.add x (val_p o ρ p)) (ap (λ x. o.mul x (val_m o ρ n)) (L.lit_add c d) ∙ add-mul _ _ _)
            ∙ L.add_assoc _ _ _
            ∙ ap (λ x. o.add (o.mul (o.lit c) (val_m o ρ x)) (o.add (o.mul (o.lit d) (val_m o ρ n)) (val_p o ρ p))) (sym (order_eq m n e))
        go Ordering.gt e h = ap (o.add (o.mul (o.lit d) (val_m o ρ n))) h ∙ add_left _ _ _

    add_p_is : (p q : Poly) → val_p o ρ (add_p p q) ≡ o.add (val_p o ρ p) (val_p o ρ q)
    unfolding val_p
    add_p_is nil q = sym (zero-add _)
    add_p_is (term c m p) q = add_t_is c m (add_p p q) ∙ ap (o.add (o.mul (o.lit c) (val_m o ρ m))) (add_p_is p q) ∙ sym (L.add_assoc _ _ _)

    mul_t_is : (c : ℤ) (m : Mono) (p : Poly) → val_p o ρ (mul_t c m p) ≡ o.mul (o.mul (o.lit c) (val_m o ρ m)) (val_p o ρ p)
    unfolding val_p
    mul_t_is c m nil = sym (mul-zero _)
    mul_t_is c m (term d n p) = add_t_is (c *ℤ d) (mul_m m n) (mul_t c m p)
        ∙ ap₂ o.add (ap₂ o.mul (L.lit_mul c d) (mul_m_is m n) ∙ swap (o.lit c) (o.lit d) (val_m o ρ m) (val_m o ρ n)) (mul_t_is c m p)
        ∙ sym (L.mul_add _ _ _)
      where
        swap : (a b c d : F) → o.mul (o.mul a b) (o.mul c d) ≡ o.mul (o.mul a c) (o.mul b d)
        swap a b c d = L.mul_assoc a b (o.mul c d) ∙ ap (o.mul a) (mul_left b c d) ∙ sym (L.mul_assoc a c (o.mul b d))

    mul_p_is : (p q : Poly) → val_p o ρ (mul_p p q) ≡ o.mul (val_p o ρ p) (val_p o ρ q)
    unfolding val_p
    mul_p_is nil q = sym (zero-mul _)
    mul_p_is (term c m p) q = add_p_is (mul_t c m q) (mul_p p q) ∙ ap₂ o.add (mul_t_is c m q) (mul_p_is p q) ∙ sym (add-mul _ _ _)

    minus_is : (p : Poly) → val_p o ρ (mul_t (negsuc 0) one p) ≡ o.neg (val_p o ρ p)
    unfolding val_m
    minus_is p = mul_t_is (negsuc 0) one p ∙ ap (λ x. o.mul x (val_p o ρ p)) (L.mul_one _) ∙ minus_one _

    pub norm_is : (e : Expr) → val_p o ρ (norm e) ≡ eval o ρ e
    unfolding val_p val_m
    norm_is (var v) = L.add_zero _ ∙ one-mul _ ∙ L.mul_one _
    norm_is (con z) = keep_is z one nil ∙ L.add_zero _ ∙ L.mul_one _
    norm_is (a ⊕ b) = add_p_is (norm a) (norm b) ∙ ap₂ o.add (norm_is a) (norm_is b)
    norm_is (a ⊖ b) = add_p_is (norm a) (mul_t (negsuc 0) one (norm b)) ∙ ap₂ o.add (norm_is a) (minus_is (norm b) ∙ ap o.neg (norm_is b)) ∙ sym (L.sub_is _ _)
    norm_is (a ⊗ b) = mul_p_is (norm a) (norm b) ∙ ap₂ o.mul (norm_is a) (norm_is b)
    norm_is (neg a) = minus_is (norm a) ∙ ap o.neg (norm_is a)

    -- two expressions with one sum have one value
    pub ring : (e f : Expr) → norm e ≡ norm f → eval o ρ e ≡ eval o ρ f
    ring e f h = sym (norm_is e) ∙ ap (val_p o ρ) h ∙ norm_is f

    -- ---- with facts: e = f follows from p = q where e − f is c (p − q), and so for several facts

    pub data Facts : Type 0 where
      none : Facts
      fact : (c p q : Expr) → eval o ρ p ≡ eval o ρ q → Facts → Facts

    abbrev pub lefts : Facts → Expr
    lefts none = con (pos 0)
    lefts (fact c p q h k) = c ⊗ p ⊕ lefts k

    abbrev pub rights : Facts → Expr
    rights none = con (pos 0)
    rights (fact c p q h k) = c ⊗ q ⊕ rights k

    both : (k : Facts) → eval o ρ (lefts k) ≡ eval o ρ (rights k)
    both none = refl
    both (fact c p q h k) = ap₂ o.add (ap (o.mul (eval o ρ c)) h) (both k)

    pub ring_from : (e f : Expr) (k : Facts) → norm (e ⊕ rights k) ≡ norm (f ⊕ lefts k) → eval o ρ e ≡ eval o ρ f
    ring_from e f k h = add_cancel (eval o ρ (rights k)) (eval o ρ e) (eval o ρ f)
        (L.add_comm _ _ ∙ ring (e ⊕ rights k) (f ⊕ lefts k) h ∙ ap (o.add (eval o ρ f)) (both k) ∙ L.add_comm _ _)

    -- with one fact
    pub ring_by : (e f c p q : Expr) → eval o ρ p ≡ eval o ρ q → norm (e ⊕ c ⊗ q) ≡ norm (f ⊕ c ⊗ p) → eval o ρ e ≡ eval o ρ f
    ring_by e f c p q k h = add_cancel (eval o ρ (c ⊗ q)) (eval o ρ e) (eval o ρ f)
        (L.add_comm _ _ ∙ ring (e ⊕ c ⊗ q) (f ⊕ c ⊗ p) h ∙ ap (λ x. o.add (eval o ρ f) (o.mul (eval o ρ c) x)) k ∙ L.add_comm _ _)

-- ---- the expressions are found: `ring! L (a ∷ b ∷ []) (search reads depth 30) refl` proves an identity in a and b

module _ {F : Type 0} (o : RingOps F) (ρ : Env F) where
  -- an expression with the value a
  pub record Read (a : F) : Type 0 where
    pub expr : Expr
    pub is : eval o ρ expr ≡ a

  pub record Sides (a b : F) : Type 0 where
    pub left : Read a
    pub right : Read b

  -- the sides of a goal, a factor and the sides of a fact
  pub record FactSides (a b c x y : F) : Type 0 where
    pub goal : Sides a b
    pub factor : Read c
    pub fact : Sides x y

module _ {F : Type 0} {o : RingOps F} where
  abbrev pub r_sides : {ρ : Env F} {a b : F} → Read o ρ a → Read o ρ b → Sides o ρ a b
  r_sides p q = record { left = p; right = q }

  abbrev pub r_fact : {ρ : Env F} {a b c x y : F} → Sides o ρ a b → Read o ρ c → Sides o ρ x y → FactSides o ρ a b c x y
  r_fact p q r = record { goal = p; factor = q; fact = r }

  abbrev pub r_add : {ρ : Env F} {a b : F} → Read o ρ a → Read o ρ b → Read o ρ (o.add a b)
  r_add p q = record { expr = p.expr ⊕ q.expr; is = ap₂ o.add p.is q.is }

  abbrev pub r_sub : {ρ : Env F} {a b : F} → Read o ρ a → Read o ρ b → Read o ρ (o.sub a b)
  r_sub p q = record { expr = p.expr ⊖ q.expr; is = ap₂ o.sub p.is q.is }

  abbrev pub r_mul : {ρ : Env F} {a b : F} → Read o ρ a → Read o ρ b → Read o ρ (o.mul a b)
  r_mul p q = record { expr = p.expr ⊗ q.expr; is = ap₂ o.mul p.is q.is }

  abbrev pub r_neg : {ρ : Env F} {a : F} → Read o ρ a → Read o ρ (o.neg a)
  r_neg p = record { expr = neg p.expr; is = ap o.neg p.is }

  abbrev pub r_lit : {ρ : Env F} (z : ℤ) → Read o ρ (o.lit z)
  r_lit z = record { expr = con z; is = refl }

  abbrev pub r_0 : {x : F} {ρ : Env F} → Read o (x ∷ ρ) x
  r_0 = record { expr = var 0; is = refl }

  abbrev pub r_1 : {x a : F} {ρ : Env F} → Read o (a ∷ x ∷ ρ) x
  r_1 = record { expr = var 1; is = refl }

  abbrev pub r_2 : {x a b : F} {ρ : Env F} → Read o (a ∷ b ∷ x ∷ ρ) x
  r_2 = record { expr = var 2; is = refl }

  abbrev pub r_3 : {x a b c : F} {ρ : Env F} → Read o (a ∷ b ∷ c ∷ x ∷ ρ) x
  r_3 = record { expr = var 3; is = refl }

  abbrev pub r_4 : {x a b c d : F} {ρ : Env F} → Read o (a ∷ b ∷ c ∷ d ∷ x ∷ ρ) x
  r_4 = record { expr = var 4; is = refl }

  abbrev pub r_5 : {x a b c d e : F} {ρ : Env F} → Read o (a ∷ b ∷ c ∷ d ∷ e ∷ x ∷ ρ) x
  r_5 = record { expr = var 5; is = refl }

  pub ruleset reads = (r_0, r_1, r_2, r_3, r_4, r_5, r_lit, r_add, r_sub, r_mul, r_neg, r_sides, r_fact)

  pub ring! : RingLaws o → (ρ : Env F) {a b : F} (p : Sides o ρ a b) → norm p.left.expr ≡ norm p.right.expr → a ≡ b
  ring! L ρ p h = sym p.left.is ∙ ring L ρ p.left.expr p.right.expr h ∙ p.right.is

  -- from the fact x = y, where a − b is c (x − y)
  pub ring_by! : RingLaws o → (ρ : Env F) (c : F) {a b x y : F} → x ≡ y → (p : FactSides o ρ a b c x y)
      → norm (p.goal.left.expr ⊕ p.factor.expr ⊗ p.fact.right.expr) ≡ norm (p.goal.right.expr ⊕ p.factor.expr ⊗ p.fact.left.expr) → a ≡ b
  ring_by! L ρ c e p h = sym p.goal.left.is
      ∙ ring_by L ρ p.goal.left.expr p.goal.right.expr p.factor.expr p.fact.left.expr p.fact.right.expr (p.fact.left.is ∙ e ∙ sym p.fact.right.is) h
      ∙ p.goal.right.is
