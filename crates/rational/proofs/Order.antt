-- The order of an ordered field, and a solver for it: a formula whose variables are above 0 (or not below 0) is above 0 if its quotient has
-- only coefficients above 0, which is computed (`above`, `least`). There no divisor has to be shown not to be 0 (`equal`).
use mathlib.Core.Path.{◌≡◌, refl, sym, ap, ap₂, subst, ◌∙◌}
use mathlib.Core.Logic.{◌⊎◌, inl, inr}
use mathlib.Core.Bool.{Bool, true, false, not}
use Prim.Native.Nat.{ℕ, zero, suc}
use lib.IntN.{pos, negsuc}
use lib.Dec.{T}
use Rattle.rational.specs.Algebra.{FieldOps, OrderedField, ring_of, zero_of}
use Rattle.rational.proofs.Ring as R
use Rattle.rational.proofs.Ring.{Expr, Mono, one, ◌·◌, Poly, nil, term, Env, [], ◌∷◌, look, norm, norm_is, val_m, val_p, ◌⊕◌ as plus, ◌⊖◌ as minus, ◌⊗◌ as times}
use Rattle.rational.proofs.Field.{Formula, var, lit, ◌⊕◌, ◌⊗◌, ◌⊖◌, ◌⊘◌, neg, quot, eval, Fine, NonZero, sound, crossed, field, factor_zero, whole_above, Form, Forms, FactForms}

abbrev pub both : Bool → Bool → Bool
both true c = c
both false c = false

both_left : (b c : Bool) → T (both b c) → T b
both_left true c t = tt
both_left false c t = t

both_right : (b c : Bool) → T (both b c) → T c
both_right true c t = t
both_right false c t = absurd t

abbrev pub either : Bool → Bool → Bool
either true c = true
either false c = c

-- ---- the tests, by what is known of the variables

pub data Sign : Type 0 where
  >0 : Sign
  ≥0 : Sign
  any : Sign

abbrev pub is_above : Sign → Bool
is_above >0 = true
is_above ≥0 = false
is_above any = false

abbrev pub is_least : Sign → Bool
is_least >0 = true
is_least ≥0 = true
is_least any = false

abbrev pub sign : Env Sign → ℕ → Sign
sign [] v = >0
sign (b ∷ s) zero = b
sign (b ∷ s) (suc v) = sign s v

abbrev pub strict_m : Env Sign → Mono → Bool
strict_m s one = true
strict_m s (v · m) = both (is_above (sign s v)) (strict_m s m)

abbrev pub least_m : Env Sign → Mono → Bool
least_m s one = true
least_m s (v · m) = both (is_least (sign s v)) (least_m s m)

-- every coefficient is above 0, and no variable can be below 0
abbrev pub up : Env Sign → Poly → Bool
up s nil = true
up s (term (pos zero) m p) = false
up s (term (pos (suc c)) m p) = both (least_m s m) (up s p)
up s (term (negsuc c) m p) = false

-- and some monomial has only variables above 0
abbrev pub some : Env Sign → Poly → Bool
some s nil = false
some s (term c m p) = either (strict_m s m) (some s p)

abbrev pub strict : Env Sign → Poly → Bool
strict s p = both (up s p) (some s p)

-- every divisor is above 0
abbrev pub tame : Env Sign → Formula → Bool
tame s (var v) = true
tame s (lit z k) = true
tame s (a ⊕ b) = both (tame s a) (tame s b)
tame s (a ⊖ b) = both (tame s a) (tame s b)
tame s (a ⊗ b) = both (tame s a) (tame s b)
tame s (neg a) = tame s a
tame s (a ⊘ b) = both (tame s a) (both (tame s b) (strict s (norm (quot b).num)))

module _ {F : Type 0} (o : FieldOps F) where
  abbrev pub Above : F → Type 0
  Above a = T (o.below (zero_of o) a)

  abbrev pub Least : F → Type 0
  Least a = Above a ⊎ (a ≡ zero_of o)

  -- what is known of the variables holds
  abbrev pub Signed : Env F → Env Sign → Type 0
  Signed [] [] = Unit {0}
  Signed [] (b ∷ s) = ⊥
  Signed (x ∷ ρ) [] = ⊥
  Signed (x ∷ ρ) (>0 ∷ s) = Above x × Signed ρ s
  Signed (x ∷ ρ) (≥0 ∷ s) = Least x × Signed ρ s
  Signed (x ∷ ρ) (any ∷ s) = Signed ρ s

module _ {F : Type 0} {o : FieldOps F} (K : OrderedField o) where
  infixl 60 ◌+◌ ◌-◌
  infixl 70 ◌*◌ ◌/◌
  infix 80 −◌
  abbrev ◌+◌ : F → F → F
  a + b = o.add a b

  abbrev ◌*◌ : F → F → F
  a * b = o.mul a b

  abbrev ◌/◌ : F → F → F
  a / b = o.div a b

  abbrev ◌-◌ : F → F → F
  a - b = o.sub a b

  abbrev −◌ : F → F
  − a = o.neg a

  abbrev 𝟘 : F
  𝟘 = zero_of o

  abbrev 𝟙 : F
  𝟙 = o.lit (pos 1) 0

  -- ---- signs

  pub not_above_zero : ¬ Above o 𝟘
  not_above_zero t = subst T K.irrefl t

  pub nonzero : (a : F) → Above o a → NonZero o a
  nonzero a t e = not_above_zero (subst (Above o) e t)

  pub not_both : (a : F) → Above o a → ¬ Above o (o.neg a)
  not_both a t u = not_above_zero (subst (Above o) (K.laws.add_neg a) (K.add_above a (o.neg a) t u))

  pub above_least : (a b : F) → Above o a → Least o b → Above o (a + b)
  above_least a b t (inl u) = K.add_above a b t u
  above_least a b t (inr e) = subst (Above o) (sym (ap (o.add a) e ∙ K.laws.add_zero a)) t

  pub least_above : (a b : F) → Least o a → Above o b → Above o (a + b)
  least_above a b t u = subst (Above o) (K.laws.add_comm b a) (above_least b a u t)

  pub add_least : (a b : F) → Least o a → Least o b → Least o (a + b)
  add_least a b (inl t) u = inl (above_least a b t u)
  add_least a b (inr e) (inl u) = inl (least_above a b (inr e) u)
  add_least a b (inr e) (inr f) = inr (ap₂ o.add e f ∙ K.laws.add_zero 𝟘)

  pub mul_least : (a b : F) → Least o a → Least o b → Least o (a * b)
  mul_least a b (inl t) (inl u) = inl (K.mul_above a b t u)
  mul_least a b (inl t) (inr f) = inr (ap (o.mul a) f ∙ R.ring K.laws (a ∷ []) (times R.x₀ (R.con (pos 0))) (R.con (pos 0)) refl)
  mul_least a b (inr e) u = inr (ap (λ x. x * b) e ∙ R.ring K.laws (b ∷ []) (times (R.con (pos 0)) R.x₀) (R.con (pos 0)) refl)

  zero-mul : (a : F) → 𝟘 * a ≡ 𝟘
  zero-mul a = R.ring K.laws (a ∷ []) (times (R.con (pos 0)) R.x₀) (R.con (pos 0)) refl

  -- a factor of something above 0 is above 0 if the other is
  pub factor_above : (a b : F) → Above o b → Above o (a * b) → Above o a
  factor_above a b t u = go (K.signs a)
    where
      go : Above o a ⊎ ((a ≡ 𝟘) ⊎ Above o (− a)) → Above o a
      go (inl h) = h
      go (inr (inl e)) = absurd (not_above_zero (subst (Above o) (ap (λ x. x * b) e ∙ zero-mul b) u))
      go (inr (inr h)) = absurd (not_both (a * b) u (subst (Above o) (R.ring K.laws (a ∷ b ∷ []) (times (R.neg R.x₀) R.x₁) (R.neg (times R.x₀ R.x₁)) refl) (K.mul_above (− a) b h t)))

  pub factor_least : (a b : F) → Above o b → Least o (a * b) → Least o a
  factor_least a b t (inl u) = inl (factor_above a b t u)
  factor_least a b t (inr e) = inr (factor_zero K a b (nonzero b t) e)

  pub div_above : (a b : F) → Above o a → Above o b → Above o (a / b)
  div_above a b t u = factor_above (a / b) b u (subst (Above o) (sym (K.div_mul a b (nonzero b u))) t)

  -- ---- the order by the difference

  pub below_by : (a b : F) → Above o (b - a) → T (o.below a b)
  below_by a b t = subst T (sym (K.below_sub a b)) t

  pub by_below : (a b : F) → T (o.below a b) → Above o (b - a)
  by_below a b t = subst T (K.below_sub a b) t

  -- a ≥ b, as the test has it, and by the difference
  pub least_of : (a b : F) → T (not (o.below a b)) → Least o (a - b)
  least_of a b t = go (K.signs (a - b))
    where
      clash : (c : Bool) → T c → T (not c) → ⊥
      clash true p q = q
      clash false p q = p

      go : Above o (a - b) ⊎ ((a - b ≡ 𝟘) ⊎ Above o (− (a - b))) → Least o (a - b)
      go (inl h) = inl h
      go (inr (inl e)) = inr e
      go (inr (inr h)) = absurd (clash (o.below a b) (below_by a b (subst (Above o)
          (R.ring K.laws (a ∷ b ∷ []) (R.neg (minus R.x₀ R.x₁)) (minus R.x₁ R.x₀) refl) h)) t)

  pub of_least : (a b : F) → Least o (a - b) → T (not (o.below a b))
  of_least a b h = go (o.below a b) refl h
    where
      back : Above o (b - a) → Least o (a - b) → ⊥
      back t (inl u) = not_both (a - b) u (subst (Above o) (R.ring K.laws (a ∷ b ∷ []) (minus R.x₁ R.x₀) (R.neg (minus R.x₀ R.x₁)) refl) t)
      back t (inr e) = not_above_zero (subst (Above o) (R.ring_by K.laws (a ∷ b ∷ []) (minus R.x₁ R.x₀) (R.con (pos 0)) (R.con (negsuc 0)) (minus R.x₀ R.x₁) (R.con (pos 0)) e refl) t)

      go : (c : Bool) → o.below a b ≡ c → Least o (a - b) → T (not c)
      go true e h = back (by_below a b (subst T (sym e) tt)) h
      go false e h = tt

  pub minus_zero : (a : F) → a - 𝟘 ≡ a
  minus_zero a = R.ring K.laws (a ∷ []) (minus R.x₀ (R.con (pos 0))) R.x₀ refl

  -- not below 0
  pub at_least : (a : F) → T (not (o.below a 𝟘)) → Least o a
  at_least a t = subst (Least o) (minus_zero a) (least_of a 𝟘 t)

  -- ---- the solver

  signed-look : (ρ : Env F) (s : Env Sign) → Signed o ρ s → (v : ℕ) → (T (is_least (sign s v)) → Least o (look (ring_of o) ρ v)) × (T (is_above (sign s v)) → Above o (look (ring_of o) ρ v))
  signed-look [] [] g v = (λ t. inl K.one_above, λ t. K.one_above)
  signed-look [] (b ∷ s) g v = absurd g
  signed-look (x ∷ ρ) [] g v = absurd g
  signed-look (x ∷ ρ) (>0 ∷ s) g zero = (λ t. inl g.0, λ t. g.0)
  signed-look (x ∷ ρ) (>0 ∷ s) g (suc v) = signed-look ρ s g.1 v
  signed-look (x ∷ ρ) (≥0 ∷ s) g zero = (λ t. g.0, λ t. absurd t)
  signed-look (x ∷ ρ) (≥0 ∷ s) g (suc v) = signed-look ρ s g.1 v
  signed-look (x ∷ ρ) (any ∷ s) g zero = (λ t. absurd t, λ t. absurd t)
  signed-look (x ∷ ρ) (any ∷ s) g (suc v) = signed-look ρ s g v

  module _ (ρ : Env F) (s : Env Sign) (g : Signed o ρ s) where
    least_M : (m : Mono) → T (least_m s m) → Least o (val_m (ring_of o) ρ m)
    unfolding val_m
    least_M one t = inl K.one_above
    least_M (v · m) t = mul_least _ _ ((signed-look ρ s g v).0 (both_left (is_least (sign s v)) (least_m s m) t)) (least_M m (both_right (is_least (sign s v)) (least_m s m) t))

    above_M : (m : Mono) → T (strict_m s m) → Above o (val_m (ring_of o) ρ m)
    unfolding val_m
    above_M one t = K.one_above
    above_M (v · m) t = K.mul_above _ _ ((signed-look ρ s g v).1 (both_left (is_above (sign s v)) (strict_m s m) t)) (above_M m (both_right (is_above (sign s v)) (strict_m s m) t))

    least_P : (p : Poly) → T (up s p) → Least o (val_p (ring_of o) ρ p)
    unfolding val_p
    least_P nil t = inr refl
    least_P (term (pos zero) m p) t = absurd t
    least_P (term (pos (suc c)) m p) t = add_least _ _ (mul_least _ _ (inl (whole_above K c)) (least_M m (both_left (least_m s m) (up s p) t))) (least_P p (both_right (least_m s m) (up s p) t))
    least_P (term (negsuc c) m p) t = absurd t

    above_P : (p : Poly) → T (up s p) → T (some s p) → Above o (val_p (ring_of o) ρ p)
    unfolding val_p
    above_P nil t u = absurd u
    above_P (term (pos zero) m p) t u = absurd t
    above_P (term (pos (suc c)) m p) t u = go (strict_m s m) refl u (above_P p (both_right (least_m s m) (up s p) t))
      where
        go : (b : Bool) → strict_m s m ≡ b → T (either b (some s p)) → (T (some s p) → Above o (val_p (ring_of o) ρ p))
            → Above o (o.lit (pos (suc c)) 0 * val_m (ring_of o) ρ m + val_p (ring_of o) ρ p)
        go true e u h = above_least _ _ (K.mul_above _ _ (whole_above K c) (above_M m (subst T (sym e) tt))) (least_P p (both_right (least_m s m) (up s p) t))
        go false e u h = least_above _ _ (mul_least _ _ (inl (whole_above K c)) (least_M m (both_left (least_m s m) (up s p) t))) (h u)
    above_P (term (negsuc c) m p) t u = absurd t

    above_E : (e : Expr) → T (strict s (norm e)) → Above o (R.eval (ring_of o) ρ e)
    above_E e t = subst (Above o) (norm_is K.laws ρ e) (above_P (norm e) (both_left _ _ t) (both_right (up s (norm e)) _ t))

    least_E : (e : Expr) → T (up s (norm e)) → Least o (R.eval (ring_of o) ρ e)
    least_E e t = subst (Least o) (norm_is K.laws ρ e) (least_P (norm e) t)

    -- no divisor is 0
    fine : (e : Formula) (more : Type 0) → T (tame s e) → more → Fine o ρ e more
    fine (var v) more t k = k
    fine (lit z d) more t k = k
    fine (a ⊕ b) more t k = fine a _ (both_left _ _ t) (fine b more (both_right (tame s a) _ t) k)
    fine (a ⊖ b) more t k = fine a _ (both_left _ _ t) (fine b more (both_right (tame s a) _ t) k)
    fine (a ⊗ b) more t k = fine a _ (both_left _ _ t) (fine b more (both_right (tame s a) _ t) k)
    fine (neg a) more t k = fine a more t k
    fine (a ⊘ b) more t k =
        let u : T (both (tame s b) (strict s (norm (quot b).num))) = both_right (tame s a) _ t in
        let q = sound K ρ b (Unit {0}) (fine b (Unit {0}) (both_left _ _ u) tt) in
        fine a _ (both_left _ _ t) (fine b _ (both_left _ _ u)
        ((λ e. nonzero _ (above_E (quot b).num (both_right (tame s b) _ u)) (sym q.0.1 ∙ ap (λ x. x * R.eval (ring_of o) ρ (quot b).den) e ∙ zero-mul (R.eval (ring_of o) ρ (quot b).den))), k))

    -- two formulas with one sum of the cross products have one value, if every divisor is seen to be above 0
    pub equal : (e f : Formula) → T (both (tame s e) (tame s f)) → norm (times (quot e).num (quot f).den) ≡ norm (times (quot f).num (quot e).den) → eval o ρ e ≡ eval o ρ f
    equal e f t h = field K ρ e f (fine e _ (both_left _ _ t) (fine f _ (both_right (tame s e) _ t) tt)) h

    -- the same from a fact p = q, where the difference of the cross products is c (p − q)
    pub equal_by : (e f : Formula) (c p q : Expr) → R.eval (ring_of o) ρ p ≡ R.eval (ring_of o) ρ q → T (both (tame s e) (tame s f))
        → norm (plus (times (quot e).num (quot f).den) (times c q)) ≡ norm (plus (times (quot f).num (quot e).den) (times c p)) → eval o ρ e ≡ eval o ρ f
    equal_by e f c p q g t h = crossed K ρ e f (fine e _ (both_left _ _ t) (fine f _ (both_right (tame s e) _ t) tt))
        (R.ring_by K.laws ρ (times (quot e).num (quot f).den) (times (quot f).num (quot e).den) c p q g h)

    pub above : (e : Formula) → T (both (tame s e) (both (strict s (norm (quot e).num)) (strict s (norm (quot e).den)))) → Above o (eval o ρ e)
    above e t =
        let q = sound K ρ e (Unit {0}) (fine e (Unit {0}) (both_left _ _ t) tt) in
        let u : T (both (strict s (norm (quot e).num)) (strict s (norm (quot e).den))) = both_right (tame s e) _ t in
        factor_above _ _ (above_E (quot e).den (both_right (strict s (norm (quot e).num)) _ u)) (subst (Above o) (sym q.0.1) (above_E (quot e).num (both_left _ _ u)))

    pub least : (e : Formula) → T (both (tame s e) (both (up s (norm (quot e).num)) (strict s (norm (quot e).den)))) → Least o (eval o ρ e)
    least e t =
        let q = sound K ρ e (Unit {0}) (fine e (Unit {0}) (both_left _ _ t) tt) in
        let u : T (both (up s (norm (quot e).num)) (strict s (norm (quot e).den))) = both_right (tame s e) _ t in
        factor_least _ _ (above_E (quot e).den (both_right (up s (norm (quot e).num)) _ u)) (subst (Least o) (sym q.0.1) (least_E (quot e).num (both_left _ _ u)))

-- ---- the formulas are found, and each variable stands with what is known of it:
-- `equal! K (gt0 a h (free b end)) (search forms depth 30) tt refl`

module _ {F : Type 0} (o : FieldOps F) where
  pub data Known : Type 0 where
    end : Known
    gt0 : (a : F) → Above o a → Known → Known
    ge0 : (a : F) → Least o a → Known → Known
    free : (a : F) → Known → Known

module _ {F : Type 0} {o : FieldOps F} where
  abbrev pub values : Known o → Env F
  values end = []
  values (gt0 a h k) = a ∷ values k
  values (ge0 a h k) = a ∷ values k
  values (free a k) = a ∷ values k

  abbrev pub signs : Known o → Env Sign
  signs end = []
  signs (gt0 a h k) = >0 ∷ signs k
  signs (ge0 a h k) = ≥0 ∷ signs k
  signs (free a k) = any ∷ signs k

  known : (k : Known o) → Signed o (values k) (signs k)
  known end = tt
  known (gt0 a h k) = (h, known k)
  known (ge0 a h k) = (h, known k)
  known (free a k) = known k

module _ {F : Type 0} {o : FieldOps F} (K : OrderedField o) (k : Known o) where
  pub equal! : {a b : F} (p : Forms o (values k) a b) → T (both (tame (signs k) p.left.formula) (tame (signs k) p.right.formula))
      → norm (times (quot p.left.formula).num (quot p.right.formula).den) ≡ norm (times (quot p.right.formula).num (quot p.left.formula).den) → a ≡ b
  equal! p t h = sym p.left.is ∙ equal K (values k) (signs k) (known k) p.left.formula p.right.formula t h ∙ p.right.is

  pub equal_by! : (c : F) {a b x y : F} → x ≡ y → (p : FactForms o (values k) a b c x y)
      → T (both (tame (signs k) p.goal.left.formula) (tame (signs k) p.goal.right.formula))
      → norm (plus (times (quot p.goal.left.formula).num (quot p.goal.right.formula).den) (times p.factor.expr p.fact.right.expr))
      ≡ norm (plus (times (quot p.goal.right.formula).num (quot p.goal.left.formula).den) (times p.factor.expr p.fact.left.expr)) → a ≡ b
  equal_by! c g p t h = sym p.goal.left.is
      ∙ equal_by K (values k) (signs k) (known k) p.goal.left.formula p.goal.right.formula p.factor.expr p.fact.left.expr p.fact.right.expr
      (p.fact.left.is ∙ g ∙ sym p.fact.right.is) t h
      ∙ p.goal.right.is

  pub above! : {a : F} (p : Form o (values k) a)
      → T (both (tame (signs k) p.formula) (both (strict (signs k) (norm (quot p.formula).num)) (strict (signs k) (norm (quot p.formula).den)))) → Above o a
  above! p t = subst (Above o) p.is (above K (values k) (signs k) (known k) p.formula t)

  pub least! : {a : F} (p : Form o (values k) a)
      → T (both (tame (signs k) p.formula) (both (up (signs k) (norm (quot p.formula).num)) (strict (signs k) (norm (quot p.formula).den)))) → Least o a
  least! p t = subst (Least o) p.is (least K (values k) (signs k) (known k) p.formula t)
