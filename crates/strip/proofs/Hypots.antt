-- The hypot of numbers whose squares add up to that of c, above 0, is c, where not lost.
use Rattle.std.proofs.Common.{◌≡◌, Bool, true, false, cond, not, ◌&&◌, T, pos, sym, refl, ap, ◌∙◌, subst, ap₂, inl, inr}
use Rattle.rational.specs.Algebra.{FieldOps, OrderedField, zero_of}
use Rattle.rational.specs.Rational.{Rational, exact}
use Rattle.rational.proofs.Compared.{decide_equal}
use Rattle.rational.proofs.Field.{NonZero, factor_zero, formulas, #, x₀}
use Rattle.rational.proofs.Order.{Above, Least, nonzero, not_above_zero, least_above, mul_least, at_least, by_below}
use Rattle.rational.proofs.Rationals.{rational_field}
use Rattle.rational.proofs.Ring as R
use Rattle.rational.proofs.Ring.{[], ◌∷◌, ring!, ring_by!, reads}
use Rattle.number.specs.Exactness.{Exactness}
use Rattle.number.specs.Formulas.{size, lengthened, hypot_of_sizes, hypot}
use Rattle.number.specs.Meaning.{Meaning, lost, fraction, OrLost}
use Rattle.number.specs.Ops.{Ops}
use Rattle.strip.proofs.Told.{told_1, told_is, told_at, told_either, lost_left, lost_right, zero-kept}
use Rattle.strip.proofs.Toes.{Rooted, root_told}

module _ {F : Type 0} {o : FieldOps F} (K : OrderedField o) where
  infixl 60 ◌+◌ ◌-◌
  infixl 70 ◌*◌ ◌/◌
  abbrev ◌+◌ : F → F → F
  a + b = o.add a b

  abbrev ◌-◌ : F → F → F
  a - b = o.sub a b

  abbrev ◌*◌ : F → F → F
  a * b = o.mul a b

  abbrev ◌/◌ : F → F → F
  a / b = o.div a b

  abbrev 𝟘 : F
  𝟘 = zero_of o

  abbrev 𝟙 : F
  𝟙 = o.lit (pos 1) 0

  root_unique : (r s : F) → Least o r → Above o s → r * r ≡ s * s → r ≡ s
  root_unique r s h k e = ring_by! K.laws (r ∷ s ∷ []) 𝟙 zeros (search reads depth 30) refl
    where
      zeros : r - s ≡ 𝟘
      zeros = factor_zero K (r - s) (r + s) (nonzero K (r + s) (least_above K r s h k)) (ring_by! K.laws (r ∷ s ∷ []) 𝟙 e (search reads depth 30) refl)

  -- m × the root of 1 + (n ÷ m)²
  scaled-root : (m n c r : F) → NonZero o m → Least o m → Least o r → Above o c → m * m + n * n ≡ c * c → r * r ≡ 𝟙 + (n / m) * (n / m) → m * r ≡ c
  scaled-root m n c r d h k g e f = root_unique (m * r) c (mul_least K m r h k) g
      (R.ring_from K.laws (m ∷ n ∷ c ∷ r ∷ n / m ∷ [])
      (R.◌⊗◌ (R.◌⊗◌ R.x₀ R.x₃) (R.◌⊗◌ R.x₀ R.x₃)) (R.◌⊗◌ R.x₂ R.x₂)
      (R.fact (R.◌⊗◌ R.x₀ R.x₀) (R.◌⊗◌ R.x₃ R.x₃) (R.◌⊕◌ (R.con (pos 1)) (R.◌⊗◌ R.x₄ R.x₄)) f
      (R.fact (R.◌⊕◌ (R.◌⊗◌ R.x₄ R.x₀) R.x₁) (R.◌⊗◌ R.x₄ R.x₀) R.x₁ (K.div_mul n m d)
      (R.fact (R.con (pos 1)) (R.◌⊕◌ (R.◌⊗◌ R.x₀ R.x₀) (R.◌⊗◌ R.x₁ R.x₁)) (R.◌⊗◌ R.x₂ R.x₂) e R.none))) refl)

  zero_minus : (a : F) → 𝟘 - a ≡ o.neg a
  zero_minus a = ring! K.laws (a ∷ []) (search reads) refl

  neg-square : (a : F) → o.neg a * o.neg a ≡ a * a
  neg-square a = ring! K.laws (a ∷ []) (search reads) refl

  -- the size of a, by the test
  size_least : (a : F) → Least o (cond (o.below a 𝟘) (o.neg a) a)
  size_least a = go (o.below a 𝟘) refl
    where
      go : (b : Bool) → o.below a 𝟘 ≡ b → Least o (cond b (o.neg a) a)
      go true e = inl (subst (Above o) (zero_minus a) (by_below K a 𝟘 (subst T (sym e) tt)))
      go false e = at_least K a (subst (λ b. T (not b)) (sym e) tt)

  size-square : (a : F) (b : Bool) → cond b (o.neg a) a * cond b (o.neg a) a ≡ a * a
  size-square a true = neg-square a
  size-square a false = refl

  zero-squares : (c : F) → Above o c → ¬ (𝟘 * 𝟘 + 𝟘 * 𝟘 ≡ c * c)
  zero-squares c h e = not_above_zero K (subst (Above o) (sym e ∙ ring! K.laws [] (search reads) refl) (K.mul_above c c h h))

abbrev size_x : Rational → Rational
size_x a = cond (exact.below a (zero_of exact)) (exact.neg a) a

module _ (o : Ops Meaning) (E : Exactness o) where
  size_told : (a : Rational) → OrLost (size o (fraction a)) (size_x a)
  size_told a = told_either _ _ (ap (o.lt (fraction a)) (zero-kept o E) ∙ E.lt.value a (zero_of exact)) (E.neg a).value (inr refl)

  quotient_lost : {m q : Meaning} → q ≡ lost → lengthened o m q ≡ lost
  quotient_lost e = lost_right E.mul (ap o.sqrt (lost_right E.add (lost_left E.mul e)) ∙ E.sqrt.lost_operand)

  lengthened_told : (m n : Meaning) (x y c : Rational) → OrLost m x → OrLost n y → Least exact x → Above exact c
      → exact.add (exact.mul x x) (exact.mul y y) ≡ exact.mul c c → OrLost (lengthened o m (o.div n m)) c
  lengthened_told m n x y c (inl p) q h g e = inl (lost_left E.mul p)
  lengthened_told m n x y c (inr p) (inl q) h g e = inl (quotient_lost (lost_left E.div q))
  lengthened_told m n x y c (inr p) (inr q) h g e = told_at (ap₂ (λ k l. lengthened o k (o.div l k)) p q) (go (decide_equal x (zero_of exact)) (E.div.value y x))
    where
      rooted : NonZero exact x → Rooted (o.sqrt (o.add (o.whole (pos 1)) (o.mul (o.div (fraction y) (fraction x)) (o.div (fraction y) (fraction x)))))
          (exact.add (exact.lit (pos 1) 0) (exact.mul (exact.div y x) (exact.div y x)))
          → OrLost (lengthened o (fraction x) (o.div (fraction y) (fraction x))) c
      rooted d (inl k) = inl (lost_right E.mul k)
      rooted d (inr (r, k, s)) = told_at (ap (o.mul (fraction x)) k)
          (told_is (scaled-root rational_field x y c r d h (at_least rational_field r s.0) g e s.1) (E.mul.value x r))

      go : Dec (x ≡ zero_of exact) → OrLost (o.div (fraction y) (fraction x)) (exact.div y x) → OrLost (lengthened o (fraction x) (o.div (fraction y) (fraction x))) c
      go (yes z) f = inl (quotient_lost (ap (λ k. o.div (fraction y) (fraction k)) z ∙ E.div_zero (fraction y)))
      go (no d) f = rooted d (root_told o.sqrt E.sqrt _ _
          (told_1 o E f (formulas.add (# 1) (formulas.mul x₀ x₀))))

  pub hypot_told : (a b c : Rational) → Above exact c → exact.add (exact.mul a a) (exact.mul b b) ≡ exact.mul c c → OrLost (hypot o (fraction a) (fraction b)) c
  hypot_told a b c g e = go (o.eq (fraction a) (o.whole (pos 0))) (o.eq (fraction b) (o.whole (pos 0))) refl refl
    where
      squares : exact.add (exact.mul (size_x a) (size_x a)) (exact.mul (size_x b) (size_x b)) ≡ exact.mul c c
      squares = ap₂ exact.add (size-square rational_field a (exact.below a (zero_of exact))) (size-square rational_field b (exact.below b (zero_of exact))) ∙ e

      -- either size may lead
      either_way : (k : Bool) → OrLost (cond k (lengthened o (size o (fraction b)) (o.div (size o (fraction a)) (size o (fraction b))))
          (lengthened o (size o (fraction a)) (o.div (size o (fraction b)) (size o (fraction a))))) c
      either_way true = lengthened_told _ _ (size_x b) (size_x a) c (size_told b) (size_told a) (size_least rational_field b) g (rational_field.laws.add_comm _ _ ∙ squares)
      either_way false = lengthened_told _ _ (size_x a) (size_x b) c (size_told a) (size_told b) (size_least rational_field a) g squares

      main : OrLost (hypot_of_sizes o (size o (fraction a)) (size o (fraction b))) c
      main = either_way (o.lt (size o (fraction a)) (size o (fraction b)))

      null : (x : Rational) → o.eq (fraction x) (o.whole (pos 0)) ≡ true → x ≡ zero_of exact
      null x k = (E.eq x (zero_of exact)).0 (ap (o.eq (fraction x)) (sym (zero-kept o E)) ∙ k)

      go : (p q : Bool) → o.eq (fraction a) (o.whole (pos 0)) ≡ p → o.eq (fraction b) (o.whole (pos 0)) ≡ q
          → OrLost (cond (p && q) (o.whole (pos 0)) (hypot_of_sizes o (size o (fraction a)) (size o (fraction b)))) c
      go true true f h = absurd (zero-squares rational_field c g (ap₂ (λ x y. exact.add (exact.mul x x) (exact.mul y y)) (sym (null a f)) (sym (null b h)) ∙ e))
      go true false f h = main
      go false q f h = main
