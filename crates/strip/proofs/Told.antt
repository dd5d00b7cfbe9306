-- Numbers that are lost or a known fraction: over an exact arithmetic, a formula of such numbers is one.
use Rattle.std.proofs.Common.{◌≡◌, ℕ, zero, suc, Bool, true, false, cond, ℤ, pos, negsuc, sym, ap, ◌∙◌, subst, ap₂, inl, inr, lit≤}
use Rattle.rational.specs.Algebra.{ring_of, zero_of}
use Rattle.rational.specs.Rational.{Rational, exact, computes}
use Rattle.rational.specs.Curve.{knee}
use Rattle.rational.proofs.Ring.{Env, [], ◌∷◌, look}
use Rattle.rational.proofs.Field.{Formula, var, lit, ◌⊕◌, ◌⊖◌, ◌⊗◌, neg, ◌⊘◌, eval}
use Rattle.number.specs.Decimals.{plus, minus}
use Rattle.number.specs.Exactness.{Exactness, Binary, Small}
use Rattle.number.specs.Meaning.{Meaning, lost, fraction, OrLost}
use Rattle.number.specs.Ops.{Ops, number, basic}

-- what is not lost is the known fraction
pub sure : {m : Meaning} {x : Rational} → OrLost m x → ¬ (m ≡ lost) → m ≡ fraction x
sure (inl e) h = absurd (h e)
sure (inr e) h = e

pub told_is : {m : Meaning} {x y : Rational} → x ≡ y → OrLost m x → OrLost m y
told_is {m} e h = subst (OrLost m) e h

pub told_at : {m n : Meaning} {x : Rational} → m ≡ n → OrLost n x → OrLost m x
told_at {x} e h = subst (λ k. OrLost k x) (sym e) h

pub told_either : (b c : Bool) {m n : Meaning} {x y : Rational} → b ≡ c → OrLost m x → OrLost n y → OrLost (cond b m n) (cond c x y)
told_either b c {m} {n} {x} {y} e p q = subst (λ k. OrLost (cond k m n) (cond c x y)) (sym e) (go c)
  where
    go : (c : Bool) → OrLost (cond c m n) (cond c x y)
    go true = p
    go false = q

module _ {op : Meaning → Meaning → Meaning} {defined : Rational → Rational → Type 0} {f : Rational → Rational → Rational} (L : Binary op defined f) where
  pub lost_left : {m n : Meaning} → m ≡ lost → op m n ≡ lost
  lost_left {n} e = ap (λ k. op k n) e ∙ L.lost_left n

  pub lost_right : {m n : Meaning} → n ≡ lost → op m n ≡ lost
  lost_right {m} e = ap (op m) e ∙ L.lost_right m

  pub binary_told : {m n : Meaning} {x y : Rational} → OrLost m x → OrLost n y → OrLost (op m n) (f x y)
  binary_told (inl p) q = inl (lost_left p)
  binary_told (inr p) (inl q) = inl (lost_right q)
  binary_told {x} {y} (inr p) (inr q) = told_at (ap₂ op p q) (L.value x y)

small_0 : Small (exact.lit (pos 0) 0)
unfolding computes
small_0 = record { numerator = lit≤ tt; denominator = lit≤ tt }

small_1 : Small (exact.lit (pos 1) 0)
unfolding computes
small_1 = record { numerator = lit≤ tt; denominator = lit≤ tt }

small_knee : Small (knee exact)
unfolding computes
small_knee = record { numerator = lit≤ tt; denominator = lit≤ tt }

-- each of the numbers is lost or the known fraction
abbrev pub Each : Env Meaning → Env Rational → Type 0
Each [] [] = Unit {0}
Each [] (x ∷ xs) = ⊥
Each (m ∷ ms) [] = ⊥
Each (m ∷ ms) (x ∷ xs) = OrLost m x × Each ms xs

module _ (o : Ops Meaning) (E : Exactness o) where
  -- the constants on which tests rest are not lost
  pub zero-kept : o.whole (pos 0) ≡ fraction (zero_of exact)
  zero-kept = (E.whole (pos 0)).kept small_0

  pub one_kept : o.whole (pos 1) ≡ fraction (exact.lit (pos 1) 0)
  one_kept = (E.whole (pos 1)).kept small_1

  pub knee-kept : knee (basic o) ≡ fraction (knee exact)
  knee-kept = (E.literal (plus 8 1)).kept small_knee

  pub number_told : (z : ℤ) (k : ℕ) → OrLost (number o z k) (exact.lit z k)
  number_told z zero = (E.whole z).value
  number_told (pos n) (suc k) = (E.literal (plus n (suc k))).value
  number_told (negsuc n) (suc k) = (E.literal (minus (suc n) (suc k))).value

  look_told : (ms : Env Meaning) (xs : Env Rational) → Each ms xs → (v : ℕ) → OrLost (look (ring_of (basic o)) ms v) (look (ring_of exact) xs v)
  look_told [] [] h v = number_told (pos 1) 0
  look_told [] (x ∷ xs) h v = absurd h
  look_told (m ∷ ms) [] h v = absurd h
  look_told (m ∷ ms) (x ∷ xs) h zero = h.0
  look_told (m ∷ ms) (x ∷ xs) h (suc v) = look_told ms xs h.1 v

  pub told : (ms : Env Meaning) (xs : Env Rational) → Each ms xs → (e : Formula) → OrLost (eval (basic o) ms e) (eval exact xs e)
  told ms xs h (var v) = look_told ms xs h v
  told ms xs h (lit z k) = number_told z k
  told ms xs h (a ⊕ b) = binary_told E.add (told ms xs h a) (told ms xs h b)
  told ms xs h (a ⊖ b) = binary_told E.sub (told ms xs h a) (told ms xs h b)
  told ms xs h (a ⊗ b) = binary_told E.mul (told ms xs h a) (told ms xs h b)
  told ms xs h (neg a) = minus_told (told ms xs h a)
    where
      minus_told : OrLost (eval (basic o) ms a) (eval exact xs a) → OrLost (o.neg (eval (basic o) ms a)) (exact.neg (eval exact xs a))
      minus_told (inl p) = inl (ap o.neg p ∙ E.neg_lost)
      minus_told (inr p) = told_at (ap o.neg p) (E.neg _).value
  told ms xs h (a ⊘ b) = binary_told E.div (told ms xs h a) (told ms xs h b)

  -- a formula of one operand, and of two
  pub told_1 : {m : Meaning} {x : Rational} → OrLost m x → (e : Formula) → OrLost (eval (basic o) (m ∷ []) e) (eval exact (x ∷ []) e)
  told_1 {m} {x} p e = told (m ∷ []) (x ∷ []) (p, tt) e

  pub told_2 : {m n : Meaning} {x y : Rational} → OrLost m x → OrLost n y → (e : Formula) → OrLost (eval (basic o) (m ∷ n ∷ []) e) (eval exact (x ∷ y ∷ []) e)
  told_2 {m} {n} {x} {y} p q e = told (m ∷ n ∷ []) (x ∷ y ∷ []) (p, (q, tt)) e
