-- What is known where a conversion was not refused.
use Rattle.std.proofs.Common.{◌≡◌, Bool, true, false, cond, T, List, [], ◌∷◌, Ok, Err, Decides, Result, sym, refl, ap, ◌∙◌, subst, inl, inr, true≢false}
use Rattle.std.proofs.lemmas.Bool.{not-true}
use Rattle.std.proofs.lemmas.Bool.Decides.{Decides-not}
use Rattle.fault.specs.declared.faults.NumberFault.{NumberFault}
use Rattle.fault.specs.declared.faults.NumberFault.TheVariants.{Lost}
use Rattle.rational.specs.Rational.{Rational}
use Rattle.number.specs.Exactness.{Exactness}
use Rattle.number.specs.Meaning.{Meaning, lost, fraction, float, OrLost}
use Rattle.number.specs.Ops.{Ops}
use Rattle.boundary.specs.Query.{Gamut}
use Rattle.boundary.specs.Rule.{untold}
use Rattle.oklab.specs.Checks.{settled}
use Rattle.oklab.specs.Steps.{Steps, ends, asks, then_step, run, and_then}
use Rattle.strip.specs.Strip.{in_turn}
use Rattle.strip.proofs.Told.{lost_left, lost_right}

pub so : {b : Bool} → b ≡ true → T b
so e = subst T (sym e) tt

-- a test of what is not so
pub decides_false : {P : Type 0} (b : Bool) → Decides b P → ¬ P → b ≡ false
decides_false b d h = not-true b ((Decides-not b d).1 h)

module _ {A E : Type 0} where
  pub err_no_ok : {f : E} {x : A} → ◌≡◌ {A = Result A E} (Err f) (Ok x) → ⊥
  err_no_ok e = cc

  pub ok_inj : {x y : A} → ◌≡◌ {A = Result A E} (Ok x) (Ok y) → x ≡ y
  ok_inj e = cc

pub then_ok : {A B E : Type 0} (r : Result A E) (f : A → Result B E) {y : B} → and_then r f ≡ Ok y → (x : A) × (r ≡ Ok x) × (f x ≡ Ok y)
then_ok (Ok x) f e = (x, refl, e)
then_ok (Err z) f e = absurd (err_no_ok e)

pub run_then : {X Y : Type 0} (g : Gamut) (f : X → Y) (s : Steps Meaning X) → run g (then_step f s) ≡ f (run g s)
run_then g f (ends x) = refl
run_then g f (asks q next) = refl

pub turn_ok : {A : Type 0} (r : Result A NumberFault) {x : A} → in_turn r ≡ Ok x → r ≡ Ok x
turn_ok (Ok y) e = ap Ok (ok_inj e)
turn_ok (Err f) e = absurd (err_no_ok e)

module _ (o : Ops Meaning) where
  abbrev pub Unspoiled : List Meaning → Type 0
  Unspoiled [] = Unit {0}
  Unspoiled (n ∷ ns) = (o.spoiled n ≡ false) × Unspoiled ns

  -- an answer whose numbers are not spoiled
  pub settled_ok : {X : Type 0} (ns : List Meaning) (x : X) {y : X} → settled o untold ns x ≡ Ok y → Unspoiled ns × (x ≡ y)
  settled_ok [] x e = (tt, ok_inj e)
  settled_ok (n ∷ ns) x {y} e = go (o.spoiled n) refl e (settled_ok ns x)
    where
      go : (b : Bool) → o.spoiled n ≡ b → cond b (Err (Lost (untold n))) (settled o untold ns x) ≡ Ok y
          → (settled o untold ns x ≡ Ok y → Unspoiled ns × (x ≡ y)) → Unspoiled (n ∷ ns) × (x ≡ y)
      go true h f rest = absurd (err_no_ok f)
      go false h f rest = ((h, (rest f).0), (rest f).1)

module _ (o : Ops Meaning) (E : Exactness o) where
  pub alive : {m : Meaning} → o.spoiled m ≡ false → ¬ (m ≡ lost)
  alive e h = true≢false (sym E.spoiled_lost ∙ ap o.spoiled (sym h) ∙ e)

  pub alive_mul : {m n : Meaning} → ¬ (o.mul m n ≡ lost) → (¬ (m ≡ lost)) × (¬ (n ≡ lost))
  alive_mul h = (λ e. h (lost_left E.mul e), λ e. h (lost_right E.mul e))

  -- a number that means no y, or nothing, is not equal to y
  pub eq_other : (m : Meaning) (x y : Rational) → OrLost m x → ¬ (x ≡ y) → o.eq m (fraction y) ≡ false
  eq_other m x y (inl e) h = ap (λ k. o.eq k (fraction y)) e ∙ E.eq_lost_left (fraction y)
  eq_other m x y (inr e) h = ap (λ k. o.eq k (fraction y)) e ∙ decides_false _ (E.eq x y) h

  -- what is not spoiled is a fraction
  pub value : (m : Meaning) → o.spoiled m ≡ false → (x : Rational) × (m ≡ fraction x)
  value lost h = absurd (true≢false (sym E.spoiled_lost ∙ h))
  value (fraction x) h = (x, refl)
  value (float x) h = absurd (true≢false (sym (E.spoiled_float x) ∙ h))
