-- A fraction is what its meaning packs to, and a meaning within the bound is what its fraction means.
use Rattle.std.specs.Prelude.{◌≡◌, ℕ, ◌<◌, ◌≤◌, Bool, true, false, cond, ◌⊎◌, ℤ, unsigned_abs, refl}
use Rattle.std.proofs.Common.{inl, inr, sym, ap, ap₂, ◌∙◌}
use denote.Struct.Record.{values_one}
use Rattle.std.proofs.lemmas.Bool.{lt-ltb, le-leb, eq-eqb, and_from, both_ways}
use Rattle.rational.specs.Gcd.{gcd}
use Rattle.rational.specs.Rational.{Rational, num, den}
use Rattle.rational.proofs.Ratios.{same_parts}
use Rattle.number.specs.Meaning.{Meaning, lost, fraction}
use Rattle.fraction.specs.Bound.{R}
use Rattle.fraction.specs.Fractions.{value_of, meaning_of, lost_fraction, proper, made, pack, ops, plain_form, of_plain}
use Rattle.fraction.specs.declared.fraction.Fraction.{Fraction}
use Rattle.fraction.specs.declared.fraction.PlainFraction.{PlainFraction}
use Rattle.fraction.specs.contracts.fraction.Fraction.{struct, the_propositions}

-- fractions with the same data are the same
pub fraction_path : (p q : Fraction) → p.numerator ≡ q.numerator → p.denominator ≡ q.denominator → p.lost ≡ q.lost → p ≡ q
fraction_path p q n d l = values_one struct the_propositions p q (λ i. (n i, (d i, (l i, tt))))

pub proper_from : (n : ℤ) (d : ℕ) → 0 < d → d ≤ R → unsigned_abs n ≤ R → gcd (unsigned_abs n) d ≡ 1 → proper n d ≡ true
proper_from n d a b c e = and_from _ _ (lt-ltb 0 d a) (and_from _ _ (le-leb d R b) (and_from _ _ (le-leb (unsigned_abs n) R c) (eq-eqb _ _ e)))

made_is : (n : ℤ) (d : ℕ) (b : Bool) (e : proper n d ≡ b) (q : Fraction) → proper n d ≡ true → n ≡ q.numerator → d ≡ q.denominator → false ≡ q.lost → made n d b e ≡ q
unfolding made
made_is n d true e q h x y z = fraction_path _ q x y z
made_is n d false e q h x y z = absurd (both_ways (proper n d) e h)

own : (q : Fraction) → proper q.numerator q.denominator ≡ true
own q = proper_from q.numerator q.denominator q.positive q.lower q.upper q.lowest

pub pack-means : (q : Fraction) → pack (meaning_of q) ≡ q
unfolding pack
pack-means q = go q.lost refl
  where
    go : (l : Bool) → q.lost ≡ l → pack (cond l lost (fraction (value_of q))) ≡ q
    go true e = fraction_path lost_fraction q (sym (q.empty e).0) (sym (q.empty e).1) (sym e)
    go false e = made_is q.numerator q.denominator _ refl q (own q) refl refl (sym e)

-- a fraction is known by what it means
pub packed : (q : Fraction) {m : Meaning} → meaning_of q ≡ m → q ≡ pack m
packed q e = sym (pack-means q) ∙ ap pack e

-- ---- the meanings that a fraction can have

pub record Within (x : Rational) : Type 0 where
  pub upper : unsigned_abs (num x) ≤ R
  pub lower : den x ≤ R

pub data Fit : Meaning → Type 0 where
  fit_lost : Fit lost
  fit_fraction : (x : Rational) → Within x → Fit (fraction x)

made-means : (x : Rational) (b : Bool) (e : proper (num x) (den x) ≡ b) → proper (num x) (den x) ≡ true → meaning_of (made (num x) (den x) b e) ≡ fraction x
unfolding made
made-means x true e h = ap fraction (same_parts refl refl)
made-means x false e h = absurd (both_ways (proper (num x) (den x)) e h)

pub means-pack : {m : Meaning} → Fit m → meaning_of (pack m) ≡ m
unfolding pack
means-pack fit_lost = refl
means-pack (fit_fraction x w) = made-means x _ refl (proper_from (num x) (den x) x.ratio.above w.lower w.upper x.lowest)

pub meaning_fits : (q : Fraction) → Fit (meaning_of q)
meaning_fits q = go q.lost
  where
    go : (l : Bool) → Fit (cond l lost (fraction (value_of q)))
    go true = fit_lost
    go false = fit_fraction (value_of q) (record { upper = q.upper; lower = q.lower })

-- ---- plain forms

pub plain_back : (q : Fraction) → of_plain (plain_form q) ≡ q
plain_back q = go q.lost refl
  where
    go : (l : Bool) → q.lost ≡ l → cond l lost_fraction (made q.numerator q.denominator (proper q.numerator q.denominator) refl) ≡ q
    go true e = fraction_path lost_fraction q (sym (q.empty e).0) (sym (q.empty e).1) (sym e)
    go false e = made_is q.numerator q.denominator _ refl q (own q) refl refl (sym e)

pub lost_is : (q : Fraction) → meaning_of q ≡ lost → q ≡ lost_fraction
unfolding pack
lost_is q e = packed q e

-- by the flag, and by the two numbers
at_flag : (p : PlainFraction) (b : Bool) → p.lost ≡ b → of_plain p ≡ cond b lost_fraction (made p.numerator p.denominator (proper p.numerator p.denominator) refl)
at_flag p b e = ap (λ l. cond l lost_fraction (made p.numerator p.denominator (proper p.numerator p.denominator) refl)) e

pub plain_lost : (p : PlainFraction) → p.lost ≡ true → of_plain p ≡ lost_fraction
plain_lost p l = at_flag p true l

pub plain_unfit : (p : PlainFraction) → p.lost ≡ false → proper p.numerator p.denominator ≡ false → of_plain p ≡ lost_fraction
unfolding made
plain_unfit p l h = at_flag p false l ∙ go (proper p.numerator p.denominator) refl h
  where
    go : (b : Bool) (e : proper p.numerator p.denominator ≡ b) → b ≡ false → made p.numerator p.denominator b e ≡ lost_fraction
    go true e f = absurd (both_ways true f refl)
    go false e f = refl

pub plain_fit : (p : PlainFraction) (q : Fraction) → p.lost ≡ false → p.numerator ≡ q.numerator → p.denominator ≡ q.denominator → false ≡ q.lost → of_plain p ≡ q
plain_fit p q l n d k = at_flag p false l ∙ made_is p.numerator p.denominator _ refl q (ap₂ proper n d ∙ own q) n d k

pub plain_or_lost : (p : PlainFraction) → (plain_form (of_plain p) ≡ p) ⊎ (ops.spoiled (of_plain p) ≡ true)
unfolding made
plain_or_lost p = go p.lost refl
  where
    form : (b : Bool) (e : proper p.numerator p.denominator ≡ b) → p.lost ≡ false → (plain_form (made p.numerator p.denominator b e) ≡ p) ⊎ (ops.spoiled (made p.numerator p.denominator b e) ≡ true)
    form true e l = inl (λ i. record { numerator = p.numerator; denominator = p.denominator; lost = sym l i })
    form false e l = inr refl

    go : (l : Bool) → p.lost ≡ l → (plain_form (cond l lost_fraction (made p.numerator p.denominator (proper p.numerator p.denominator) refl)) ≡ p)
        ⊎ (ops.spoiled (cond l lost_fraction (made p.numerator p.denominator (proper p.numerator p.denominator) refl)) ≡ true)
    go true e = inr refl
    go false e = form _ refl e
