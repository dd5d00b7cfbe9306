-- What an answered query tells, over an exact arithmetic: its three numbers are fractions, and as such accepted.
use Rattle.std.proofs.Common.{◌≡◌, Bool, true, false, cond, T, pos, Ok, Err, sym, refl, ◌∙◌, ap₂}
use Rattle.std.proofs.lemmas.Bool.{and_parts, or_parts, not-false}
use Rattle.fault.specs.declared.faults.NumberFault.TheVariants.{Boundary}
use Rattle.rational.specs.Curve.{Accepted}
use Rattle.rational.specs.Rational.{Rational, exact}
use Rattle.number.specs.Exactness.{Exactness}
use Rattle.number.specs.Meaning.{Meaning, fraction}
use Rattle.number.specs.Ops.{Ops}
use Rattle.gamut.specs.Curve.{three}
use Rattle.gamut.specs.Maps.{map_values}
use Rattle.gamut.specs.declared.chroma.ChromaValues.{ChromaValues}
use Rattle.boundary.specs.Rule.{refuses, first_trace, admitted, untold}
use Rattle.strip.proofs.Results.{so, err_no_ok, ok_inj, value}
use Rattle.strip.proofs.Told.{zero-kept}

module _ (o : Ops Meaning) (E : Exactness o) where
  pub lt_true : {m n : Meaning} {x y : Rational} → m ≡ fraction x → n ≡ fraction y → o.lt m n ≡ true → T (exact.below x y)
  lt_true p q h = so (sym (E.lt.value _ _) ∙ sym (ap₂ o.lt p q) ∙ h)

  pub record Answered (l : Meaning) (v : ChromaValues Meaning) : Type 0 where
    pub values : ChromaValues Rational
    pub are : v ≡ map_values fraction values
    pub accepted : Accepted exact (three values)
    pub above_0 : o.lt (o.whole (pos 0)) l ≡ true
    pub below_1 : o.lt l (o.whole (pos 1)) ≡ true

  let_in : (l : Meaning) (v : ChromaValues Meaning) → refuses o l v ≡ false → Answered l v
  let_in l v h =
      let f = or_parts _ _ h in
      let g = or_parts _ _ f.1 in
      let s = or_parts _ _ g.0 in
      let s' = or_parts _ _ s.1 in
      let u = and_parts _ _ (not-false _ f.0) in
      let k = and_parts _ _ (not-false _ g.1) in
      let k' = and_parts _ _ k.1 in
      let (z, ez) = value o E v.zero s.0 in
      let (m, em) = value o E v.mid s'.0 in
      let (x, ex) = value o E v.max s'.1 in
      record {
        values = record { zero = z; mid = m; max = x };
        are = λ i. record { zero = ez i; mid = em i; max = ex i };
        accepted = (lt_true (zero-kept o E) ez k.0, lt_true (zero-kept o E) em k'.0, lt_true em ex k'.1);
        above_0 = u.0;
        below_1 = u.1;
      }

  pub admitted_ok : (l : Meaning) (v : ChromaValues Meaning) {w : ChromaValues Meaning} → admitted o untold l v ≡ Ok w → Answered l v × (v ≡ w)
  admitted_ok l v {w} e = go (refuses o l v) refl e
    where
      go : (b : Bool) → refuses o l v ≡ b → cond b (Err (Boundary (first_trace o untold l v))) (Ok v) ≡ Ok w → Answered l v × (v ≡ w)
      go true h f = absurd (err_no_ok f)
      go false h f = (let_in l v h, ok_inj f)
