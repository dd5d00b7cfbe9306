-- The curve and its way back over meanings: where not lost they mean the exact ones, and the saturation comes back.
use Rattle.std.proofs.Common.{◌≡◌, cond, pos, sym, refl, ap, ◌∙◌, inl, inr}
use Rattle.rational.specs.Algebra.{FieldOps, OrderedField}
use Rattle.rational.specs.Curve.{Three, knee, bend, unbend, low, low1, low2, high1, high_t, curve, back, Accepted, UnitRange}
use Rattle.rational.specs.Rational.{Rational, exact}
use Rattle.rational.proofs.Curve.{curve_holds}
use Rattle.rational.proofs.Field.{Formula, formulas, forms, eval, x₀, x₁, x₂, x₃}
use Rattle.rational.proofs.Order.{Above, gt0, free, end, equal! }
use Rattle.rational.proofs.Rationals.{rational_field}
use Rattle.rational.proofs.Ring.{[], ◌∷◌}
use Rattle.number.specs.Exactness.{Exactness}
use Rattle.number.specs.Meaning.{Meaning, lost, fraction, OrLost}
use Rattle.number.specs.Ops.{Ops, basic}
use Rattle.number.specs.declared.fault.Stage.TheVariants.{Curve}
use Rattle.gamut.specs.Curve.{out1, home1, upper2, out_high, chroma_of, home_low, home_high, saturation_of, three, chroma, saturation}
use Rattle.gamut.specs.Maps.{map_values}
use Rattle.gamut.specs.declared.chroma.ChromaValues.{ChromaValues}
use Rattle.strip.specs.Curve.{CurveMeant}
use Rattle.strip.proofs.Told.{told, told_is, told_at, told_either, lost_left, lost_right, knee-kept}
use Rattle.strip.proofs.Queries.{admitted_ok}

-- the order of a conversion's products makes no difference
module _ {F : Type 0} {o : FieldOps F} (K : OrderedField o) (c : Three F) (z : Above o c.zero) where
  out_same : out1 o c ≡ high1 o c
  out_same = equal! K (gt0 c.zero z (free c.mid end)) (search forms depth 30) tt refl

  home_same : home1 o c ≡ high1 o c
  home_same = equal! K (gt0 c.zero z (free c.mid end)) (search forms depth 30) tt refl

  chroma_same : (s : F) → chroma_of o c s ≡ curve o c s
  chroma_same s = ap (λ k. cond (o.below s (knee o)) (low o c s) (o.add c.mid (bend o k (upper2 o c k) (high_t o c s)))) out_same

  saturation_same : (x : F) → saturation_of o c x ≡ back o c x
  saturation_same x = ap (λ y. cond (o.below x c.mid) y (home_high o c x)) (K.laws.mul_comm _ _)
      ∙ ap (λ k. cond (o.below x c.mid) (o.mul (knee o) (unbend o (low1 o c) (low2 o c) x))
      (o.add (knee o) (o.mul (o.sub (o.lit (pos 1) 0) (knee o)) (unbend o k (upper2 o c k) (o.sub x c.mid))))) home_same

abbrev three_formulas : Three Formula
three_formulas = record { zero = x₀; mid = x₁; max = x₂ }

module _ (o : Ops Meaning) (E : Exactness o) (v : ChromaValues Rational) where
  abbrev meant3 : Three Meaning
  meant3 = three (map_values fraction v)

  -- a formula of the three numbers and of x
  piece_told : (x : Rational) (e : Formula)
      → OrLost (eval (basic o) (fraction v.zero ∷ fraction v.mid ∷ fraction v.max ∷ fraction x ∷ []) e)
      (eval exact (v.zero ∷ v.mid ∷ v.max ∷ x ∷ []) e)
  piece_told x e = told o E (fraction v.zero ∷ fraction v.mid ∷ fraction v.max ∷ fraction x ∷ []) (v.zero ∷ v.mid ∷ v.max ∷ x ∷ [])
      (inr refl, (inr refl, (inr refl, (inr refl, tt)))) e

  -- a lost saturation is not below the knee, and is lost in the upper piece
  upper_lost : out_high (basic o) meant3 lost ≡ lost
  upper_lost = lost_right E.add (lost_left E.div (lost_left E.mul (lost_left E.div (lost_left E.sub refl))))

  chroma_told : (m : Meaning) (s : Rational) → OrLost m s → OrLost (chroma_of (basic o) meant3 m) (chroma_of exact (three v) s)
  chroma_told m s (inl e) = inl (ap (chroma_of (basic o) meant3) e
      ∙ ap (λ b. cond b (low (basic o) meant3 lost) (out_high (basic o) meant3 lost)) (E.lt.lost_left _)
      ∙ upper_lost)
  chroma_told m s (inr e) = told_at (ap (chroma_of (basic o) meant3) e)
      (told_either _ _ (ap (o.lt (fraction s)) (knee-kept o E) ∙ E.lt.value s (knee exact))
      (piece_told s (low formulas three_formulas x₃))
      (piece_told s (out_high formulas three_formulas x₃)))

  -- the chroma of s means the curve's
  pub curve_told : (m : Meaning) (s : Rational) → Accepted exact (three v) → OrLost m s → OrLost (chroma o (map_values fraction v) m) (curve exact (three v) s)
  curve_told m s ok h = told_at (E.mark Curve _) (told_is (chroma_same rational_field (three v) ok.0 s) (chroma_told m s h))

  -- the saturation of the curve's chroma at s is s
  pub saturation_told : (s : Rational) → Accepted exact (three v) → UnitRange exact (three v) s
      → OrLost (saturation o (map_values fraction v) (fraction (curve exact (three v) s))) s
  saturation_told s ok g = told_at (E.mark Curve _) (told_is (saturation_same rational_field (three v) ok.0 x ∙ (curve_holds (three v) ok).returns s g)
      (told_either _ _ (E.lt.value x v.mid)
      (piece_told x (home_low formulas three_formulas x₃))
      (piece_told x (home_high formulas three_formulas x₃))))
    where
      x : Rational
      x = curve exact (three v) s

pub curve-meant : (o : Ops Meaning) → Exactness o → CurveMeant o
curve-meant o E g q v e =
    let (a, same) = admitted_ok o E q.lightness (g q) e in
    let are : v ≡ map_values fraction a.values = sym same ∙ a.are in
    record {
      values = a.values;
      are = are;
      accepted = a.accepted;
      chroma_means = λ m s h. told_at (ap (λ t. chroma o t m) are) (curve_told o E a.values m s a.accepted h);
    }
