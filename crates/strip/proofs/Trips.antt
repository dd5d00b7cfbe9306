-- The return trip of a reading.
use Rattle.std.proofs.Common.{◌≡◌, ℕ, zero, suc, ◌+◌, cond, T, eqb, pos, Ok, sym, ap, ◌∙◌, subst, inl, lit≤}
use Rattle.rational.specs.Algebra.{zero_of}
use Rattle.rational.specs.Curve.{Three, curve, Accepted, UnitRange}
use Rattle.rational.specs.Rational.{Rational, exact}
use Rattle.rational.specs.Toe.{toe_inv}
use Rattle.rational.proofs.Curve.{curve_holds}
use Rattle.rational.proofs.Order.{Above}
use Rattle.number.specs.Exactness.{Exactness}
use Rattle.number.specs.Meaning.{Meaning, fraction, OrLost}
use Rattle.number.specs.Ops.{Ops}
use Rattle.gamut.specs.Curve.{three}
use Rattle.gamut.specs.Maps.{map_values, map_oklab}
use Rattle.gamut.specs.Toe.{toe}
use Rattle.gamut.specs.declared.oklab.Oklab.{Oklab}
use Rattle.boundary.specs.Query.{Gamut}
use Rattle.boundary.specs.Rule.{untold}
use Rattle.oklab.specs.Okhsl.{okhsl_grey, okhsl_with, okhsl_steps}
use Rattle.oklab.specs.Steps.{run, and_then}
use Rattle.oklab.specs.declared.okhsl.Okhsl.{Okhsl}
use Rattle.strip.specs.Strip.{in_turn, direction_of, indication_of, read_steps}
use Rattle.strip.specs.Trip.{ReturnTrip}
use Rattle.strip.specs.declared.indication.Indication.{Indication}
use Rattle.strip.proofs.Backs.{grey-back, quotient, colour_back}
use Rattle.strip.proofs.Curves.{saturation_told}
use Rattle.strip.proofs.Pages.{indication_is, valve_is}
use Rattle.strip.proofs.Panels.{painted, Shown, panel}
use Rattle.strip.proofs.Readings.{ratio_x, not_below_0, saturation_range, saturation_above, saturation-zero, lightness_above, fit}
use Rattle.strip.proofs.Results.{then_ok, run_then, turn_ok}
use Rattle.strip.proofs.Told.{told_is, number_told}
use Rattle.strip.proofs.Toes.{toe_told}

-- a saturation above 0 has a chroma above 0
curve_above : (c : Three Rational) → Accepted exact c → (s : Rational) → UnitRange exact c s → Above exact s → Above exact (curve exact c s)
curve_above c ok s g h = subst (λ x. T (exact.below x (curve exact c s))) (curve_holds c ok).at_0 ((curve_holds c ok).rises (zero_of exact) s zero_range g h)
  where
    zero_range : UnitRange exact c (zero_of exact)
    zero_range = subst (UnitRange exact c) saturation-zero (saturation_range c 0 (lit≤ tt))

-- the lightness of a reading and of its colour
abbrev light : ℕ → Rational
light t = ratio_x (pos (10 + t)) 120

abbrev l : ℕ → Rational
l t = toe_inv exact (light t)

module _ (o : Ops Meaning) (E : Exactness o) (g : Gamut) where
  -- a colour that was read: its colour of Okhsl, and what that indicates
  converted : (c : Oklab Meaning) (i : Indication) → run g (read_steps o untold c) ≡ Ok i → (h : Okhsl Meaning) × (run g (okhsl_steps o untold c) ≡ Ok h) × (indication_of o untold h ≡ Ok i)
  converted c i e = then_ok _ _ (turn_ok _ (sym (run_then g (λ r. in_turn (and_then r (indication_of o untold))) (okhsl_steps o untold c)) ∙ e))

  light_back : (t : ℕ) → OrLost (toe o (fraction (l t))) (light t)
  light_back t = toe_told o E (light t) (not_below_0 (light t) (inl (lightness_above t)))

  -- a closed valve has chroma 0
  closed : (m v t : ℕ) (c : Oklab Meaning) (i : Indication) → Shown g (record { minute = m; valve = v; temperature = t; opening = 0 }) c → run g (read_steps o untold c) ≡ Ok i
      → i ≡ record { valve = 0; temperature = t; opening = 0 }
  closed m v t c i k e =
      let (h, eh, ei) = converted c i e in
      let d = direction_of ratio_x v in
      let none : curve exact (three k.drawn.values) (ratio_x (pos 0) 1000) ≡ zero_of exact
      = ap (curve exact (three k.drawn.values)) saturation-zero ∙ (curve_holds (three k.drawn.values) k.drawn.accepted).at_0 in
      let same : c ≡ map_oklab fraction (painted (l t) (zero_of exact) d) = k.drawn.colour ∙ ap (λ x. map_oklab fraction (painted (l t) x d)) none in
      let is = grey-back o E g (l t) d h (subst (λ z. run g (okhsl_steps o untold z) ≡ Ok h) same eh) in
      indication_is o E (okhsl_grey o untold (map_oklab fraction (painted (l t) (zero_of exact) d))) t 0 i k.cool k.narrow (told_is (sym saturation-zero) (number_told o E (pos 0) 0)) (light_back t)
      (subst (λ z. indication_of o untold z ≡ Ok i) is ei)

  -- an open one has a chroma above 0
  opened : (m v t n : ℕ) (c : Oklab Meaning) (i : Indication) → Shown g (record { minute = m; valve = v; temperature = t; opening = suc n }) c → run g (read_steps o untold c) ≡ Ok i
      → i ≡ record { valve = cond (eqb (suc n) 0) 0 v; temperature = t; opening = suc n }
  opened m v t n c i k e =
      let (h, eh, ei) = converted c i e in
      let w = k.drawn.values in
      let ok = k.drawn.accepted in
      let s = ratio_x (pos (suc n)) 1000 in
      let d = direction_of ratio_x v in
      let f = fit v k.valve_from k.valve_to in
      let range = saturation_range (three w) (suc n) k.narrow in
      let x = curve exact (three w) s in
      let p : Above exact x = curve_above (three w) ok s range (saturation_above n) in
      let c' = map_oklab fraction (painted (l t) x d) in
      let h' = okhsl_with o untold c' (fraction x) (map_values fraction w) in
      let is : h ≡ h' = colour_back o E g (l t) d h x w p f.unit k.drawn.above_0 k.drawn.below_1 k.drawn.given (subst (λ z. run g (okhsl_steps o untold z) ≡ Ok h) k.drawn.colour eh) in
      let seen : indication_of o untold h' ≡ Ok i = subst (λ z. indication_of o untold z ≡ Ok i) is ei in
      indication_is o E h' t (suc n) i k.cool k.narrow (saturation_told o E w s ok range) (light_back t) seen
      ∙ ap (λ y. record { valve = cond (eqb (suc n) 0) 0 y; temperature = t; opening = suc n })
      (valve_is o E h' d i (quotient o E x p d.a, quotient o E x p d.b) seen ∙ f.chosen)

pub return_trip : ReturnTrip
return_trip o E g r c i p q = go r.opening (panel o E g r c p)
  where
    go : (n : ℕ) → Shown g (record { minute = r.minute; valve = r.valve; temperature = r.temperature; opening = n }) c
        → i ≡ record { valve = cond (eqb n 0) 0 r.valve; temperature = r.temperature; opening = n }
    go zero k = closed o E g r.minute r.valve r.temperature c i k q
    go (suc n) k = opened o E g r.minute r.valve r.temperature n c i k q
