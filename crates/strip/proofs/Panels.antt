-- What the panel drew: no number of it is lost, and each means the exact one.
use Rattle.std.proofs.Common.{◌≡◌, ℕ, ◌+◌, ◌≤◌, Bool, true, false, cond, ◌&&◌, T, eqb, leb, [], ◌∷◌, ℤ, pos, Ok, Err, Result, sym, refl, ap, ◌∙◌, subst, ap₂, true≢false}
use Rattle.fault.specs.declared.faults.NumberFault.{NumberFault}
use Rattle.std.proofs.lemmas.Bool.{and_parts, leb-true}
use Rattle.fault.specs.declared.faults.NumberFault.TheVariants.{Range, Direction}
use Rattle.fault.specs.declared.faults.TurnFault.TheVariants.{Valve, Number}
use Rattle.rational.specs.Algebra.{zero_of}
use Rattle.rational.specs.Curve.{curve, Accepted}
use Rattle.rational.specs.Rational.{Rational, exact}
use Rattle.rational.specs.Toe.{toe_inv}
use Rattle.rational.proofs.Field.{formulas, x₀}
use Rattle.number.specs.Exactness.{Exactness}
use Rattle.number.specs.Meaning.{Meaning, fraction, OrLost}
use Rattle.number.specs.Ops.{Ops}
use Rattle.number.specs.declared.fault.Stage.TheVariants.{Toe}
use Rattle.gamut.specs.Curve.{three, chroma}
use Rattle.gamut.specs.Maps.{map_values, map_oklab}
use Rattle.gamut.specs.Toe.{toe_inv as toe_inv_of}
use Rattle.gamut.specs.declared.chroma.ChromaValues.{ChromaValues}
use Rattle.gamut.specs.declared.direction.Direction.{Direction as Dir}
use Rattle.gamut.specs.declared.oklab.Oklab.{Oklab}
use Rattle.boundary.specs.Query.{Gamut, map_query}
use Rattle.boundary.specs.Rule.{admitted, untold}
use Rattle.boundary.specs.declared.query.Query.{Query}
use Rattle.oklab.specs.Okhsl.{oklab_steps, okhsl_in_range, oklab_with, settled_oklab, grey}
use Rattle.oklab.specs.Steps.{Steps, ends, asks, then_step, run, and_then}
use Rattle.oklab.specs.declared.okhsl.Okhsl.{Okhsl}
use Rattle.valve_log.specs.Ranges.{valve_right, in_scale}
use Rattle.valve_log.specs.declared.reading.Reading.{Reading}
use Rattle.strip.specs.Strip.{in_turn, unless_refused, expansion, four_way, mixing, direction_of, ratio, shade_of, draw_steps}
use Rattle.strip.proofs.Curves.{curve_told}
use Rattle.strip.proofs.Queries.{lt_true, admitted_ok}
use Rattle.strip.proofs.Readings.{ratio_x, lightness_not_0, lightness_not_1}
use Rattle.strip.proofs.Results.{err_no_ok, then_ok, run_then, turn_ok, settled_ok, alive, alive_mul, eq_other}
use Rattle.strip.proofs.Told.{told_1, told_at, binary_told, number_told, sure, zero-kept, one_kept}

-- the colour of Oklab's lightness l with the chroma x in the direction d
abbrev pub painted : Rational → Rational → Dir Rational → Oklab Rational
painted l x d = record { l = l; a = exact.mul x d.a; b = exact.mul x d.b }

-- the query of lightness l in the direction d
abbrev pub place : Rational → Dir Rational → Query Meaning
place l d = map_query fraction (record { lightness = l; hue = d })

-- each number of d is lost or that of e
abbrev pub Turned : Dir Meaning → Dir Rational → Type 0
Turned d e = OrLost d.a e.a × OrLost d.b e.b

-- a colour drawn with saturation s in the direction d, by the three numbers that g has for it
pub record Drawn (g : Gamut) (d : Dir Rational) (s l : Rational) (c : Oklab Meaning) : Type 0 where
  pub values : ChromaValues Rational
  pub accepted : Accepted exact (three values)
  pub given : g (place l d) ≡ map_values fraction values
  pub above_0 : T (exact.below (zero_of exact) l)
  pub below_1 : T (exact.below l (exact.lit (pos 1) 0))
  pub colour : c ≡ map_oklab fraction (painted l (curve exact (three values) s) d)

-- a reading that was drawn
pub record Shown (g : Gamut) (r : Reading) (c : Oklab Meaning) : Type 0 where
  pub valve_from : 1 ≤ r.valve
  pub valve_to : r.valve ≤ 3
  pub cool : r.temperature ≤ 100
  pub narrow : r.opening ≤ 1000
  pub drawn : Drawn g (direction_of ratio_x r.valve) (ratio_x (pos r.opening) 1000) (toe_inv exact (ratio_x (pos (10 + r.temperature)) 120)) c

module _ (o : Ops Meaning) (E : Exactness o) where
  ratio_told : (z : ℤ) (n : ℕ) → OrLost (ratio o z n) (ratio_x z n)
  ratio_told z n = binary_told E.div (number_told o E z 0) (number_told o E (pos n) 0)

  direction_told : (v : ℕ) → Turned (direction_of (ratio o) v) (direction_of ratio_x v)
  direction_told v = go (eqb v 1) (eqb v 2)
    where
      go : (p q : Bool) → Turned (cond p (expansion (ratio o)) (cond q (four_way (ratio o)) (mixing (ratio o)))) (cond p (expansion ratio_x) (cond q (four_way ratio_x) (mixing ratio_x)))
      go true q = (ratio_told _ _, ratio_told _ _)
      go false true = (ratio_told _ _, ratio_told _ _)
      go false false = (ratio_told _ _, ratio_told _ _)

  module _ (g : Gamut) where
    abbrev asked : Okhsl Meaning → Query Meaning
    asked h = record { lightness = toe_inv_of o h.lightness; hue = h.hue }

    -- what follows the query
    answered-drawn : (h : Okhsl Meaning) (d : Dir Rational) (s l : Rational) (c : Oklab Meaning) → Turned h.hue d → OrLost h.saturation s → OrLost h.lightness l
        → and_then (admitted o untold (toe_inv_of o h.lightness) (g (asked h))) (λ w. settled_oklab o untold (oklab_with o untold h (toe_inv_of o h.lightness) w)) ≡ Ok c
        → Drawn g d s (toe_inv exact l) c
    answered-drawn h d s l c pd ps pl e =
        let (w, ew, es) = then_ok _ _ e in
        let (n, same) = admitted_ok o E (toe_inv_of o h.lightness) (g (asked h)) ew in
        let is : w ≡ map_values fraction n.values = sym same ∙ n.are in
        let c' = oklab_with o untold h (toe_inv_of o h.lightness) w in
        let (u, ec) = settled_ok o (c'.l ∷ c'.a ∷ c'.b ∷ []) c' es in
        let ma = alive_mul o E (alive o E u.1.0) in
        let mb = alive_mul o E (alive o E u.1.1.0) in
        let el = sure (told_at (E.mark Toe _) (told_1 o E pl (toe_inv formulas x₀))) (alive o E u.0) in
        let ea = sure pd.0 ma.1 in
        let eb = sure pd.1 mb.1 in
        let x = curve exact (three n.values) s in
        let ex : chroma o w h.saturation ≡ fraction x
        = sure (told_at (ap (λ t. chroma o t h.saturation) is) (curve_told o E n.values h.saturation s n.accepted ps)) ma.0 in
        let ax = sure (told_at (ap₂ o.mul ex ea) (E.mul.value x d.a)) (alive o E u.1.0) in
        let bx = sure (told_at (ap₂ o.mul ex eb) (E.mul.value x d.b)) (alive o E u.1.1.0) in
        let at : asked h ≡ place (toe_inv exact l) d = λ i. record { lightness = el i; hue = record { a = ea i; b = eb i } } in
        let seen : c' ≡ map_oklab fraction (painted (toe_inv exact l) x d) = λ i. record { l = el i; a = ax i; b = bx i } in
        record {
          values = n.values;
          accepted = n.accepted;
          given = sym (ap g at) ∙ n.are;
          above_0 = lt_true o E (zero-kept o E) el n.above_0;
          below_1 = lt_true o E el (one_kept o E) n.below_1;
          colour = subst (λ z. z ≡ map_oklab fraction (painted (toe_inv exact l) x d)) ec seen;
        }

    abbrev query : Okhsl Meaning → Steps Meaning (Result (Oklab Meaning) NumberFault)
    query h = asks (asked h)
        (λ v. and_then (admitted o untold (toe_inv_of o h.lightness) v) (λ w. settled_oklab o untold (oklab_with o untold h (toe_inv_of o h.lightness) w)))

    -- the conversion of a colour that is neither white nor black
    converted : (h : Okhsl Meaning) (d : Dir Rational) (s l : Rational) (c : Oklab Meaning) → Turned h.hue d → OrLost h.saturation s → OrLost h.lightness l
        → ¬ (l ≡ exact.lit (pos 1) 0) → ¬ (l ≡ zero_of exact) → run g (oklab_steps o untold h) ≡ Ok c → Drawn g d s (toe_inv exact l) c
    unfolding oklab_steps
    converted h d s l c pd ps pl n1 n0 e = answered-drawn h d s l c pd ps pl
        (go (okhsl_in_range o untold h) (o.direction h.hue.a h.hue.b) (o.eq h.lightness (o.whole (pos 1))) (o.eq h.lightness (o.whole (pos 0)))
        (ap (o.eq h.lightness) (one_kept o E) ∙ eq_other o E h.lightness l (exact.lit (pos 1) 0) pl n1)
        (ap (o.eq h.lightness) (zero-kept o E) ∙ eq_other o E h.lightness l (zero_of exact) pl n0) e)
      where
        -- in range, a direction, not white, not black
        go : (p q w b : Bool) → w ≡ false → b ≡ false
            → run g (cond p (cond q (cond w (ends (settled_oklab o untold (grey o untold (o.whole (pos 1))))) (cond b (ends (settled_oklab o untold (grey o untold (o.whole (pos 0))))) (query h))) (ends (Err Direction))) (ends (Err Range))) ≡ Ok c
            → run g (query h) ≡ Ok c
        go true true true b f k e = absurd (true≢false f)
        go true true false true f k e = absurd (true≢false k)
        go true true false false f k e = e
        go true false w b f k e = absurd (err_no_ok e)
        go false q w b f k e = absurd (err_no_ok e)

    pub panel : (r : Reading) (c : Oklab Meaning) → run g (draw_steps o untold r) ≡ Ok c → Shown g r c
    panel r c e = go (valve_right r) (in_scale r) refl refl e
      where
        shown : valve_right r ≡ true → in_scale r ≡ true → run g (oklab_steps o untold (shade_of o r)) ≡ Ok c → Shown g r c
        shown hv hs f =
            let v = and_parts (leb 1 r.valve) (leb r.valve 3) hv in
            let s = and_parts (leb r.minute 1439 && leb r.temperature 100) (leb r.opening 1000) hs in
            let cool = leb-true r.temperature 100 (and_parts (leb r.minute 1439) (leb r.temperature 100) s.0).1 in
            record {
              valve_from = leb-true 1 r.valve v.0;
              valve_to = leb-true r.valve 3 v.1;
              cool = cool;
              narrow = leb-true r.opening 1000 s.1;
              drawn = converted (shade_of o r) _ _ _ c (direction_told r.valve) (ratio_told (pos r.opening) 1000) (ratio_told (pos (10 + r.temperature)) 120)
                  (lightness_not_1 r.temperature cool) (lightness_not_0 r.temperature) f;
            }

        go : (p q : Bool) → valve_right r ≡ p → in_scale r ≡ q
            → run g (unless_refused (cond p (cond q (Ok tt) (Err (Number Range))) (Err Valve)) (then_step in_turn (oklab_steps o untold (shade_of o r)))) ≡ Ok c → Shown g r c
        go true true hv hs f = shown hv hs (turn_ok _ (sym (run_then g in_turn (oklab_steps o untold (shade_of o r))) ∙ f))
        go true false hv hs f = absurd (err_no_ok f)
        go false q hv hs f = absurd (err_no_ok f)
