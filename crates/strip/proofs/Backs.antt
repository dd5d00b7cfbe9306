-- The conversion of a drawn colour back to Okhsl: its chroma, its query, and the colour that comes of it.
use Rattle.std.proofs.Common.{◌≡◌, Bool, true, false, cond, not, ◌&&◌, ◌||◌, T, List, [], ◌∷◌, pos, Ok, Err, Result, sym, refl, ap, ◌∙◌, subst, inr, true≢false}
use Rattle.fault.specs.declared.faults.NumberFault.{NumberFault}
use Rattle.fault.specs.declared.faults.NumberFault.TheVariants.{Range, Lost}
use Rattle.rational.specs.Algebra.{zero_of}
use Rattle.rational.specs.Rational.{Rational, exact}
use Rattle.rational.proofs.Order.{Above, nonzero, not_above_zero, by_below}
use Rattle.rational.proofs.Rationals.{rational_field}
use Rattle.rational.proofs.Ring as R
use Rattle.rational.proofs.Ring.{ring!, reads}
use Rattle.number.specs.Exactness.{Exactness}
use Rattle.number.specs.Formulas.{size, hypot_of_sizes, hypot}
use Rattle.number.specs.Meaning.{Meaning, fraction, OrLost}
use Rattle.number.specs.Ops.{Ops}
use Rattle.gamut.specs.Maps.{map_values, map_oklab}
use Rattle.gamut.specs.declared.chroma.ChromaValues.{ChromaValues}
use Rattle.gamut.specs.declared.direction.Direction.{Direction}
use Rattle.gamut.specs.declared.oklab.Oklab.{Oklab}
use Rattle.boundary.specs.Query.{Gamut}
use Rattle.boundary.specs.Rule.{admitted, untold}
use Rattle.oklab.specs.Hues.{direction_with}
use Rattle.oklab.specs.Okhsl.{oklab_in_range, okhsl_grey, is_grey, okhsl_with, okhsl_of_chroma, okhsl_steps, settled_okhsl}
use Rattle.oklab.specs.Steps.{Steps, ends, asks, run, and_then}
use Rattle.oklab.specs.declared.okhsl.Okhsl.{Okhsl}
use Rattle.strip.proofs.Hypots.{hypot_told}
use Rattle.strip.proofs.Panels.{painted, place}
use Rattle.strip.proofs.Queries.{admitted_ok}
use Rattle.strip.proofs.Readings.{along_x, stretched, unstretched}
use Rattle.strip.proofs.Results.{decides_false, err_no_ok, then_ok, settled_ok, alive, eq_other}
use Rattle.strip.proofs.Told.{told_is, sure, zero-kept, one_kept}

-- the numbers of a colour
abbrev numbers : Okhsl Meaning → List Meaning
numbers h = h.hue.a ∷ h.hue.b ∷ h.saturation ∷ h.lightness ∷ []

module _ (o : Ops Meaning) (g : Gamut) (c : Oklab Meaning) (h : Okhsl Meaning) where
  in_range : run g (okhsl_steps o untold c) ≡ Ok h → run g (okhsl_of_chroma o untold c (hypot o c.a c.b)) ≡ Ok h
  unfolding okhsl_steps
  in_range e = go (oklab_in_range o untold c) e
    where
      go : (b : Bool) → run g (cond b (okhsl_of_chroma o untold c (hypot o c.a c.b)) (ends (Err Range))) ≡ Ok h → run g (okhsl_of_chroma o untold c (hypot o c.a c.b)) ≡ Ok h
      go true e = e
      go false e = absurd (err_no_ok e)

  -- with the chroma x
  module _ (x : Meaning) where
    abbrev grey : Steps Meaning (Result (Okhsl Meaning) NumberFault)
    grey = ends (settled_okhsl o untold (okhsl_grey o untold c))

    abbrev query : Steps Meaning (Result (Okhsl Meaning) NumberFault)
    query = asks (record { lightness = c.l; hue = direction_with o c x }) (λ v. and_then (admitted o untold c.l v) (λ w. settled_okhsl o untold (okhsl_with o untold c x w)))

    chroma_unspoiled : run g (okhsl_of_chroma o untold c x) ≡ Ok h → o.spoiled x ≡ false
    chroma_unspoiled e = go (o.spoiled x) refl e
      where
        go : (s : Bool) → o.spoiled x ≡ s → run g (cond s (ends (Err (Lost (untold x)))) (cond (is_grey o untold c x) grey query)) ≡ Ok h → o.spoiled x ≡ false
        go true f e = absurd (err_no_ok e)
        go false f e = f

    is_grey_lem : is_grey o untold c x ≡ true → run g (okhsl_of_chroma o untold c x) ≡ Ok h → h ≡ okhsl_grey o untold c
    is_grey_lem k e = go (o.spoiled x) (is_grey o untold c x) k e
      where
        go : (s b : Bool) → b ≡ true → run g (cond s (ends (Err (Lost (untold x)))) (cond b grey query)) ≡ Ok h → h ≡ okhsl_grey o untold c
        go true b k e = absurd (err_no_ok e)
        go false true k e = sym (settled_ok o (numbers (okhsl_grey o untold c)) (okhsl_grey o untold c) e).1
        go false false k e = absurd (true≢false (sym k))

    not_grey : is_grey o untold c x ≡ false → run g (okhsl_of_chroma o untold c x) ≡ Ok h → run g query ≡ Ok h
    not_grey k e = go (o.spoiled x) (is_grey o untold c x) k e
      where
        go : (s b : Bool) → b ≡ false → run g (cond s (ends (Err (Lost (untold x)))) (cond b grey query)) ≡ Ok h → run g query ≡ Ok h
        go true b k e = absurd (err_no_ok e)
        go false true k e = absurd (true≢false k)
        go false false k e = e

-- the hue of a colour with the chroma x
pub quotient : (o : Ops Meaning) → Exactness o → (x : Rational) → Above exact x → (y : Rational) → OrLost (o.div (fraction (exact.mul x y)) (fraction x)) y
quotient o E x p y = told_is (unstretched x y p) (E.div.value (exact.mul x y) x)

zero-times : (y : Rational) → exact.mul (zero_of exact) y ≡ zero_of exact
zero-times y = ring! rational_field.laws (R.◌∷◌ y R.[]) (search reads) refl

module _ (o : Ops Meaning) (E : Exactness o) (g : Gamut) (l : Rational) (d : Direction Rational) (h : Okhsl Meaning) where
  -- a colour without chroma is a grey
  pub grey-back : run g (okhsl_steps o untold (map_oklab fraction (painted l (zero_of exact) d))) ≡ Ok h → h ≡ okhsl_grey o untold (map_oklab fraction (painted l (zero_of exact) d))
  grey-back e = is_grey_lem o g c h (hypot o c.a c.b) nothing (in_range o g c h e)
    where
      c : Oklab Meaning
      c = map_oklab fraction (painted l (zero_of exact) d)

      null : (y : Rational) → o.eq (fraction (exact.mul (zero_of exact) y)) (o.whole (pos 0)) ≡ true
      null y = (λ i. o.eq (fraction (zero-times y i)) (zero-kept o E i)) ∙ (E.eq (zero_of exact) (zero_of exact)).1 refl

      chroma : hypot o c.a c.b ≡ fraction (zero_of exact)
      chroma = ap (λ b. cond b (o.whole (pos 0)) (hypot_of_sizes o (size o c.a) (size o c.b))) (λ i. null d.a i && null d.b i) ∙ zero-kept o E

      no_divisor : o.divisor (fraction (zero_of exact)) ≡ false
      no_divisor = decides_false _ (E.divisor (zero_of exact)) (λ n. n refl)

      nothing : is_grey o untold c (hypot o c.a c.b) ≡ true
      nothing = ap (λ x. is_grey o untold c x) chroma ∙ ap (λ b. not b || (o.eq c.l (o.whole (pos 1)) || not (o.divisor c.l))) no_divisor

  module _ (x : Rational) (v : ChromaValues Rational) (p : Above exact x) (unit : along_x d d ≡ exact.lit (pos 1) 0)
      (above_0 : Above exact l) (below_1 : T (exact.below l (exact.lit (pos 1) 0))) (given : g (place l d) ≡ map_values fraction v) where
    abbrev c : Oklab Meaning
    c = map_oklab fraction (painted l x d)

    not_white : o.eq (fraction l) (o.whole (pos 1)) ≡ false
    not_white = ap (o.eq (fraction l)) (one_kept o E) ∙ eq_other o E (fraction l) l (exact.lit (pos 1) 0) (inr refl) other
      where
        other : ¬ (l ≡ exact.lit (pos 1) 0)
        other e = not_above_zero rational_field (subst (Above exact) (ap (exact.sub (exact.lit (pos 1) 0)) e ∙ ring! rational_field.laws R.[] (search reads) refl)
            (by_below rational_field l (exact.lit (pos 1) 0) below_1))

    coloured : is_grey o untold c (fraction x) ≡ false
    coloured = λ i. not ((E.divisor x).1 (nonzero rational_field x p) i) || (not_white i || not ((E.divisor l).1 (nonzero rational_field l above_0) i))

    -- its chroma is x, its query that of the panel, so its three numbers are the panel's
    pub colour_back : run g (okhsl_steps o untold c) ≡ Ok h → h ≡ okhsl_with o untold c (fraction x) (map_values fraction v)
    colour_back e =
        let e₁ = in_range o g c h e in
        let chroma : hypot o c.a c.b ≡ fraction x
        = sure (hypot_told o E (exact.mul x d.a) (exact.mul x d.b) x p (stretched x d.a d.b unit)) (alive o E (chroma_unspoiled o g c h (hypot o c.a c.b) e₁)) in
        let e₂ : run g (okhsl_of_chroma o untold c (fraction x)) ≡ Ok h = subst (λ y. run g (okhsl_of_chroma o untold c y) ≡ Ok h) chroma e₁ in
        let (w, ew, es) = then_ok _ _ (not_grey o g c h (fraction x) coloured e₂) in
        let h' = okhsl_with o untold c (fraction x) w in
        let (u, eh) = settled_ok o (numbers h') h' es in
        let ea = sure (quotient o E x p d.a) (alive o E u.0) in
        let eb = sure (quotient o E x p d.b) (alive o E u.1.0) in
        let at : record { lightness = fraction l; hue = direction_with o c (fraction x) } ≡ place l d = λ i. record { lightness = fraction l; hue = record { a = ea i; b = eb i } } in
        let same : w ≡ map_values fraction v = sym (admitted_ok o E (fraction l) _ ew).1 ∙ ap g at ∙ given in
        sym eh ∙ ap (okhsl_with o untold c (fraction x)) same
