-- Okhsl to Oklab and back, over any boundary.
use Rattle.std.specs.Prelude.{ℕ, Bool, cond, not, ◌&&◌, ◌||◌, List, [], ◌∷◌, pos, Err, Option, Result}
use Rattle.fault.specs.declared.faults.NumberFault.{NumberFault}
use Rattle.fault.specs.declared.faults.NumberFault.TheVariants.{Range, Direction, Lost}
use Rattle.gamut.specs.declared.chroma.ChromaValues.{ChromaValues}
use Rattle.gamut.specs.declared.oklab.Oklab.{Oklab}
use Rattle.gamut.specs.Maps.{map_direction}
use Rattle.gamut.specs.Toe.{toe, toe_inv}
use Rattle.gamut.specs.Curve.{chroma, saturation}
use Rattle.number.specs.Formulas.{hypot}
use Rattle.number.specs.Ops.{Ops}
use Rattle.boundary.specs.Rule.{admitted}
use Rattle.oklab.specs.Checks.{in_unit, hue_and_shares_in_range, settled}
use Rattle.oklab.specs.Hues.{hue_zero, direction_with}
use Rattle.oklab.specs.Steps.{Steps, ends, asks, and_then}
use Rattle.oklab.specs.declared.okhsl.Okhsl.{Okhsl}

module _ {N M : Type 0} (f : N → M) where
  abbrev pub map_okhsl : Okhsl N → Okhsl M
  map_okhsl c = record { hue = map_direction f c.hue; saturation = f c.saturation; lightness = f c.lightness }

-- the numbers of a colour, in the order in which an answer's are checked
abbrev pub oklab_numbers : {N : Type 0} → Oklab N → List N
oklab_numbers c = c.l ∷ c.a ∷ c.b ∷ []

abbrev pub okhsl_numbers : {N : Type 0} → Okhsl N → List N
okhsl_numbers c = c.hue.a ∷ c.hue.b ∷ c.saturation ∷ c.lightness ∷ []

module _ {N : Type 0} (o : Ops N) (traced : N → Option (ℕ × ℕ)) where
  open o use {mul, div, eq, spoiled, divisor, whole}

  abbrev pub settled_oklab : Oklab N → Result (Oklab N) NumberFault
  settled_oklab c = settled o traced (oklab_numbers c) c

  abbrev pub settled_okhsl : Okhsl N → Result (Okhsl N) NumberFault
  settled_okhsl c = settled o traced (okhsl_numbers c) c

  -- a grey of Oklab's lightness l
  abbrev pub grey : N → Oklab N
  grey l = record { l = l; a = whole (pos 0); b = whole (pos 0) }

  -- no number spoiled, saturation and lightness in 0..1
  abbrev pub okhsl_in_range : Okhsl N → Bool
  okhsl_in_range c = hue_and_shares_in_range o c.hue c.saturation c.lightness

  -- the colour of Oklab's lightness l with the three numbers v
  abbrev pub oklab_with : Okhsl N → N → ChromaValues N → Oklab N
  oklab_with c l v = record { l = l; a = mul (chroma o v c.saturation) c.hue.a; b = mul (chroma o v c.saturation) c.hue.b }

  -- Okhsl to Oklab: 5, 6, white and black, the query, and 8 on the answer.
  unfoldable pub oklab_steps : Okhsl N → Steps N (Result (Oklab N) NumberFault)
  oklab_steps c =
      cond (okhsl_in_range c)
      (cond (o.direction c.hue.a c.hue.b)
      (cond (eq c.lightness (whole (pos 1))) (ends (settled_oklab (grey (whole (pos 1)))))
      (cond (eq c.lightness (whole (pos 0))) (ends (settled_oklab (grey (whole (pos 0)))))
      (asks (record { lightness = toe_inv o c.lightness; hue = c.hue })
      (λ v. and_then (admitted o traced (toe_inv o c.lightness) v) (λ w. settled_oklab (oklab_with c (toe_inv o c.lightness) w))))))
      (ends (Err Direction)))
      (ends (Err Range))

  -- no number spoiled, lightness in 0..1
  abbrev pub oklab_in_range : Oklab N → Bool
  oklab_in_range c = in_unit o c.l && (not (spoiled c.a) && not (spoiled c.b))

  -- a grey of Okhsl, at hue 0
  abbrev pub okhsl_grey : Oklab N → Okhsl N
  okhsl_grey c = record { hue = hue_zero o; saturation = whole (pos 0); lightness = toe o c.l }

  -- chroma or lightness is no valid divisor, or lightness is 1
  abbrev pub is_grey : Oklab N → N → Bool
  is_grey c x = not (divisor x) || (eq c.l (whole (pos 1)) || not (divisor c.l))

  -- the colour with the chroma x and the three numbers v
  abbrev pub okhsl_with : Oklab N → N → ChromaValues N → Okhsl N
  okhsl_with c x v = record { hue = direction_with o c x; saturation = saturation o v x; lightness = toe o c.l }

  -- with the chroma x: 8 if it is spoiled, then greys, the query, and 8 on the answer
  abbrev pub okhsl_of_chroma : Oklab N → N → Steps N (Result (Okhsl N) NumberFault)
  okhsl_of_chroma c x =
      cond (spoiled x) (ends (Err (Lost (traced x))))
      (cond (is_grey c x) (ends (settled_okhsl (okhsl_grey c)))
      (asks (record { lightness = c.l; hue = direction_with o c x })
      (λ v. and_then (admitted o traced c.l v) (λ w. settled_okhsl (okhsl_with c x w)))))

  -- Oklab to Okhsl.
  unfoldable pub okhsl_steps : Oklab N → Steps N (Result (Okhsl N) NumberFault)
  okhsl_steps c = cond (oklab_in_range c) (okhsl_of_chroma c (hypot o c.a c.b)) (ends (Err Range))
