-- Okhsv to Okhwb and back.
use Rattle.std.specs.Prelude.{ℕ, Bool, cond, not, ◌&&◌, List, [], ◌∷◌, pos, Err, Option, Result}
use Rattle.fault.specs.declared.faults.NumberFault.{NumberFault}
use Rattle.fault.specs.declared.faults.NumberFault.TheVariants.{Range, Direction}
use Rattle.gamut.specs.Maps.{map_direction}
use Rattle.number.specs.Ops.{Ops}
use Rattle.oklab.specs.Checks.{in_unit, hue_and_shares_in_range, settled}
use Rattle.oklab.specs.declared.okhsv.Okhsv.{Okhsv}
use Rattle.oklab.specs.declared.okhwb.Okhwb.{Okhwb}

module _ {N M : Type 0} (f : N → M) where
  abbrev pub map_okhsv : Okhsv N → Okhsv M
  map_okhsv c = record { hue = map_direction f c.hue; saturation = f c.saturation; value = f c.value }

  abbrev pub map_okhwb : Okhwb N → Okhwb M
  map_okhwb c = record { hue = map_direction f c.hue; whiteness = f c.whiteness; blackness = f c.blackness }

-- the numbers of a colour, in the order in which an answer's are checked
abbrev pub okhsv_numbers : {N : Type 0} → Okhsv N → List N
okhsv_numbers c = c.hue.a ∷ c.hue.b ∷ c.saturation ∷ c.value ∷ []

abbrev pub okhwb_numbers : {N : Type 0} → Okhwb N → List N
okhwb_numbers c = c.hue.a ∷ c.hue.b ∷ c.whiteness ∷ c.blackness ∷ []

module _ {N : Type 0} (o : Ops N) (traced : N → Option (ℕ × ℕ)) where
  open o use {sub, mul, div, le, spoiled, divisor, whole}

  abbrev pub settled_okhsv : Okhsv N → Result (Okhsv N) NumberFault
  settled_okhsv c = settled o traced (okhsv_numbers c) c

  abbrev pub settled_okhwb : Okhwb N → Result (Okhwb N) NumberFault
  settled_okhwb c = settled o traced (okhwb_numbers c) c

  -- no number spoiled, saturation and value in 0..1
  abbrev pub okhsv_in_range : Okhsv N → Bool
  okhsv_in_range c = hue_and_shares_in_range o c.hue c.saturation c.value

  -- no number spoiled, whiteness and blackness in 0..1, whiteness ≤ 1 − blackness
  abbrev pub okhwb_in_range : Okhwb N → Bool
  okhwb_in_range c =
      not (spoiled c.hue.a)
      && (not (spoiled c.hue.b) && (in_unit o c.whiteness && (in_unit o c.blackness && le c.whiteness (sub (whole (pos 1)) c.blackness))))

  abbrev pub okhwb_with : Okhsv N → Okhwb N
  okhwb_with c = record { hue = c.hue; whiteness = mul (sub (whole (pos 1)) c.saturation) c.value; blackness = sub (whole (pos 1)) c.value }

  -- Okhsv to Okhwb: 5, 6, and 8 on the answer.
  abbrev pub okhwb_of_okhsv : Okhsv N → Result (Okhwb N) NumberFault
  okhwb_of_okhsv c = cond (okhsv_in_range c) (cond (o.direction c.hue.a c.hue.b) (settled_okhwb (okhwb_with c)) (Err Direction)) (Err Range)

  -- saturation 0 where the value v is no valid divisor
  abbrev pub okhsv_with : Okhwb N → N → Okhsv N
  okhsv_with c v = record { hue = c.hue; saturation = cond (divisor v) (sub (whole (pos 1)) (div c.whiteness v)) (whole (pos 0)); value = v }

  -- Okhwb to Okhsv: 5, 6, and 8 on the answer.
  abbrev pub okhsv_of_okhwb : Okhwb N → Result (Okhsv N) NumberFault
  okhsv_of_okhwb c =
      cond (okhwb_in_range c)
      (cond (o.direction c.hue.a c.hue.b) (settled_okhsv (okhsv_with c (sub (whole (pos 1)) c.blackness))) (Err Direction))
      (Err Range)
