-- Oklab to Oklch, lightness with chroma and hue, and back.
use Rattle.std.specs.Prelude.{ℕ, Bool, cond, not, ◌&&◌, List, [], ◌∷◌, pos, Err, Option, Result}
use Rattle.fault.specs.declared.faults.NumberFault.{NumberFault}
use Rattle.fault.specs.declared.faults.NumberFault.TheVariants.{Range, Direction, Lost}
use Rattle.gamut.specs.declared.direction.Direction.{Direction as Hue}
use Rattle.gamut.specs.declared.oklab.Oklab.{Oklab}
use Rattle.gamut.specs.Maps.{map_direction}
use Rattle.number.specs.Formulas.{hypot}
use Rattle.number.specs.Ops.{Ops}
use Rattle.oklab.specs.Checks.{in_unit, settled}
use Rattle.oklab.specs.Hues.{hue_zero, direction_with}
use Rattle.oklab.specs.Okhsl.{settled_oklab, oklab_in_range}
use Rattle.oklab.specs.declared.oklch.Oklch.{Oklch}

module _ {N M : Type 0} (f : N → M) where
  abbrev pub map_oklch : Oklch N → Oklch M
  map_oklch c = record { l = f c.l; chroma = f c.chroma; hue = map_direction f c.hue }

-- the numbers of a colour, in the order in which an answer's are checked
abbrev pub oklch_numbers : {N : Type 0} → Oklch N → List N
oklch_numbers c = c.l ∷ c.chroma ∷ c.hue.a ∷ c.hue.b ∷ []

module _ {N : Type 0} (o : Ops N) (traced : N → Option (ℕ × ℕ)) where
  open o use {mul, max, eq, spoiled, whole}

  abbrev pub settled_oklch : Oklch N → Result (Oklch N) NumberFault
  settled_oklch c = settled o traced (oklch_numbers c) c

  -- the hue of a colour with the chroma x: its direction, or hue 0 when the chroma is 0
  abbrev pub hue_of : Oklab N → N → Hue N
  hue_of c x = cond (eq x (whole (pos 0))) (hue_zero o) (direction_with o c x)

  -- with the chroma x: 8 if it is spoiled, then on the answer
  abbrev pub oklch_of_chroma : Oklab N → N → Result (Oklch N) NumberFault
  oklch_of_chroma c x = cond (spoiled x) (Err (Lost (traced x))) (settled_oklch (record { l = c.l; chroma = x; hue = hue_of c x }))

  -- Oklab to Oklch.
  abbrev pub oklch_of_oklab : Oklab N → Result (Oklch N) NumberFault
  oklch_of_oklab c = cond (oklab_in_range o traced c) (oklch_of_chroma c (hypot o c.a c.b)) (Err Range)

  -- no number spoiled, lightness in 0..1
  abbrev pub oklch_in_range : Oklch N → Bool
  oklch_in_range c = in_unit o c.l && (not (spoiled c.chroma) && (not (spoiled c.hue.a) && not (spoiled c.hue.b)))

  -- a chroma below 0 counts as 0
  abbrev pub oklab_with_chroma : Oklch N → N → Oklab N
  oklab_with_chroma c x = record { l = c.l; a = mul c.hue.a x; b = mul c.hue.b x }

  -- Oklch to Oklab: 5, 6, and 8 on the answer.
  abbrev pub oklab_of_oklch : Oklch N → Result (Oklab N) NumberFault
  oklab_of_oklch c =
      cond (oklch_in_range c)
      (cond (o.direction c.hue.a c.hue.b) (settled_oklab o traced (oklab_with_chroma c (max c.chroma (whole (pos 0)))))
      (Err Direction))
      (Err Range)
