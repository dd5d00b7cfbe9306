-- Oklab to Okhsv and back: a hue's part of sRGB as a triangle with a curved upper side, stretched to a square.
use Rattle.std.specs.Prelude.{ℕ, cond, pos, Err, Option, Result}
use Rattle.fault.specs.declared.faults.NumberFault.{NumberFault}
use Rattle.fault.specs.declared.faults.NumberFault.TheVariants.{Range, Direction, Lost}
use Rattle.gamut.specs.declared.direction.Direction.{Direction as Hue}
use Rattle.gamut.specs.declared.oklab.Oklab.{Oklab}
use Rattle.gamut.specs.declared.rgb.LinSrgb.{LinSrgb}
use Rattle.gamut.specs.Oklab.{oklab_to_linear_srgb}
use Rattle.gamut.specs.Toe.{toe, toe_inv}
use Rattle.number.specs.Decimals.{plus}
use Rattle.number.specs.Formulas.{hypot}
use Rattle.number.specs.Ops.{Ops}
use Rattle.srgb_gamut.specs.declared.triangle.ST.{ST}
use Rattle.srgb_gamut.specs.Cusp.{cusp}
use Rattle.srgb_gamut.specs.Triangle.{st_of}
use Rattle.oklab.specs.Hues.{hue_zero, direction_with}
use Rattle.oklab.specs.Okhsl.{settled_oklab, grey, oklab_in_range}
use Rattle.oklab.specs.Okhwb.{settled_okhsv, okhsv_in_range}
use Rattle.oklab.specs.declared.okhsv.Okhsv.{Okhsv}

module _ {N : Type 0} (o : Ops N) where
  infixl 60 ◌+◌ ◌-◌
  infixl 70 ◌*◌ ◌/◌
  open o use {add as ◌+◌, sub as ◌-◌, mul as ◌*◌, div as ◌/◌, max, cbrt, eq, divisor, whole, literal}

  abbrev one : N
  one = whole (pos 1)

  abbrev zero : N
  zero = whole (pos 0)

  abbrev half : N
  half = literal (plus 5 1)

  -- 1 − 0.5 ÷ S
  abbrev pub bend : ST N → N
  bend g = one - half / g.s

  abbrev pub brightest : LinSrgb N → N
  brightest c = max (max c.red c.green) (max c.blue zero)

  -- a lightness l and a chroma c as a colour of Oklab, with the toe undone
  abbrev pub untoed : Hue N → N → N → N → Oklab N
  untoed h l c m = record { l = m; a = h.a * (c * m / l); b = h.b * (c * m / l) }

  -- what takes a colour on the triangle's upper side to the curved one, where a channel of sRGB is 1
  unfoldable pub scale_factor : Hue N → N → N → N
  scale_factor h l c = cbrt (one / brightest (oklab_to_linear_srgb o (untoed h l c (toe_inv o l))))

  -- lightness and chroma on the triangle's upper side, by saturation
  abbrev pub side_divisor : ST N → N → N
  side_divisor g s = half + g.t - g.t * bend g * s

  abbrev pub side_lightness : ST N → N → N
  side_lightness g s = one - s * half / side_divisor g s

  abbrev pub side_chroma : ST N → N → N
  side_chroma g s = s * g.t * half / side_divisor g s

  -- the colour of a lightness l and a chroma c on the triangle, with the toe undone, scaled by f
  abbrev pub scaled : Hue N → N → N → N → N → Oklab N
  scaled h l c m f = record { l = m * f; a = c * m / l * f * h.a; b = c * m / l * f * h.b }

  -- the colour of a saturation and a value, on the triangle g
  unfoldable pub oklab_on_triangle : Okhsv N → ST N → Oklab N
  oklab_on_triangle v g =
      let l = side_lightness g v.saturation in
      let c = side_chroma g v.saturation in
      scaled v.hue (v.value * l) (v.value * c) (toe_inv o (v.value * l)) (scale_factor v.hue l c)

  -- the saturation of a chroma x on the upper side of the triangle g
  abbrev pub side_saturation : ST N → N → N
  side_saturation g x = (half + g.t) * x / (g.t * half + g.t * bend g * x)

  -- saturation and value of a colour with the chroma x and the hue h, where t takes it to the upper side of the triangle g
  unfoldable pub okhsv_on_triangle : Oklab N → N → Hue N → ST N → N → Okhsv N
  okhsv_on_triangle c x h g t = record {
    hue = h;
    saturation = side_saturation g (t * x);
    value = toe o (c.l / scale_factor h (t * c.l) (t * x)) / (t * c.l);
  }

  abbrev pub to_side : Oklab N → N → ST N → N
  to_side c x g = g.t / (x + c.l * g.t)

  abbrev pub triangle_of : Hue N → ST N
  triangle_of h = st_of o (cusp o h)

  -- a grey of a value, at hue 0
  abbrev pub okhsv_grey : N → Okhsv N
  okhsv_grey v = record { hue = hue_zero o; saturation = zero; value = v }

  abbrev pub okhsv_at : Oklab N → N → Hue N → ST N → Okhsv N
  okhsv_at c x h g = okhsv_on_triangle c x h g (to_side c x g)

  -- the colour with the chroma x, on the triangle of its hue
  abbrev pub okhsv_coloured : Oklab N → N → Okhsv N
  okhsv_coloured c x = let h = direction_with o c x in okhsv_at c x h (triangle_of h)

  -- black, then colours, then greys
  abbrev pub okhsv_with_chroma : Oklab N → N → Okhsv N
  okhsv_with_chroma c x =
      cond (eq c.l zero) (okhsv_grey zero)
      (cond (divisor x) (okhsv_coloured c x)
      (okhsv_grey (toe o c.l)))

  module _ (traced : N → Option (ℕ × ℕ)) where
    -- black, then greys, then colours
    abbrev pub oklab_of_saturation : Okhsv N → Oklab N
    oklab_of_saturation v =
        cond (eq v.value zero) (grey o traced zero)
        (cond (eq v.saturation zero) (grey o traced (toe_inv o v.value))
        (oklab_on_triangle v (triangle_of v.hue)))

    -- Okhsv to Oklab: 5, 6, and 8 on the answer.
    abbrev pub oklab_of_okhsv : Okhsv N → Result (Oklab N) NumberFault
    oklab_of_okhsv v =
        cond (okhsv_in_range o traced v)
        (cond (o.direction v.hue.a v.hue.b) (settled_oklab o traced (oklab_of_saturation v)) (Err Direction))
        (Err Range)

    -- with the chroma x: 8 if it is spoiled, then on the answer
    abbrev pub okhsv_of_chroma : Oklab N → N → Result (Okhsv N) NumberFault
    okhsv_of_chroma c x = cond (o.spoiled x) (Err (Lost (traced x))) (settled_okhsv o traced (okhsv_with_chroma c x))

    -- Oklab to Okhsv.
    abbrev pub okhsv_of_oklab : Oklab N → Result (Okhsv N) NumberFault
    okhsv_of_oklab c = cond (oklab_in_range o traced c) (okhsv_of_chroma c (hypot o c.a c.b)) (Err Range)
