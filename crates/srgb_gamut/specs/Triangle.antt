-- The triangle that approximates a hue's part of sRGB, and soft minima of its two sides.
use Rattle.std.specs.Prelude.{pos}
use Rattle.number.specs.Decimals.{plus, minus}
use Rattle.number.specs.Ops.{Ops}
use Rattle.gamut.specs.declared.direction.Direction.{Direction}
use Rattle.srgb_gamut.specs.declared.cusp.LC.{LC}
use Rattle.srgb_gamut.specs.declared.triangle.ST.{ST}
use Rattle.srgb_gamut.specs.declared.triangle.Sides.{Sides}

module _ {N : Type 0} (o : Ops N) where
  infixl 60 ◌+◌ ◌-◌
  infixl 70 ◌*◌ ◌/◌
  open o use {add as ◌+◌, sub as ◌-◌, mul as ◌*◌, div as ◌/◌, sqrt, whole, literal}

  abbrev one : N
  one = whole (pos 1)

  -- the triangle of a cusp
  abbrev pub st_of : LC N → ST N
  st_of c = record { s = c.chroma / c.lightness; t = c.chroma / (one - c.lightness) }

  -- a cubic in a, by Horner's rule
  abbrev pub cubic : (a k0 k1 k2 k3 : N) → N
  cubic a k0 k1 k2 k3 = k0 + a * (k1 + a * (k2 + a * k3))

  -- a smooth approximation of the triangle of the cusp, found by optimization
  abbrev pub mid_s : Direction N → N
  mid_s h =
      let a = h.a in
      let b = h.b in
      literal (plus 11516993 8) + one / (
      literal (plus 744778970 8) + literal (plus 415901240 8) * b
      + a * (literal (minus 219557347 8) + literal (plus 175198401 8) * b
      + a * (literal (minus 213704948 8) - literal (plus 1002301043 8) * b
      + a * (literal (minus 424894561 8) + literal (plus 538770819 8) * b + literal (plus 469891013 8) * a))))

  abbrev pub mid_t : Direction N → N
  mid_t h =
      let a = h.a in
      let b = h.b in
      literal (plus 11239642 8) + one / (
      literal (plus 161320320 8) - literal (plus 68124379 8) * b
      + a * (literal (plus 40370612 8) + literal (plus 90148123 8) * b
      + a * (literal (minus 27087943 8) + literal (plus 61223990 8) * b
      + a * (literal (plus 299215 8) - literal (plus 45399568 8) * b - literal (plus 14661872 8) * a))))

  abbrev pub mid : Direction N → ST N
  mid h = record { s = mid_s h; t = mid_t h }

  -- the chromas of the sides at a lightness: the triangle's largest chroma is the smaller
  abbrev pub sides : ST N → N → Sides N
  sides x l = record { lower = l * x.s; upper = (one - l) * x.t }

  abbrev pub parallel : Sides N → N
  parallel c = one / (one / c.lower + one / c.upper)

  -- soft minima, by the second and by the fourth power, in place of the triangle's sharp one
  abbrev pub soft_min2 : Sides N → N
  soft_min2 c = sqrt (one / (one / (c.lower * c.lower) + one / (c.upper * c.upper)))

  abbrev pub soft_min4 : Sides N → N
  soft_min4 c =
      sqrt (sqrt (one / (one / (c.lower * c.lower * c.lower * c.lower) + one / (c.upper * c.upper * c.upper * c.upper))))
