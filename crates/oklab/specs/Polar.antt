-- A colour in the triangle of its hue, by hue, lightness and chroma.
use Rattle.gamut.specs.declared.direction.Direction.{Direction as Hue}
use Rattle.number.specs.Ops.{Ops}
use Rattle.srgb_gamut.specs.declared.triangle.ST.{ST}
use Rattle.oklab.specs.Okhsv.{side_lightness, side_chroma}
use Rattle.oklab.specs.declared.okhsv.Polar.{Polar}

module _ {N : Type 0} (o : Ops N) where
  -- the colour moved along the line from black
  abbrev pub times : Polar N → N → Polar N
  times c f = record { hue = c.hue; lightness = o.mul f c.lightness; chroma = o.mul f c.chroma }

  -- the colour of a saturation s on the upper side of the triangle g
  abbrev pub side_of : Hue N → ST N → N → Polar N
  side_of h g s = record { hue = h; lightness = side_lightness o g s; chroma = side_chroma o g s }
