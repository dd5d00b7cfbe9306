-- The chroma values of a lightness and a hue in sRGB: from them Okhsl takes its curve from saturation to chroma.
use Rattle.std.specs.Prelude.{pos}
use Rattle.number.specs.Decimals.{plus}
use Rattle.number.specs.Ops.{Ops}
use Rattle.number.specs.declared.fault.Stage.TheVariants as stage
use Rattle.gamut.specs.declared.chroma.ChromaValues.{ChromaValues}
use Rattle.gamut.specs.declared.direction.Direction.{Direction}
use Rattle.srgb_gamut.specs.Cusp.{cusp}
use Rattle.srgb_gamut.specs.Intersection.{intersection}
use Rattle.srgb_gamut.specs.Triangle.{st_of, mid, sides, soft_min2, soft_min4}
use Rattle.srgb_gamut.specs.declared.cusp.LC.{LC}
use Rattle.srgb_gamut.specs.declared.intersection.Line.{Line}
use Rattle.srgb_gamut.specs.declared.triangle.Sides.{Sides}

module _ {N : Type 0} (o : Ops N) where
  infixl 70 ◌*◌ ◌/◌
  open o use {mul as ◌*◌, div as ◌/◌, min, whole, literal, mark}

  -- compensates for the curved part of the gamut
  abbrev pub scale : N → Sides N → N
  scale max c = max / min c.lower c.upper

  abbrev pub mid_chroma : N → Sides N → N
  mid_chroma k c = literal (plus 9 1) * k * soft_min4 o c

  -- independent of the hue: S and T are about their average values
  abbrev pub zero_chroma : N → N
  zero_chroma l = soft_min2 o (sides o (record { s = literal (plus 4 1); t = literal (plus 8 1) }) l)

  -- the line of one lightness, along which t is the chroma
  abbrev pub level : N → Line N
  level l = record { l1 = l; c1 = whole (pos 1); l0 = l }

  unfoldable pub values_at : N → Direction N → LC N → N → ChromaValues N
  values_at l h c max = record {
    zero = mark stage.ChromaValues (zero_chroma l);
    mid = mark stage.ChromaValues (mid_chroma (scale max (sides o (st_of o c) l)) (sides o (mid o h) l));
    max = mark stage.ChromaValues max;
  }

  unfoldable pub chroma_values : N → Direction N → ChromaValues N
  chroma_values l h = let c = cusp o h in values_at l h c (intersection o h (level l) c)
