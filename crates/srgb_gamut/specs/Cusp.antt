-- The cusp of a hue: the colour of sRGB with the largest chroma.
use Rattle.std.specs.Prelude.{pos}
use Rattle.number.specs.Ops.{Ops}
use Rattle.number.specs.declared.fault.Stage.TheVariants.{Cusp}
use Rattle.gamut.specs.Oklab.{oklab_to_linear_srgb}
use Rattle.gamut.specs.declared.direction.Direction.{Direction}
use Rattle.gamut.specs.declared.oklab.Oklab.{Oklab}
use Rattle.gamut.specs.declared.rgb.LinSrgb.{LinSrgb}
use Rattle.srgb_gamut.specs.Saturation.{max_saturation}
use Rattle.srgb_gamut.specs.declared.cusp.LC.{LC}

module _ {N : Type 0} (o : Ops N) where
  infixl 70 ◌*◌ ◌/◌
  open o use {mul as ◌*◌, div as ◌/◌, max, cbrt, whole, mark}

  -- the colour of lightness 1 and a saturation
  abbrev pub at_saturation : N → Direction N → Oklab N
  at_saturation s h = record { l = whole (pos 1); a = s * h.a; b = s * h.b }

  abbrev pub largest : LinSrgb N → N
  largest c = max (max c.red c.green) c.blue

  -- scaled down until no channel is above 1; lightness goes with the cube root of light
  abbrev pub cusp_at : N → LinSrgb N → LC N
  cusp_at s c =
      let lightness = cbrt (whole (pos 1) / largest c) in
      record { lightness = mark Cusp lightness; chroma = mark Cusp (lightness * s) }

  unfoldable pub cusp : Direction N → LC N
  cusp h = let s = max_saturation o h in cusp_at s (oklab_to_linear_srgb o (at_saturation s h))
