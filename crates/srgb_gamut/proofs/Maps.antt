-- A function at each number of the records of the gamut.
use Rattle.gamut.specs.declared.lms.Lms.{Lms}
use Rattle.srgb_gamut.specs.declared.cusp.LC.{LC}
use Rattle.srgb_gamut.specs.declared.intersection.Line.{Line}
use Rattle.srgb_gamut.specs.declared.saturation.Fit.{Fit}
use Rattle.srgb_gamut.specs.declared.jet.Jet.{Jet}

module _ {N M : Type 0} (f : N → M) where
  abbrev pub map_lms : Lms N → Lms M
  map_lms c = record { l = f c.l; m = f c.m; s = f c.s }

  abbrev pub map_lc : LC N → LC M
  map_lc c = record { lightness = f c.lightness; chroma = f c.chroma }

  abbrev pub map_fit : Fit N → Fit M
  map_fit k = record { k0 = f k.k0; k1 = f k.k1; k2 = f k.k2; k3 = f k.k3; k4 = f k.k4; weights = map_lms k.weights }

  abbrev pub map_jet : Jet N → Jet M
  map_jet j = record { value = f j.value; first = f j.first; second = f j.second }

  abbrev pub map_line : Line N → Line M
  map_line x = record { l1 = f x.l1; c1 = f x.c1; l0 = f x.l0 }
