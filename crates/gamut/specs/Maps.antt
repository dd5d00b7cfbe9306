-- A function at each number of a record.
use Rattle.gamut.specs.declared.chroma.ChromaValues.{ChromaValues}
use Rattle.gamut.specs.declared.direction.Direction.{Direction}
use Rattle.gamut.specs.declared.oklab.Oklab.{Oklab}
use Rattle.gamut.specs.declared.rgb.LinSrgb.{LinSrgb}
use Rattle.gamut.specs.declared.xyz.Xyz.{Xyz}

module _ {N M : Type 0} (f : N → M) where
  abbrev pub map_direction : Direction N → Direction M
  map_direction h = record { a = f h.a; b = f h.b }

  abbrev pub map_values : ChromaValues N → ChromaValues M
  map_values v = record { zero = f v.zero; mid = f v.mid; max = f v.max }

  abbrev pub map_oklab : Oklab N → Oklab M
  map_oklab c = record { l = f c.l; a = f c.a; b = f c.b }

  abbrev pub map_rgb : LinSrgb N → LinSrgb M
  map_rgb c = record { red = f c.red; green = f c.green; blue = f c.blue }

  abbrev pub map_xyz : Xyz N → Xyz M
  map_xyz c = record { x = f c.x; y = f c.y; z = f c.z }
