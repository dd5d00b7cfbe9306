-- Hues of Oklab.
use Rattle.std.specs.Prelude.{pos}
use Rattle.gamut.specs.declared.direction.Direction.{Direction as Hue}
use Rattle.gamut.specs.declared.oklab.Oklab.{Oklab}
use Rattle.number.specs.Ops.{Ops}

module _ {N : Type 0} (o : Ops N) where
  -- hue 0
  abbrev pub hue_zero : Hue N
  hue_zero = record { a = o.whole (pos 1); b = o.whole (pos 0) }

  -- the direction of a colour with the chroma x
  abbrev pub direction_with : Oklab N → N → Hue N
  direction_with c x = record { a = o.div c.a x; b = o.div c.b x }
