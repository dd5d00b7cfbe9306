-- A colour of Oklab with its chroma.
use Rattle.std.specs.Prelude.{ℕ, cond, Ok, Err, Option, Result}
use Rattle.fault.specs.declared.faults.NumberFault.{NumberFault}
use Rattle.fault.specs.declared.faults.NumberFault.TheVariants.{Range, Lost}
use Rattle.gamut.specs.declared.oklab.Oklab.{Oklab}
use Rattle.number.specs.Formulas.{hypot}
use Rattle.number.specs.Ops.{Ops}
use Rattle.oklab.specs.Okhsl.{oklab_in_range}
use Rattle.oklab.specs.declared.chromatic.Chromatic.{Chromatic}

module _ {N : Type 0} (o : Ops N) (traced : N → Option (ℕ × ℕ)) where
  -- with the chroma x: 8 if it is spoiled
  abbrev pub chromatic_with : Oklab N → N → Result (Chromatic N) NumberFault
  chromatic_with c x = cond (o.spoiled x) (Err (Lost (traced x))) (Ok (record { color = c; chroma = x }))

  -- the colour with its chroma: 5, and 8 on the chroma
  abbrev pub chromatic_of : Oklab N → Result (Chromatic N) NumberFault
  chromatic_of c = cond (oklab_in_range o traced c) (chromatic_with c (hypot o c.a c.b)) (Err Range)
