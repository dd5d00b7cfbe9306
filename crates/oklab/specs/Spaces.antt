-- Oklab to linear sRGB and XYZ and back, with their refusals: 5, then 8 on the answer.
use Rattle.std.specs.Prelude.{ℕ, Bool, cond, not, ◌&&◌, List, [], ◌∷◌, Err, Option, Result}
use Rattle.fault.specs.declared.faults.NumberFault.{NumberFault}
use Rattle.fault.specs.declared.faults.NumberFault.TheVariants.{Range}
use Rattle.gamut.specs.declared.oklab.Oklab.{Oklab}
use Rattle.gamut.specs.declared.rgb.LinSrgb.{LinSrgb}
use Rattle.gamut.specs.declared.xyz.Xyz.{Xyz}
use Rattle.gamut.specs.Oklab.{oklab_to_linear_srgb, linear_srgb_to_oklab, xyz_to_oklab, oklab_to_xyz}
use Rattle.number.specs.Ops.{Ops}
use Rattle.oklab.specs.Checks.{settled}
use Rattle.oklab.specs.Okhsl.{settled_oklab, oklab_in_range}

-- the numbers of a colour, in the order in which an answer's are checked
abbrev pub rgb_numbers : {N : Type 0} → LinSrgb N → List N
rgb_numbers c = c.red ∷ c.green ∷ c.blue ∷ []

abbrev pub xyz_numbers : {N : Type 0} → Xyz N → List N
xyz_numbers c = c.x ∷ c.y ∷ c.z ∷ []

module _ {N : Type 0} (o : Ops N) (traced : N → Option (ℕ × ℕ)) where
  abbrev pub settled_rgb : LinSrgb N → Result (LinSrgb N) NumberFault
  settled_rgb c = settled o traced (rgb_numbers c) c

  abbrev pub settled_xyz : Xyz N → Result (Xyz N) NumberFault
  settled_xyz c = settled o traced (xyz_numbers c) c

  -- no number of three is spoiled
  abbrev pub none_spoiled : N → N → N → Bool
  none_spoiled x y z = not (o.spoiled x) && (not (o.spoiled y) && not (o.spoiled z))

  abbrev pub linear_srgb_of_oklab : Oklab N → Result (LinSrgb N) NumberFault
  linear_srgb_of_oklab c = cond (oklab_in_range o traced c) (settled_rgb (oklab_to_linear_srgb o c)) (Err Range)

  abbrev pub oklab_of_linear_srgb : LinSrgb N → Result (Oklab N) NumberFault
  oklab_of_linear_srgb c = cond (none_spoiled c.red c.green c.blue) (settled_oklab o traced (linear_srgb_to_oklab o c)) (Err Range)

  abbrev pub xyz_of_oklab : Oklab N → Result (Xyz N) NumberFault
  xyz_of_oklab c = cond (oklab_in_range o traced c) (settled_xyz (oklab_to_xyz o c)) (Err Range)

  abbrev pub oklab_of_xyz : Xyz N → Result (Oklab N) NumberFault
  oklab_of_xyz c = cond (none_spoiled c.x c.y c.z) (settled_oklab o traced (xyz_to_oklab o c)) (Err Range)
