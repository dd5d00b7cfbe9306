-- A matrix times a vector.
use Rattle.number.specs.Decimals.{decimal}
use Rattle.number.specs.Ops.{Ops}
use Rattle.number.specs.declared.literal.Literal.{Literal}
use Rattle.gamut.specs.declared.matrix.Mat3.{Mat3}
use Rattle.gamut.specs.declared.matrix.Vec3.{Vec3}

module _ {N : Type 0} (o : Ops N) where
  infixl 60 ◌+◌
  infixl 70 ◌*◌
  open o use {add as ◌+◌, mul as ◌*◌, literal}

  abbrev pub dot : Vec3 N → Vec3 N → N
  dot r v = r.x * v.x + r.y * v.y + r.z * v.z

  abbrev pub times : Mat3 N → Vec3 N → Vec3 N
  times m v = record { x = dot m.first v; y = dot m.second v; z = dot m.third v }

  -- constants as numbers of a kind
  abbrev pub row_numbers : Vec3 Literal → Vec3 N
  row_numbers r = record { x = literal (decimal r.x); y = literal (decimal r.y); z = literal (decimal r.z) }

  abbrev pub numbers : Mat3 Literal → Mat3 N
  numbers m = record { first = row_numbers m.first; second = row_numbers m.second; third = row_numbers m.third }
