-- Oklab from linear sRGB and from XYZ at D65, and back: one matrix to the responses LMS of the eye's cones, their cube roots, a second matrix.
use Rattle.number.specs.Decimals.{plus, minus}
use Rattle.number.specs.Formulas.{cube}
use Rattle.number.specs.Ops.{Ops}
use Rattle.number.specs.declared.fault.Stage.TheVariants.{Matrix}
use Rattle.gamut.specs.Matrix.{times}
use Rattle.gamut.specs.declared.lms.Lms.{Lms}
use Rattle.gamut.specs.declared.matrix.Mat3.{Mat3}
use Rattle.gamut.specs.declared.matrix.Vec3.{Vec3}
use Rattle.gamut.specs.declared.oklab.Oklab.{Oklab}
use Rattle.gamut.specs.declared.rgb.LinSrgb.{LinSrgb}
use Rattle.gamut.specs.declared.xyz.Xyz.{Xyz}

-- three numbers in the order of each space
module _ {N : Type 0} where
  abbrev pub xyz_vector : Xyz N → Vec3 N
  xyz_vector c = record { x = c.x; y = c.y; z = c.z }

  abbrev pub to_xyz : Vec3 N → Xyz N
  to_xyz v = record { x = v.x; y = v.y; z = v.z }

  abbrev pub oklab_vector : Oklab N → Vec3 N
  oklab_vector c = record { x = c.l; y = c.a; z = c.b }

  abbrev pub to_oklab : Vec3 N → Oklab N
  to_oklab v = record { l = v.x; a = v.y; b = v.z }

  abbrev pub lms_vector : Lms N → Vec3 N
  lms_vector c = record { x = c.l; y = c.m; z = c.s }

  abbrev pub as_lms : Vec3 N → Lms N
  as_lms v = record { l = v.x; m = v.y; s = v.z }

  abbrev pub rgb_vector : LinSrgb N → Vec3 N
  rgb_vector c = record { x = c.red; y = c.green; z = c.blue }

module _ {N : Type 0} (o : Ops N) where
  infixl 60 ◌+◌ ◌-◌
  infixl 70 ◌*◌
  open o use {add as ◌+◌, sub as ◌-◌, mul as ◌*◌, cbrt, literal, mark}

  abbrev pub cubes : Lms N → Lms N
  cubes c = record { l = cube o c.l; m = cube o c.m; s = cube o c.s }

  abbrev pub cube_roots : Lms N → Lms N
  cube_roots c = record { l = cbrt c.l; m = cbrt c.m; s = cbrt c.s }

  -- Oklab to the cube roots of LMS, and LMS to linear sRGB
  abbrev pub roots_of : Oklab N → Lms N
  roots_of c = record {
    l = c.l + literal (plus 3963377774 10) * c.a + literal (plus 2158037573 10) * c.b;
    m = c.l - literal (plus 1055613458 10) * c.a - literal (plus 638541728 10) * c.b;
    s = c.l - literal (plus 894841775 10) * c.a - literal (plus 12914855480 10) * c.b;
  }

  abbrev pub lms_to_rgb : Lms N → LinSrgb N
  lms_to_rgb c = record {
    red = literal (plus 40767416621 10) * c.l - literal (plus 33077115913 10) * c.m + literal (plus 2309699292 10) * c.s;
    green = literal (minus 12684380046 10) * c.l + literal (plus 26097574011 10) * c.m - literal (plus 3413193965 10) * c.s;
    blue = literal (minus 41960863 10) * c.l - literal (plus 7034186147 10) * c.m + literal (plus 17076147010 10) * c.s;
  }

  abbrev pub marked_rgb : LinSrgb N → LinSrgb N
  marked_rgb c = record { red = mark Matrix c.red; green = mark Matrix c.green; blue = mark Matrix c.blue }

  unfoldable pub oklab_to_linear_srgb : Oklab N → LinSrgb N
  oklab_to_linear_srgb c = marked_rgb (lms_to_rgb (cubes (roots_of c)))

  -- linear sRGB to LMS, and its cube roots to Oklab
  abbrev pub rgb_to_lms : LinSrgb N → Lms N
  rgb_to_lms c = record {
    l = literal (plus 4122214708 10) * c.red + literal (plus 5363325363 10) * c.green + literal (plus 514459929 10) * c.blue;
    m = literal (plus 2119034982 10) * c.red + literal (plus 6806995451 10) * c.green + literal (plus 1073969566 10) * c.blue;
    s = literal (plus 883024619 10) * c.red + literal (plus 2817188376 10) * c.green + literal (plus 6299787005 10) * c.blue;
  }

  abbrev pub roots_to_oklab : Lms N → Oklab N
  roots_to_oklab c = record {
    l = literal (plus 2104542553 10) * c.l + literal (plus 7936177850 10) * c.m - literal (plus 40720468 10) * c.s;
    a = literal (plus 19779984951 10) * c.l - literal (plus 24285922050 10) * c.m + literal (plus 4505937099 10) * c.s;
    b = literal (plus 259040371 10) * c.l + literal (plus 7827717662 10) * c.m - literal (plus 8086757660 10) * c.s;
  }

  abbrev pub marked_oklab : Oklab N → Oklab N
  marked_oklab c = record { l = mark Matrix c.l; a = mark Matrix c.a; b = mark Matrix c.b }

  unfoldable pub linear_srgb_to_oklab : LinSrgb N → Oklab N
  linear_srgb_to_oklab c = marked_oklab (roots_to_oklab (cube_roots (rgb_to_lms c)))

  -- XYZ to LMS
  abbrev pub m1 : Mat3 N
  m1 = record {
    first = record { x = literal (plus 8190224432164319 16); y = literal (plus 3619062562801221 16); z = literal (minus 12887378261216414 17) };
    second = record { x = literal (plus 329836671980271 16); y = literal (plus 9292868468965546 16); z = literal (plus 3614466816999844 17) };
    third = record { x = literal (plus 48177199566046255 18); y = literal (plus 26423952494422764 17); z = literal (plus 6335478258136937 16) };
  }

  -- LMS to XYZ
  abbrev pub m1_inv : Mat3 N
  m1_inv = record {
    first = record { x = literal (plus 12268798733741557 16); y = literal (minus 5578149965554813 16); z = literal (plus 28139105017721583 17) };
    second = record { x = literal (minus 4057576262431372 17); y = literal (plus 11122868293970594 16); z = literal (minus 7171106666151701 17) };
    third = record { x = literal (minus 7637294974672142 17); y = literal (minus 4214933239627914 16); z = literal (plus 15869240244272418 16) };
  }

  -- the cube roots of LMS to Oklab
  abbrev pub m2 : Mat3 N
  m2 = record {
    first = record { x = literal (plus 2104542553 10); y = literal (plus 7936177850 10); z = literal (minus 40720468 10) };
    second = record { x = literal (plus 19779984951 10); y = literal (minus 24285922050 10); z = literal (plus 4505937099 10) };
    third = record { x = literal (plus 259040371 10); y = literal (plus 7827717662 10); z = literal (minus 8086757660 10) };
  }

  -- Oklab to the cube roots of LMS
  abbrev pub m2_inv : Mat3 N
  m2_inv = record {
    first = record { x = literal (plus 99999999845051981432 20); y = literal (plus 39633779217376785678 20); z = literal (plus 21580375806075880339 20) };
    second = record { x = literal (plus 10000000088817607767 19); y = literal (minus 1055613423236563494 19); z = literal (minus 63854174771705903402 21) };
    third = record { x = literal (plus 10000000546724109177 19); y = literal (minus 89484182094965759684 21); z = literal (minus 12914855378640917399 19) };
  }

  -- three numbers as a colour, marked
  abbrev pub as_oklab : Vec3 N → Oklab N
  as_oklab v = marked_oklab (to_oklab v)

  abbrev pub as_xyz : Vec3 N → Xyz N
  as_xyz v = record { x = mark Matrix v.x; y = mark Matrix v.y; z = mark Matrix v.z }

  unfoldable pub xyz_to_oklab : Xyz N → Oklab N
  xyz_to_oklab c = as_oklab (times o m2 (lms_vector (cube_roots (as_lms (times o m1 (xyz_vector c))))))

  unfoldable pub oklab_to_xyz : Oklab N → Xyz N
  oklab_to_xyz c = as_xyz (times o m1_inv (lms_vector (cubes (as_lms (times o m2_inv (oklab_vector c))))))
