-- Where a line in the plane of a hue leaves sRGB: L = l0 (1 − t) + t l1, C = t c1.
use Rattle.std.specs.Prelude.{Bool, cond, pos}
use Rattle.number.specs.Decimals.{plus}
use Rattle.number.specs.Formulas.{square, cube}
use Rattle.number.specs.Ops.{Ops}
use Rattle.number.specs.declared.fault.Stage.TheVariants.{Intersection}
use Rattle.gamut.specs.declared.direction.Direction.{Direction}
use Rattle.gamut.specs.declared.lms.Lms.{Lms}
use Rattle.srgb_gamut.specs.declared.cusp.LC.{LC}
use Rattle.srgb_gamut.specs.declared.intersection.Line.{Line}
use Rattle.srgb_gamut.specs.declared.jet.Jet.{Jet}

module _ {N : Type 0} (o : Ops N) where
  infixl 60 ◌+◌ ◌-◌
  infixl 70 ◌*◌ ◌/◌
  open o use {add as ◌+◌, sub as ◌-◌, mul as ◌*◌, div as ◌/◌, neg, min, whole, literal, mark, le}

  -- the line meets the lower side of the triangle below the cusp
  abbrev pub is_lower : Line N → LC N → Bool
  is_lower x c = le ((x.l1 - x.l0) * c.chroma - (c.lightness - x.l0) * x.c1) (whole (pos 0))

  -- where the line meets a side: the lightnesses of l0 and of the cusp are counted from the side's end
  abbrev pub meeting : Line N → (chroma start cusp : N) → N
  meeting x chroma start cusp = chroma * start / (x.c1 * cusp + chroma * (x.l0 - x.l1))

  abbrev pub lower : Line N → LC N → N
  lower x c = c.chroma * x.l0 / (x.c1 * c.lightness + c.chroma * (x.l0 - x.l1))

  -- where it meets the triangle's upper side
  abbrev pub triangle : Line N → LC N → N
  triangle x c = c.chroma * (x.l0 - whole (pos 1)) / (x.c1 * (c.lightness - whole (pos 1)) + c.chroma * (x.l0 - x.l1))

  abbrev pub slopes_along : Direction N → Lms N
  slopes_along h = record {
    l = literal (plus 3963377774 10) * h.a + literal (plus 2158037573 10) * h.b;
    m = neg (literal (plus 1055613458 10)) * h.a - literal (plus 638541728 10) * h.b;
    s = neg (literal (plus 894841775 10)) * h.a - literal (plus 12914855480 10) * h.b;
  }

  -- x + y k at each of the three slopes k
  abbrev pub along : N → N → Lms N → Lms N
  along x y k = record { l = x + y * k.l; m = x + y * k.m; s = x + y * k.s }

  -- the cube roots of LMS at t
  abbrev pub roots_at : N → Line N → Lms N → Lms N
  roots_at t x k = along (x.l0 * (whole (pos 1) - t) + t * x.l1) (t * x.c1) k

  -- the cube of x, which grows by d, with its two derivatives
  abbrev pub cube_along : N → N → Jet N
  cube_along x d = record {
    value = cube o x;
    first = whole (pos 3) * d * x * x;
    second = whole (pos 6) * d * d * x;
  }

  -- each channel's sum over LMS
  abbrev pub red_sum : N → N → N → N
  red_sum l m s = literal (plus 40767416621 10) * l - literal (plus 33077115913 10) * m + literal (plus 2309699292 10) * s

  abbrev pub green_sum : N → N → N → N
  green_sum l m s = neg (literal (plus 12684380046 10)) * l + literal (plus 26097574011 10) * m - literal (plus 3413193965 10) * s

  abbrev pub blue_sum : N → N → N → N
  blue_sum l m s = neg (literal (plus 41960863 10)) * l - literal (plus 7034186147 10) * m + literal (plus 17076147010 10) * s

  -- how far a channel is from 1, with its two derivatives
  abbrev pub channel : (N → N → N → N) → Jet N → Jet N → Jet N → Jet N
  channel sum l m s = record {
    value = sum l.value m.value s.value - whole (pos 1);
    first = sum l.first m.first s.first;
    second = sum l.second m.second s.second;
  }

  -- one step of Halley's method to where a channel is 1; a channel whose u is not at least 0 does not count
  abbrev pub stride_by : N → N → N
  stride_by u value = cond (le (whole (pos 0)) u) (neg value * u) (whole (pos 1000000))

  unfoldable pub stride : Jet N → N
  stride j = stride_by (j.first / (square o j.first - literal (plus 5 1) * j.value * j.second)) j.value

  unfoldable pub shortest : Jet N → Jet N → Jet N → N
  shortest l m s = min (stride (channel red_sum l m s)) (min (stride (channel green_sum l m s)) (stride (channel blue_sum l m s)))

  -- x: the cube roots of LMS, which grow by d
  unfoldable pub step : Lms N → Lms N → N
  step x d = shortest (cube_along x.l d.l) (cube_along x.m d.m) (cube_along x.s d.s)

  -- from t, where the line meets the triangle, to sRGB's curved upper side
  unfoldable pub upper : N → Lms N → Line N → N
  upper t k x = t + step (roots_at t x k) (along (x.l1 - x.l0) x.c1 k)

  unfoldable pub intersection : Direction N → Line N → LC N → N
  intersection h x c = mark Intersection (cond (is_lower x c) (lower x c) (upper (triangle x c) (slopes_along h) x))
