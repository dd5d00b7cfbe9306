-- The largest saturation of a hue in sRGB, where one of the channels falls to 0.
use Rattle.std.specs.Prelude.{Bool, true, false, pos}
use Rattle.number.specs.Decimals.{decimal, plus, minus}
use Rattle.number.specs.Formulas.{square, cube}
use Rattle.number.specs.Ops.{Ops}
use Rattle.number.specs.declared.fault.Stage.TheVariants.{Cusp}
use Rattle.number.specs.declared.literal.Literal.{Literal}
use Rattle.gamut.specs.declared.direction.Direction.{Direction}
use Rattle.gamut.specs.declared.lms.Lms.{Lms}
use Rattle.srgb_gamut.specs.declared.saturation.Fit.{Fit}
use Rattle.srgb_gamut.specs.declared.jet.Jet.{Jet}

module _ {N : Type 0} (o : Ops N) where
  infixl 60 ◌+◌ ◌-◌
  infixl 70 ◌*◌ ◌/◌
  open o use {add as ◌+◌, sub as ◌-◌, mul as ◌*◌, div as ◌/◌, whole, literal, mark, lt}

  -- the test on a direction by which a channel falls to 0 first
  abbrev pub falls_first : (a b : Literal) → Direction N → Bool
  falls_first a b h = lt (whole (pos 1)) (literal (decimal a) * h.a - literal (decimal b) * h.b)

  -- which channel falls to 0 first
  abbrev pub red_first : Direction N → Bool
  red_first h = lt (whole (pos 1)) (literal (minus 188170328 8) * h.a - literal (plus 80936493 8) * h.b)

  abbrev pub green_first : Direction N → Bool
  green_first h = lt (whole (pos 1)) (literal (plus 181444104 8) * h.a - literal (plus 119445276 8) * h.b)

  -- constants as numbers of a kind
  abbrev pub fit_numbers : Fit Literal → Fit N
  fit_numbers k = record {
    k0 = literal (decimal k.k0);
    k1 = literal (decimal k.k1);
    k2 = literal (decimal k.k2);
    k3 = literal (decimal k.k3);
    k4 = literal (decimal k.k4);
    weights = record { l = literal (decimal k.weights.l); m = literal (decimal k.weights.m); s = literal (decimal k.weights.s) };
  }

  -- for each channel the coefficients of a polynomial, and the weights of LMS in the channel
  abbrev pub red_fit : Fit N
  red_fit = record {
    k0 = literal (plus 119086277 8);
    k1 = literal (plus 176576728 8);
    k2 = literal (plus 59662641 8);
    k3 = literal (plus 75515197 8);
    k4 = literal (plus 56771245 8);
    weights = record { l = literal (plus 40767416621 10); m = literal (minus 33077115913 10); s = literal (plus 2309699292 10) };
  }

  abbrev pub green_fit : Fit N
  green_fit = record {
    k0 = literal (plus 73956515 8);
    k1 = literal (minus 45954404 8);
    k2 = literal (plus 8285427 8);
    k3 = literal (plus 12541070 8);
    k4 = literal (plus 14503204 8);
    weights = record { l = literal (minus 12684380046 10); m = literal (plus 26097574011 10); s = literal (minus 3413193965 10) };
  }

  abbrev pub blue_fit : Fit N
  blue_fit = record {
    k0 = literal (plus 135733652 8);
    k1 = literal (minus 915799 8);
    k2 = literal (minus 115130210 8);
    k3 = literal (minus 50559606 8);
    k4 = literal (plus 692167 8);
    weights = record { l = literal (minus 41960863 10); m = literal (minus 7034186147 10); s = literal (plus 17076147010 10) };
  }

  abbrev pub choice : (red green : Bool) → Fit N
  choice true g = red_fit
  choice false true = green_fit
  choice false false = blue_fit

  abbrev pub fit : Direction N → Fit N
  fit h = choice (red_first h) (green_first h)

  -- a first approximation of the largest saturation
  abbrev pub polynomial : Fit N → Direction N → N
  polynomial k h = k.k0 + k.k1 * h.a + k.k2 * h.b + k.k3 * square o h.a + k.k4 * h.a * h.b

  -- how fast the cube roots of LMS change with the saturation
  abbrev pub slopes : Direction N → Lms N
  slopes h = record {
    l = literal (plus 3963377774 10) * h.a + literal (plus 2158037573 10) * h.b;
    m = literal (minus 1055613458 10) * h.a - literal (plus 638541728 10) * h.b;
    s = literal (minus 894841775 10) * h.a - literal (plus 12914855480 10) * h.b;
  }

  -- the cube of 1 + s k, with its first and second derivative by s
  abbrev pub cube_of_saturation : N → N → Jet N
  cube_of_saturation s k =
      let x = whole (pos 1) + s * k in
      record {
        value = cube o x;
        first = whole (pos 3) * k * square o x;
        second = whole (pos 6) * square o k * x;
      }

  -- the channel, with its derivatives
  abbrev pub weighed : Lms N → Jet N → Jet N → Jet N → Jet N
  weighed w l m s = record {
    value = w.l * l.value + w.m * m.value + w.s * s.value;
    first = w.l * l.first + w.m * m.first + w.s * s.first;
    second = w.l * l.second + w.m * m.second + w.s * s.second;
  }

  -- one step of Halley's method from s
  abbrev pub halley : N → Jet N → N
  halley s f = s - f.value * f.first / (square o f.first - literal (plus 5 1) * f.value * f.second)

  unfoldable pub stepped : Lms N → Lms N → N → N
  stepped w k s = halley s (weighed w (cube_of_saturation s k.l) (cube_of_saturation s k.m) (cube_of_saturation s k.s))

  abbrev pub saturation_by : Fit N → Direction N → N
  saturation_by k h = stepped k.weights (slopes h) (polynomial k h)

  unfoldable pub max_saturation : Direction N → N
  max_saturation h = mark Cusp (saturation_by (fit h) h)
