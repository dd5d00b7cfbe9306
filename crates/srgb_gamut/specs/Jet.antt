-- Cone responses LMS with their derivatives, and what Halley's method divides by.
use Rattle.number.specs.Decimals.{plus}
use Rattle.number.specs.Formulas.{square}
use Rattle.number.specs.Ops.{Ops}
use Rattle.gamut.specs.declared.direction.Direction.{Direction}
use Rattle.gamut.specs.declared.lms.Lms.{Lms}
use Rattle.srgb_gamut.specs.declared.jet.Jet.{Jet}

-- the values, and each derivative, of L, M and S
module _ {N : Type 0} (c : Lms (Jet N)) where
  abbrev pub values_of : Lms N
  values_of = record { l = c.l.value; m = c.m.value; s = c.s.value }

  abbrev pub firsts_of : Lms N
  firsts_of = record { l = c.l.first; m = c.m.first; s = c.s.first }

  abbrev pub seconds_of : Lms N
  seconds_of = record { l = c.l.second; m = c.m.second; s = c.s.second }

module _ {N : Type 0} (o : Ops N) where
  infixl 60 ◌+◌ ◌-◌
  infixl 70 ◌*◌
  open o use {add as ◌+◌, sub as ◌-◌, mul as ◌*◌, literal}

  -- f'² − f f'' ÷ 2
  abbrev pub halley_divisor : Jet N → N
  halley_divisor f = square o f.first - literal (plus 5 1) * f.value * f.second

  -- a sum over LMS
  abbrev pub dot : Lms N → Lms N → N
  dot w c = w.l * c.l + w.m * c.m + w.s * c.s

  -- how fast the cube roots of LMS change with the chroma: medium and short are the factors of a in M and S
  abbrev pub slopes_by : (medium short : N) → Direction N → Lms N
  slopes_by medium short h = record {
    l = literal (plus 3963377774 10) * h.a + literal (plus 2158037573 10) * h.b;
    m = medium * h.a - literal (plus 638541728 10) * h.b;
    s = short * h.a - literal (plus 12914855480 10) * h.b;
  }
