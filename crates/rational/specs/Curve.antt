-- The curve from saturation to chroma: from 0 through mid at 0.8 to max at 1, in two pieces, over any field's operations; and what is shown of it.
use Rattle.std.specs.Prelude.{◌≡◌, not, cond, ℕ, pos, T}
use Rattle.rational.specs.Algebra.{FieldOps}
use Rattle.rational.specs.Rational.{Rational, exact}

-- the three chromas of a boundary at one lightness and direction: `zero` gives the curve's slope at 0, `mid` is the chroma at saturation 0.8, `max` that at 1
pub record Three (F : Type 0) : Type 0 where
  pub zero : F
  pub mid : F
  pub max : F

module _ {F : Type 0} (o : FieldOps F) where
  infixl 60 ◌+◌ ◌-◌
  infixl 70 ◌*◌ ◌/◌
  abbrev ◌+◌ : F → F → F
  a + b = o.add a b

  abbrev ◌-◌ : F → F → F
  a - b = o.sub a b

  abbrev ◌*◌ : F → F → F
  a * b = o.mul a b

  abbrev ◌/◌ : F → F → F
  a / b = o.div a b

  abbrev # : ℕ → F
  # n = o.lit (pos n) 0

  -- where the pieces meet: 0.8, and its inverse 1.25
  abbrev pub knee : F
  knee = o.lit (pos 8) 1

  abbrev pub stretch : F
  stretch = o.lit (pos 125) 2

  -- a piece, with t from 0 to 1: t j1 / (1 − j2 t), and its way back
  abbrev pub bend : F → F → F → F
  bend j1 j2 t = t * j1 / (# 1 - j2 * t)

  abbrev pub unbend : F → F → F → F
  unbend j1 j2 x = x / (j1 + j2 * x)

  module _ (c : Three F) where
    -- the lower piece: t = 1.25 s, j1 = 0.8 zero, j2 = 1 − j1 / mid
    abbrev pub low_t : F → F
    low_t s = stretch * s

    abbrev pub low1 : F
    low1 = knee * c.zero

    abbrev pub low2 : F
    low2 = # 1 - low1 / c.mid

    abbrev pub low : F → F
    low s = bend low1 low2 (low_t s)

    -- the upper piece, above mid: t = (s − 0.8) / 0.2, j1 = 0.2 mid² 1.25² / zero, j2 = 1 − j1 / (max − mid)
    abbrev pub high_t : F → F
    high_t s = (s - knee) / (# 1 - knee)

    abbrev pub high1 : F
    high1 = (# 1 - knee) * (c.mid * c.mid) * (stretch * stretch) / c.zero

    abbrev pub high2 : F
    high2 = # 1 - high1 / (c.max - c.mid)

    abbrev pub high : F → F
    high s = c.mid + bend high1 high2 (high_t s)

    abbrev pub curve : F → F
    curve s = cond (o.below s knee) (low s) (high s)

    -- the way back, by the piece that the chroma lies in
    abbrev pub back : F → F
    back x = cond (o.below x c.mid) (knee * unbend low1 low2 x) (knee + (# 1 - knee) * unbend high1 high2 (x - c.mid))

    -- what makes the three numbers acceptable: 0 < zero, 0 < mid < max
    abbrev pub Accepted : Type 0
    Accepted = T (o.below (# 0) c.zero) × T (o.below (# 0) c.mid) × T (o.below c.mid c.max)

    -- 0 ≤ s ≤ 1
    abbrev pub UnitRange : F → Type 0
    UnitRange s = T (not (o.below s (# 0))) × T (not (o.below (# 1) s))

    -- 0 at 0, mid at 0.8, max at 1; strictly increasing; below mid exactly where the saturation is below 0.8; undone by the way back; and no kink
    -- at 0.8: the slopes of the chords to that point are given on either side, and are one there
    pub record CurveLaws : Type 0 where
      pub at_0 : curve (# 0) ≡ # 0
      pub at_knee : curve knee ≡ c.mid
      pub at_1 : curve (# 1) ≡ c.max
      pub rises : (s s' : F) → UnitRange s → UnitRange s' → T (o.below s s') → T (o.below (curve s) (curve s'))
      pub lower : (s : F) → UnitRange s → o.below (curve s) c.mid ≡ o.below s knee
      pub returns : (s : F) → UnitRange s → back (curve s) ≡ s
      pub slope_below : (s : F) → UnitRange s → T (o.below s knee) → (c.mid - curve s) / (knee - s) ≡ # 5 * c.mid / (# 4 * (# 1 - low2 * low_t s))
      pub slope_above : (s : F) → UnitRange s → T (o.below knee s) → (curve s - c.mid) / (s - knee) ≡ # 5 * high1 / (# 1 - high2 * high_t s)
      pub slope_below_knee : # 5 * c.mid / (# 4 * (# 1 - low2 * low_t knee)) ≡ # 25 * (c.mid * c.mid) / (# 16 * c.zero)
      pub slope_above_knee : # 5 * high1 / (# 1 - high2 * high_t knee) ≡ # 25 * (c.mid * c.mid) / (# 16 * c.zero)

abbrev pub CurveHolds : Type 0
CurveHolds = (c : Three Rational) → Accepted exact c → CurveLaws exact c
