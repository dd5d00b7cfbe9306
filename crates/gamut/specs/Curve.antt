-- The curve from saturation to chroma and its way back, each in the order of operations of its conversion.
use Rattle.std.specs.Prelude.{cond, ℕ, pos}
use Rattle.rational.specs.Algebra.{FieldOps}
use Rattle.rational.specs.Curve.{Three, knee, stretch, bend, unbend, low1, low2, low, high_t}
use Rattle.number.specs.Ops.{Ops, basic}
use Rattle.number.specs.declared.fault.Stage.TheVariants.{Curve}
use Rattle.gamut.specs.declared.chroma.ChromaValues.{ChromaValues}

-- 1 − 0.8
abbrev pub rest : {F : Type 0} → FieldOps F → F
rest o = o.sub (o.lit (pos 1) 0) (knee o)

-- the pieces, over a field's operations
module _ {F : Type 0} (o : FieldOps F) (c : Three F) where
  infixl 60 ◌+◌ ◌-◌
  infixl 70 ◌*◌ ◌/◌
  abbrev ◌+◌ : F → F → F
  a + b = o.add a b

  abbrev ◌-◌ : F → F → F
  a - b = o.sub a b

  abbrev ◌*◌ : F → F → F
  a * b = o.mul a b

  abbrev ◌/◌ : F → F → F
  a / b = o.div a b

  abbrev # : ℕ → F
  # n = o.lit (pos n) 0

  -- j1 above the knee, as the way to chroma and as the way back compute it
  abbrev pub out1 : F
  out1 = (# 1 - knee o) * c.mid * c.mid * stretch o * stretch o / c.zero

  abbrev pub home1 : F
  home1 = (# 1 - knee o) * ((c.mid * stretch o) * (c.mid * stretch o)) / c.zero

  -- j2 above the knee, from j1
  abbrev pub upper2 : F → F
  upper2 j1 = # 1 - j1 / (c.max - c.mid)

  abbrev pub out_high : F → F
  out_high s = c.mid + bend o out1 (upper2 out1) (high_t o c s)

  -- from saturation to chroma: the lower piece below saturation 0.8
  abbrev pub chroma_of : F → F
  chroma_of s = cond (o.below s (knee o)) (low o c s) (out_high s)

  abbrev pub home_low : F → F
  home_low x = unbend o (low1 o c) (low2 o c) x * knee o

  abbrev pub home_high : F → F
  home_high x = knee o + (# 1 - knee o) * unbend o home1 (upper2 home1) (x - c.mid)

  -- from chroma to saturation: the lower piece below mid
  abbrev pub saturation_of : F → F
  saturation_of x = cond (o.below x c.mid) (home_low x) (home_high x)

abbrev pub three : {N : Type 0} → ChromaValues N → Three N
three v = record { zero = v.zero; mid = v.mid; max = v.max }

module _ {N : Type 0} (o : Ops N) where
  abbrev pub chroma : ChromaValues N → N → N
  chroma v s = o.mark Curve (chroma_of (basic o) (three v) s)

  abbrev pub saturation : ChromaValues N → N → N
  saturation v x = o.mark Curve (saturation_of (basic o) (three v) x)
