-- The curve and its way back commute with any map that carries one kind's operations to another's.
use mathlib.Core.Bool.{Bool, true, false, cond}
use mathlib.Core.Path.{◌≡◌, refl}
use Rattle.number.specs.Ops.{Ops, Hom}
use Rattle.gamut.specs.Curve.{chroma, saturation}
use Rattle.gamut.specs.Maps.{map_values}
use Rattle.gamut.specs.declared.chroma.ChromaValues.{ChromaValues}

pub map_cond : {N M : Type 0} (f : N → M) (b : Bool) (x y : N) → f (cond b x y) ≡ cond b (f x) (f y)
map_cond f true x y = refl
map_cond f false x y = refl

module _ {N M : Type 0} {f : N → M} {o : Ops N} {p : Ops M} (h : Hom f o p) where
  pub chroma_means : (v : ChromaValues N) (s : N) → f (chroma o v s) ≡ chroma p (map_values f v) (f s)
  chroma_means v s = simp (map_cond f, h.mark, h.lt, h.div, h.add, h.sub, h.mul, h.literal, h.whole)

  pub saturation-means : (v : ChromaValues N) (x : N) → f (saturation o v x) ≡ saturation p (map_values f v) (f x)
  saturation-means v x = simp (map_cond f, h.mark, h.lt, h.div, h.add, h.sub, h.mul, h.literal, h.whole)
