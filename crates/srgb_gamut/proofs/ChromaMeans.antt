-- The chroma values commute with any map that carries one kind's operations to another's.
use mathlib.Core.Path.{◌≡◌}
use Rattle.number.specs.Ops.{Ops, Hom}
use Rattle.gamut.specs.Maps.{map_direction, map_values}
use Rattle.gamut.specs.declared.direction.Direction.{Direction}
use Rattle.srgb_gamut.specs.Chroma.{values_at, chroma_values}
use Rattle.srgb_gamut.specs.declared.cusp.LC.{LC}
use Rattle.srgb_gamut.proofs.CuspMeans.{cusp-means}
use Rattle.srgb_gamut.proofs.IntersectionMeans.{intersection-means}
use Rattle.srgb_gamut.proofs.Maps.{map_lc}

module _ {N M : Type 0} {f : N → M} {o : Ops N} {p : Ops M} (h : Hom f o p) where
  values_at-means : (l : N) (d : Direction N) (c : LC N) (m : N) → map_values f (values_at o l d c m) ≡ values_at p (f l) (map_direction f d) (map_lc f c) (f m)
  unfolding values_at
  values_at-means l d c m = simp (h.mark, h.add, h.sub, h.mul, h.div, h.min, h.sqrt, h.literal, h.whole)

  pub chroma_values-means : (l : N) (d : Direction N) → map_values f (chroma_values o l d) ≡ chroma_values p (f l) (map_direction f d)
  unfolding chroma_values
  chroma_values-means l d = simp (values_at-means, intersection-means h, cusp-means h, h.whole)
