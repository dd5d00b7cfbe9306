-- The largest saturation and the cusp commute with any map that carries one kind's operations to another's.
use mathlib.Core.Bool.{Bool, true, false}
use mathlib.Core.Path.{◌≡◌}
use Rattle.number.specs.Ops.{Ops, Hom}
use Rattle.gamut.proofs.OklabMeans.{oklab_to_linear_srgb-means}
use Rattle.gamut.specs.Maps.{map_direction, map_oklab, map_rgb}
use Rattle.gamut.specs.declared.direction.Direction.{Direction}
use Rattle.gamut.specs.declared.lms.Lms.{Lms}
use Rattle.gamut.specs.declared.rgb.LinSrgb.{LinSrgb}
use Rattle.srgb_gamut.specs.Cusp.{cusp_at, at_saturation, cusp}
use Rattle.srgb_gamut.specs.Saturation.{choice, fit, stepped, saturation_by, max_saturation}
use Rattle.srgb_gamut.specs.declared.saturation.Fit.{Fit}
use Rattle.srgb_gamut.proofs.Maps.{map_lms, map_lc, map_fit}

module _ {N M : Type 0} {f : N → M} {o : Ops N} {p : Ops M} (h : Hom f o p) where
  choice-means : (b c : Bool) → map_fit f (choice o b c) ≡ choice p b c
  choice-means true c = simp h.literal
  choice-means false true = simp h.literal
  choice-means false false = simp h.literal

  fit-means : (d : Direction N) → map_fit f (fit o d) ≡ fit p (map_direction f d)
  fit-means d = simp (choice-means, h.lt, h.sub, h.mul, h.literal, h.whole)

  stepped-means : (w k : Lms N) (s : N) → f (stepped o w k s) ≡ stepped p (map_lms f w) (map_lms f k) (f s)
  unfolding stepped
  stepped-means w k s = simp (h.add, h.sub, h.mul, h.div, h.literal, h.whole)

  by_means : (k : Fit N) (d : Direction N) → f (saturation_by o k d) ≡ saturation_by p (map_fit f k) (map_direction f d)
  by_means k d = simp (stepped-means, h.add, h.sub, h.mul, h.literal)

  max_saturation-means : (d : Direction N) → f (max_saturation o d) ≡ max_saturation p (map_direction f d)
  unfolding max_saturation
  max_saturation-means d = rw (max_saturation, ← fit-means d) (simp (h.mark, by_means))

  cusp_at-means : (s : N) (c : LinSrgb N) → map_lc f (cusp_at o s c) ≡ cusp_at p (f s) (map_rgb f c)
  cusp_at-means s c = simp (h.mark, h.mul, h.div, h.max, h.cbrt, h.whole)

  at_means : (s : N) (d : Direction N) → map_oklab f (at_saturation o s d) ≡ at_saturation p (f s) (map_direction f d)
  at_means s d = simp (h.mul, h.whole)

  pub cusp-means : (d : Direction N) → map_lc f (cusp o d) ≡ cusp p (map_direction f d)
  unfolding cusp
  cusp-means d = simp (cusp_at-means, oklab_to_linear_srgb-means h, at_means, max_saturation-means)
