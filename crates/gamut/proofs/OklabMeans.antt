-- The conversions by matrices commute with any map that carries one kind's operations to another's.
use mathlib.Core.Path.{◌≡◌}
use Rattle.number.specs.Ops.{Ops, Hom}
use Rattle.gamut.specs.Maps.{map_oklab, map_rgb, map_xyz}
use Rattle.gamut.specs.Oklab.{oklab_to_linear_srgb, linear_srgb_to_oklab, xyz_to_oklab, oklab_to_xyz}
use Rattle.gamut.specs.declared.oklab.Oklab.{Oklab}
use Rattle.gamut.specs.declared.rgb.LinSrgb.{LinSrgb}
use Rattle.gamut.specs.declared.xyz.Xyz.{Xyz}

module _ {N M : Type 0} {f : N → M} {o : Ops N} {p : Ops M} (h : Hom f o p) where
  pub oklab_to_linear_srgb-means : (c : Oklab N) → map_rgb f (oklab_to_linear_srgb o c) ≡ oklab_to_linear_srgb p (map_oklab f c)
  unfolding oklab_to_linear_srgb
  oklab_to_linear_srgb-means c = simp (h.mark, h.add, h.sub, h.mul, h.literal)

  pub linear_srgb_to_oklab-means : (c : LinSrgb N) → map_oklab f (linear_srgb_to_oklab o c) ≡ linear_srgb_to_oklab p (map_rgb f c)
  unfolding linear_srgb_to_oklab
  linear_srgb_to_oklab-means c = simp (h.mark, h.add, h.sub, h.mul, h.cbrt, h.literal)

  pub xyz_to_oklab-means : (c : Xyz N) → map_oklab f (xyz_to_oklab o c) ≡ xyz_to_oklab p (map_xyz f c)
  unfolding xyz_to_oklab
  xyz_to_oklab-means c = simp (h.mark, h.add, h.mul, h.cbrt, h.literal)

  pub oklab_to_xyz-means : (c : Oklab N) → map_xyz f (oklab_to_xyz o c) ≡ oklab_to_xyz p (map_oklab f c)
  unfolding oklab_to_xyz
  oklab_to_xyz-means c = simp (h.mark, h.add, h.mul, h.literal)
