-- Okhsv to Oklab and back: what an answer means depends only on what the colour means.
use Rattle.std.proofs.Common.{◌≡◌, ℕ, pos, Option, Result, refl, ap, ◌∙◌, ap₂}
use Rattle.gamut.specs.declared.direction.Direction.{Direction}
use Rattle.fault.specs.declared.faults.NumberFault.{NumberFault}
use Rattle.gamut.specs.declared.oklab.Oklab.{Oklab}
use Rattle.gamut.specs.declared.rgb.LinSrgb.{LinSrgb}
use Rattle.gamut.specs.Maps.{map_direction, map_oklab, map_rgb}
use Rattle.gamut.specs.Oklab.{oklab_to_linear_srgb}
use Rattle.gamut.specs.Toe.{toe, toe_inv}
use Rattle.gamut.proofs.OklabMeans.{oklab_to_linear_srgb-means}
use Rattle.gamut.proofs.ToeMeans.{toe-means, toe_inv-means}
use Rattle.number.specs.Formulas.{hypot}
use Rattle.number.specs.Meaning.{Meaning}
use Rattle.number.specs.Ops.{Ops, Hom}
use Rattle.boundary.specs.Rule.{meant, untold}
use Rattle.srgb_gamut.specs.declared.cusp.LC.{LC}
use Rattle.srgb_gamut.specs.declared.triangle.ST.{ST}
use Rattle.srgb_gamut.specs.Cusp.{cusp}
use Rattle.srgb_gamut.specs.Triangle.{st_of}
use Rattle.srgb_gamut.proofs.CuspMeans.{cusp-means}
use Rattle.srgb_gamut.proofs.Maps.{map_lc}
use Rattle.oklab.specs.Hues.{direction_with}
use Rattle.oklab.specs.Okhsl.{settled_oklab, grey}
use Rattle.oklab.specs.Okhsv.{brightest, untoed, scale_factor, oklab_on_triangle, okhsv_on_triangle, to_side, triangle_of, okhsv_grey, okhsv_at, okhsv_with_chroma, oklab_of_saturation, oklab_of_okhsv, okhsv_of_chroma, okhsv_of_oklab}
use Rattle.oklab.specs.Okhwb.{map_okhsv, settled_okhsv}
use Rattle.oklab.specs.declared.okhsv.Okhsv.{Okhsv}
use Rattle.oklab.proofs.AnswerMeans.{cond_means}
use Rattle.oklab.proofs.ConversionMeans.{okhsv_in_range-means, settled_okhsv-means}
use Rattle.oklab.proofs.OkhslMeans.{hypot-means, grey-means, settled_oklab-means, oklab_in_range-means}

abbrev map_st : {N M : Type 0} → (N → M) → ST N → ST M
map_st f g = record { s = f g.s; t = f g.t }

module _ {N : Type 0} {f : N → Meaning} {o : Ops N} {p : Ops Meaning} (h : Hom f o p) where
  brightest-means : (c : LinSrgb N) → f (brightest o c) ≡ brightest p (map_rgb f c)
  brightest-means c = simp (h.max, h.whole)

  untoed-means : (d : Direction N) (l c m : N) → map_oklab f (untoed o d l c m) ≡ untoed p (map_direction f d) (f l) (f c) (f m)
  untoed-means d l c m = simp (h.mul, h.div)

  scale_factor-means : (d : Direction N) (l c : N) → f (scale_factor o d l c) ≡ scale_factor p (map_direction f d) (f l) (f c)
  unfolding scale_factor
  scale_factor-means d l c =
      let x = untoed o d l c (toe_inv o l) in
      let q = untoed p (map_direction f d) (f l) (f c) in
      h.cbrt (o.div (o.whole (pos 1)) (brightest o (oklab_to_linear_srgb o x)))
      ∙ ap p.cbrt (h.div (o.whole (pos 1)) (brightest o (oklab_to_linear_srgb o x))
      ∙ ap₂ p.div (h.whole (pos 1)) (brightest-means (oklab_to_linear_srgb o x)
      ∙ ap (brightest p) (oklab_to_linear_srgb-means h x ∙ ap (oklab_to_linear_srgb p) (untoed-means d l c (toe_inv o l) ∙ ap q (toe_inv-means h l)))))

  oklab_on_triangle-means : (v : Okhsv N) (g : ST N) → map_oklab f (oklab_on_triangle o v g) ≡ oklab_on_triangle p (map_okhsv f v) (map_st f g)
  unfolding oklab_on_triangle
  oklab_on_triangle-means v g = simp (scale_factor-means, h.mark, h.add, h.sub, h.mul, h.div, h.literal, h.whole)

  okhsv_on_triangle-means : (c : Oklab N) (x : N) (d : Direction N) (g : ST N) (t : N) → map_okhsv f (okhsv_on_triangle o c x d g t) ≡ okhsv_on_triangle p (map_oklab f c) (f x) (map_direction f d) (map_st f g) (f t)
  unfolding okhsv_on_triangle
  okhsv_on_triangle-means c x d g t = simp (scale_factor-means, h.mark, h.add, h.sub, h.mul, h.div, h.sqrt, h.literal, h.whole)

  triangle_of-means : (d : Direction N) → map_st f (triangle_of o d) ≡ triangle_of p (map_direction f d)
  triangle_of-means d = st_of-means (cusp o d) ∙ ap (st_of p) (cusp-means h d)
    where
      st_of-means : (c : LC N) → map_st f (st_of o c) ≡ st_of p (map_lc f c)
      st_of-means c = simp (h.div, h.sub, h.whole)

  to_side-means : (c : Oklab N) (x : N) (g : ST N) → f (to_side o c x g) ≡ to_side p (map_oklab f c) (f x) (map_st f g)
  to_side-means c x g = simp (h.add, h.mul, h.div)

  okhsv_grey-means : (v : N) → map_okhsv f (okhsv_grey o v) ≡ okhsv_grey p (f v)
  okhsv_grey-means v = simp h.whole

  direction_with-means : (c : Oklab N) (x : N) → map_direction f (direction_with o c x) ≡ direction_with p (map_oklab f c) (f x)
  direction_with-means c x = simp h.div

  okhsv_at-means : (c : Oklab N) (x : N)
      → map_okhsv f (okhsv_at o c x (direction_with o c x) (triangle_of o (direction_with o c x))) ≡ okhsv_at p (map_oklab f c) (f x) (direction_with p (map_oklab f c) (f x)) (triangle_of p (direction_with p (map_oklab f c) (f x)))
  okhsv_at-means c x =
      let d = direction_with o c x in
      let g = triangle_of o d in
      let m = map_oklab f c in
      okhsv_on_triangle-means c x d g (to_side o c x g)
      ∙ ap (okhsv_on_triangle p m (f x) (map_direction f d) (map_st f g)) (to_side-means c x g)
      ∙ ap (okhsv_at p m (f x) (map_direction f d)) (triangle_of-means d)
      ∙ ap (λ e. okhsv_at p m (f x) e (triangle_of p e)) (direction_with-means c x)

  okhsv_with_chroma-means : (c : Oklab N) (x : N) → map_okhsv f (okhsv_with_chroma o c x) ≡ okhsv_with_chroma p (map_oklab f c) (f x)
  okhsv_with_chroma-means c x =
      let zero = o.whole (pos 0) in
      cond_means (map_okhsv f) _ _ (h.eq c.l zero ∙ ap (p.eq (f c.l)) (h.whole (pos 0)))
      (okhsv_grey-means zero ∙ ap (okhsv_grey p) (h.whole (pos 0)))
      (cond_means (map_okhsv f) _ _ (h.divisor x) (okhsv_at-means c x)
      (okhsv_grey-means (toe o c.l) ∙ ap (okhsv_grey p) (toe-means h c.l)))

  module _ (traced : N → Option (ℕ × ℕ)) where
    oklab_of_saturation-means : (v : Okhsv N) → map_oklab f (oklab_of_saturation o traced v) ≡ oklab_of_saturation p untold (map_okhsv f v)
    oklab_of_saturation-means v =
        let zero = o.whole (pos 0) in
        cond_means (map_oklab f) _ _ (h.eq v.value zero ∙ ap (p.eq (f v.value)) (h.whole (pos 0)))
        (grey-means h traced zero ∙ ap (grey p untold) (h.whole (pos 0)))
        (cond_means (map_oklab f) _ _ (h.eq v.saturation zero ∙ ap (p.eq (f v.saturation)) (h.whole (pos 0)))
        (grey-means h traced (toe_inv o v.value) ∙ ap (grey p untold) (toe_inv-means h v.value))
        (oklab_on_triangle-means v (triangle_of o v.hue) ∙ ap (oklab_on_triangle p (map_okhsv f v)) (triangle_of-means v.hue)))

    pub oklab_of_okhsv-means : (v : Okhsv N) (r : Result (Oklab N) NumberFault) → r ≡ oklab_of_okhsv o traced v → meant (map_oklab f) r ≡ oklab_of_okhsv p untold (map_okhsv f v)
    oklab_of_okhsv-means v r e =
        ap (meant (map_oklab f)) e ∙ cond_means (meant (map_oklab f)) _ _ (okhsv_in_range-means h traced v)
        (cond_means (meant (map_oklab f)) _ _ (h.direction v.hue.a v.hue.b)
        (settled_oklab-means h traced (oklab_of_saturation o traced v) ∙ ap (settled_oklab p untold) (oklab_of_saturation-means v)) refl)
        refl

    okhsv_of_chroma-means : (c : Oklab N) (x : N) → meant (map_okhsv f) (okhsv_of_chroma o traced c x) ≡ okhsv_of_chroma p untold (map_oklab f c) (f x)
    okhsv_of_chroma-means c x =
        cond_means (meant (map_okhsv f)) _ _ (h.spoiled x) refl
        (settled_okhsv-means h traced (okhsv_with_chroma o c x) ∙ ap (settled_okhsv p untold) (okhsv_with_chroma-means c x))

    pub okhsv_of_oklab-means : (c : Oklab N) (r : Result (Okhsv N) NumberFault) → r ≡ okhsv_of_oklab o traced c → meant (map_okhsv f) r ≡ okhsv_of_oklab p untold (map_oklab f c)
    okhsv_of_oklab-means c r e =
        ap (meant (map_okhsv f)) e ∙ cond_means (meant (map_okhsv f)) _ _ (oklab_in_range-means h traced c)
        (okhsv_of_chroma-means c (hypot o c.a c.b) ∙ ap (okhsv_of_chroma p untold (map_oklab f c)) (hypot-means h c.a c.b))
        refl
