-- Conversions that ask no boundary: what an answer means depends only on what the colour means.
use Rattle.std.proofs.Common.{◌≡◌, ℕ, pos, Option, Result, refl, ap, ◌∙◌}
use Rattle.fault.specs.declared.faults.NumberFault.{NumberFault}
use Rattle.gamut.specs.declared.oklab.Oklab.{Oklab}
use Rattle.gamut.specs.declared.rgb.LinSrgb.{LinSrgb}
use Rattle.gamut.specs.declared.xyz.Xyz.{Xyz}
use Rattle.gamut.specs.Maps.{map_direction, map_oklab, map_rgb, map_xyz}
use Rattle.gamut.specs.Oklab.{oklab_to_linear_srgb, linear_srgb_to_oklab, xyz_to_oklab, oklab_to_xyz}
use Rattle.gamut.proofs.CurveMeans.{map_cond}
use Rattle.gamut.proofs.OklabMeans.{oklab_to_linear_srgb-means, linear_srgb_to_oklab-means, xyz_to_oklab-means, oklab_to_xyz-means}
use Rattle.number.specs.Formulas.{hypot}
use Rattle.number.specs.Meaning.{Meaning}
use Rattle.number.specs.Ops.{Ops, Hom}
use Rattle.boundary.specs.Rule.{meant, untold}
use Rattle.oklab.specs.Okhsl.{map_okhsl, settled_oklab}
use Rattle.oklab.specs.Okhwb.{okhwb_numbers, okhsv_numbers, map_okhsv, map_okhwb, settled_okhsv, settled_okhwb, okhsv_in_range, okhwb_in_range, okhwb_with, okhwb_of_okhsv, okhsv_with, okhsv_of_okhwb}
use Rattle.oklab.specs.Oklch.{oklch_numbers, map_oklch, settled_oklch, hue_of, oklch_of_chroma, oklch_of_oklab, oklch_in_range, oklab_with_chroma, oklab_of_oklch}
use Rattle.oklab.specs.Spaces.{xyz_numbers, rgb_numbers, settled_rgb, settled_xyz, none_spoiled, linear_srgb_of_oklab, oklab_of_linear_srgb, xyz_of_oklab, oklab_of_xyz}
use Rattle.oklab.specs.Word.{word_of}
use Rattle.oklab.specs.declared.okhsl.Okhsl.{Okhsl}
use Rattle.oklab.specs.declared.okhsv.Okhsv.{Okhsv}
use Rattle.oklab.specs.declared.okhwb.Okhwb.{Okhwb}
use Rattle.oklab.specs.declared.oklch.Oklch.{Oklch}
use Rattle.oklab.specs.declared.word.Word.{Word}
use Rattle.oklab.proofs.AnswerMeans.{settled-means, cond_means}
use Rattle.oklab.proofs.OkhslMeans.{hypot-means, settled_oklab-means, oklab_in_range-means}

module _ {N : Type 0} {f : N → Meaning} {o : Ops N} {p : Ops Meaning} (h : Hom f o p) (traced : N → Option (ℕ × ℕ)) where
  hue_of-means : (c : Oklab N) (x : N) → map_direction f (hue_of o traced c x) ≡ hue_of p untold (map_oklab f c) (f x)
  hue_of-means c x =
      map_cond (map_direction f) (o.eq x (o.whole (pos 0))) (record { a = o.whole (pos 1); b = o.whole (pos 0) }) (record { a = o.div c.a x; b = o.div c.b x })
      ∙ simp (h.eq, h.div, h.whole)

  oklch_of_chroma-means : (c : Oklab N) (x : N) → meant (map_oklch f) (oklch_of_chroma o traced c x) ≡ oklch_of_chroma p untold (map_oklab f c) (f x)
  oklch_of_chroma-means c x =
      let lch : Oklch N = record { l = c.l; chroma = x; hue = hue_of o traced c x } in
      cond_means (meant (map_oklch f)) _ _ (h.spoiled x) refl
      (settled-means h traced (map_oklch f) (oklch_numbers lch) lch
      ∙ ap (λ d. settled_oklch p untold (record { l = f c.l; chroma = f x; hue = d })) (hue_of-means c x))

  pub oklch_of_oklab-means : (c : Oklab N) (r : Result (Oklch N) NumberFault) → r ≡ oklch_of_oklab o traced c → meant (map_oklch f) r ≡ oklch_of_oklab p untold (map_oklab f c)
  oklch_of_oklab-means c r e =
      let x = hypot o c.a c.b in
      ap (meant (map_oklch f)) e ∙ cond_means (meant (map_oklch f)) _ _ (oklab_in_range-means h traced c) (oklch_of_chroma-means c x ∙ ap (oklch_of_chroma p untold (map_oklab f c)) (hypot-means h c.a c.b)) refl

  oklch_in_range-means : (c : Oklch N) → oklch_in_range o traced c ≡ oklch_in_range p untold (map_oklch f c)
  oklch_in_range-means c = simp (h.spoiled, h.le, h.whole)

  oklab_with_chroma-means : (c : Oklch N) → map_oklab f (oklab_with_chroma o traced c (o.max c.chroma (o.whole (pos 0)))) ≡ oklab_with_chroma p untold (map_oklch f c) (p.max (f c.chroma) (p.whole (pos 0)))
  oklab_with_chroma-means c = simp (h.mul, h.max, h.whole)

  pub oklab_of_oklch-means : (c : Oklch N) (r : Result (Oklab N) NumberFault) → r ≡ oklab_of_oklch o traced c → meant (map_oklab f) r ≡ oklab_of_oklch p untold (map_oklch f c)
  oklab_of_oklch-means c r e =
      let lab = oklab_with_chroma o traced c (o.max c.chroma (o.whole (pos 0))) in
      ap (meant (map_oklab f)) e ∙ cond_means (meant (map_oklab f)) _ _ (oklch_in_range-means c)
      (cond_means (meant (map_oklab f)) _ _ (h.direction c.hue.a c.hue.b) (settled_oklab-means h traced lab ∙ ap (settled_oklab p untold) (oklab_with_chroma-means c)) refl)
      refl

  pub okhsv_in_range-means : (c : Okhsv N) → okhsv_in_range o traced c ≡ okhsv_in_range p untold (map_okhsv f c)
  okhsv_in_range-means c = simp (h.spoiled, h.le, h.whole)

  okhwb_in_range-means : (c : Okhwb N) → okhwb_in_range o traced c ≡ okhwb_in_range p untold (map_okhwb f c)
  okhwb_in_range-means c = simp (h.spoiled, h.le, h.sub, h.whole)

  okhwb_with-means : (c : Okhsv N) → map_okhwb f (okhwb_with o traced c) ≡ okhwb_with p untold (map_okhsv f c)
  okhwb_with-means c = simp (h.mul, h.sub, h.whole)

  pub okhwb_of_okhsv-means : (c : Okhsv N) (r : Result (Okhwb N) NumberFault) → r ≡ okhwb_of_okhsv o traced c → meant (map_okhwb f) r ≡ okhwb_of_okhsv p untold (map_okhsv f c)
  okhwb_of_okhsv-means c r e =
      let w = okhwb_with o traced c in
      ap (meant (map_okhwb f)) e ∙ cond_means (meant (map_okhwb f)) _ _ (okhsv_in_range-means c)
      (cond_means (meant (map_okhwb f)) _ _ (h.direction c.hue.a c.hue.b)
      (settled-means h traced (map_okhwb f) (okhwb_numbers w) w ∙ ap (settled_okhwb p untold) (okhwb_with-means c)) refl)
      refl

  pub settled_okhsv-means : (c : Okhsv N) → meant (map_okhsv f) (settled_okhsv o traced c) ≡ settled_okhsv p untold (map_okhsv f c)
  settled_okhsv-means c = settled-means h traced (map_okhsv f) (okhsv_numbers c) c

  okhsv_with-means : (c : Okhwb N) → map_okhsv f (okhsv_with o traced c (o.sub (o.whole (pos 1)) c.blackness)) ≡ okhsv_with p untold (map_okhwb f c) (p.sub (p.whole (pos 1)) (f c.blackness))
  okhsv_with-means c = simp (map_cond f, h.divisor, h.div, h.sub, h.whole)

  pub okhsv_of_okhwb-means : (c : Okhwb N) (r : Result (Okhsv N) NumberFault) → r ≡ okhsv_of_okhwb o traced c → meant (map_okhsv f) r ≡ okhsv_of_okhwb p untold (map_okhwb f c)
  okhsv_of_okhwb-means c r e =
      let v = okhsv_with o traced c (o.sub (o.whole (pos 1)) c.blackness) in
      ap (meant (map_okhsv f)) e ∙ cond_means (meant (map_okhsv f)) _ _ (okhwb_in_range-means c)
      (cond_means (meant (map_okhsv f)) _ _ (h.direction c.hue.a c.hue.b) (settled_okhsv-means v ∙ ap (settled_okhsv p untold) (okhsv_with-means c)) refl)
      refl

  pub word_of_means : (c : Okhsl N) (t : N) (r : Result Word NumberFault) → r ≡ word_of o traced c t → r ≡ word_of p untold (map_okhsl f c) (f t)
  word_of_means c t r e = e ∙ simp (h.spoiled, h.le, h.sub, h.whole, h.direction)

  none_spoiled-means : (x y z : N) → none_spoiled o traced x y z ≡ none_spoiled p untold (f x) (f y) (f z)
  none_spoiled-means x y z = simp h.spoiled

  pub linear_srgb_of_oklab-means : (c : Oklab N) (r : Result (LinSrgb N) NumberFault) → r ≡ linear_srgb_of_oklab o traced c → meant (map_rgb f) r ≡ linear_srgb_of_oklab p untold (map_oklab f c)
  linear_srgb_of_oklab-means c r e =
      let r = oklab_to_linear_srgb o c in
      ap (meant (map_rgb f)) e ∙ cond_means (meant (map_rgb f)) _ _ (oklab_in_range-means h traced c)
      (settled-means h traced (map_rgb f) (rgb_numbers r) r ∙ ap (settled_rgb p untold) (oklab_to_linear_srgb-means h c)) refl

  pub oklab_of_linear_srgb-means : (c : LinSrgb N) (r : Result (Oklab N) NumberFault) → r ≡ oklab_of_linear_srgb o traced c → meant (map_oklab f) r ≡ oklab_of_linear_srgb p untold (map_rgb f c)
  oklab_of_linear_srgb-means c r e =
      ap (meant (map_oklab f)) e ∙ cond_means (meant (map_oklab f)) _ _ (none_spoiled-means c.red c.green c.blue)
      (settled_oklab-means h traced (linear_srgb_to_oklab o c) ∙ ap (settled_oklab p untold) (linear_srgb_to_oklab-means h c)) refl

  pub xyz_of_oklab-means : (c : Oklab N) (r : Result (Xyz N) NumberFault) → r ≡ xyz_of_oklab o traced c → meant (map_xyz f) r ≡ xyz_of_oklab p untold (map_oklab f c)
  xyz_of_oklab-means c r e =
      let r = oklab_to_xyz o c in
      ap (meant (map_xyz f)) e ∙ cond_means (meant (map_xyz f)) _ _ (oklab_in_range-means h traced c)
      (settled-means h traced (map_xyz f) (xyz_numbers r) r ∙ ap (settled_xyz p untold) (oklab_to_xyz-means h c)) refl

  pub oklab_of_xyz-means : (c : Xyz N) (r : Result (Oklab N) NumberFault) → r ≡ oklab_of_xyz o traced c → meant (map_oklab f) r ≡ oklab_of_xyz p untold (map_xyz f c)
  oklab_of_xyz-means c r e =
      ap (meant (map_oklab f)) e ∙ cond_means (meant (map_oklab f)) _ _ (none_spoiled-means c.x c.y c.z)
      (settled_oklab-means h traced (xyz_to_oklab o c) ∙ ap (settled_oklab p untold) (xyz_to_oklab-means h c)) refl
