-- Okhsl to Oklab and back: what an answer means depends only on what the colour and the boundary mean.
use Rattle.std.proofs.Common.{◌≡◌, ℕ, ◌&&◌, pos, Option, refl, ap, ◌∙◌}
use Rattle.gamut.specs.declared.chroma.ChromaValues.{ChromaValues}
use Rattle.gamut.specs.declared.oklab.Oklab.{Oklab}
use Rattle.gamut.specs.Curve.{chroma}
use Rattle.gamut.specs.Maps.{map_direction, map_oklab, map_values}
use Rattle.gamut.specs.Toe.{toe_inv}
use Rattle.gamut.proofs.CurveMeans.{map_cond, chroma_means, saturation-means}
use Rattle.gamut.proofs.ToeMeans.{toe-means, toe_inv-means}
use Rattle.number.specs.Formulas.{hypot, hypot_of_sizes, size, lengthened}
use Rattle.number.specs.Meaning.{Meaning}
use Rattle.number.specs.Ops.{Ops, Hom}
use Rattle.boundary.specs.Rule.{meant, untold, admitted}
use Rattle.oklab.specs.Okhsl.{oklab_numbers, okhsl_numbers, map_okhsl, settled_oklab, settled_okhsl, grey, okhsl_in_range, oklab_with, oklab_steps, oklab_in_range, okhsl_grey, is_grey, okhsl_with, okhsl_of_chroma, okhsl_steps}
use Rattle.oklab.specs.Steps.{and_then}
use Rattle.oklab.specs.declared.okhsl.Okhsl.{Okhsl}
use Rattle.oklab.proofs.AnswerMeans.{settled-means, asked_means}
use Rattle.oklab.proofs.Carries.{Carries, carries_ends, carries_asks, carries_cond}

module _ {N : Type 0} {f : N → Meaning} {o : Ops N} {p : Ops Meaning} (h : Hom f o p) where
  size-means : (x : N) → f (size o x) ≡ size p (f x)
  size-means x = map_cond f (o.lt x (o.whole (pos 0))) (o.neg x) x ∙ simp (h.lt, h.neg, h.whole)

  hypot_of_sizes-means : (a b : N) → f (hypot_of_sizes o a b) ≡ hypot_of_sizes p (f a) (f b)
  hypot_of_sizes-means a b = map_cond f (o.lt a b) (lengthened o b (o.div a b)) (lengthened o a (o.div b a)) ∙ simp (h.lt, h.add, h.mul, h.div, h.sqrt, h.whole)

  pub hypot-means : (a b : N) → f (hypot o a b) ≡ hypot p (f a) (f b)
  hypot-means a b =
      map_cond f (o.eq a (o.whole (pos 0)) && o.eq b (o.whole (pos 0))) (o.whole (pos 0)) (hypot_of_sizes o (size o a) (size o b))
      ∙ rw (h.eq a (o.whole (pos 0)), h.eq b (o.whole (pos 0)), h.whole (pos 0), hypot_of_sizes-means (size o a) (size o b), size-means a, size-means b)

  module _ (traced : N → Option (ℕ × ℕ)) where
    pub settled_oklab-means : (c : Oklab N) → meant (map_oklab f) (settled_oklab o traced c) ≡ settled_oklab p untold (map_oklab f c)
    settled_oklab-means c = settled-means h traced (map_oklab f) (oklab_numbers c) c

    settled_okhsl-means : (c : Okhsl N) → meant (map_okhsl f) (settled_okhsl o traced c) ≡ settled_okhsl p untold (map_okhsl f c)
    settled_okhsl-means c = settled-means h traced (map_okhsl f) (okhsl_numbers c) c

    pub grey-means : (l : N) → map_oklab f (grey o traced l) ≡ grey p untold (f l)
    grey-means l = simp h.whole

    oklab_with-means : (c : Okhsl N) (l : N) (v : ChromaValues N) → map_oklab f (oklab_with o traced c l v) ≡ oklab_with p untold (map_okhsl f c) (f l) (map_values f v)
    oklab_with-means c l v = rw (h.mul (chroma o v c.saturation) c.hue.a, h.mul (chroma o v c.saturation) c.hue.b, chroma_means h v c.saturation)

    okhsl_with-means : (c : Oklab N) (x : N) (v : ChromaValues N) → map_okhsl f (okhsl_with o traced c x v) ≡ okhsl_with p untold (map_oklab f c) (f x) (map_values f v)
    okhsl_with-means c x v = rw (h.div c.a x, h.div c.b x, saturation-means h v x, toe-means h c.l)

    okhsl_grey-means : (c : Oklab N) → map_okhsl f (okhsl_grey o traced c) ≡ okhsl_grey p untold (map_oklab f c)
    okhsl_grey-means c = rw (h.whole (pos 0), h.whole (pos 1), toe-means h c.l)

    okhsl_in_range-means : (c : Okhsl N) → okhsl_in_range o traced c ≡ okhsl_in_range p untold (map_okhsl f c)
    okhsl_in_range-means c = simp (h.spoiled, h.le, h.whole)

    pub oklab_in_range-means : (c : Oklab N) → oklab_in_range o traced c ≡ oklab_in_range p untold (map_oklab f c)
    oklab_in_range-means c = simp (h.spoiled, h.le, h.whole)

    is_grey-means : (c : Oklab N) (x : N) → is_grey o traced c x ≡ is_grey p untold (map_oklab f c) (f x)
    is_grey-means c x = simp (h.divisor, h.eq, h.whole)

    pub oklab_steps-carried : (c : Okhsl N) → Carries f (meant (map_oklab f)) (oklab_steps o traced c) (oklab_steps p untold (map_okhsl f c))
    unfolding oklab_steps
    oklab_steps-carried c =
        let l = toe_inv o c.lightness in
        let white = o.whole (pos 1) in
        let black = o.whole (pos 0) in
        carries_cond (okhsl_in_range-means c)
        (carries_cond (h.direction c.hue.a c.hue.b)
        (carries_cond (h.eq c.lightness white ∙ ap (p.eq (f c.lightness)) (h.whole (pos 1)))
        (carries_ends (settled_oklab-means (grey o traced white) ∙ ap (settled_oklab p untold) (grey-means white ∙ ap (grey p untold) (h.whole (pos 1)))))
        (carries_cond (h.eq c.lightness black ∙ ap (p.eq (f c.lightness)) (h.whole (pos 0)))
        (carries_ends (settled_oklab-means (grey o traced black) ∙ ap (settled_oklab p untold) (grey-means black ∙ ap (grey p untold) (h.whole (pos 0)))))
        (carries_asks (λ i. record { lightness = toe_inv-means h c.lightness i; hue = map_direction f c.hue }) (λ v.
        asked_means h traced (map_oklab f) l v (λ w. settled_oklab o traced (oklab_with o traced c l w)) (λ w. settled_oklab p untold (oklab_with p untold (map_okhsl f c) (f l) w))
        (λ w. settled_oklab-means (oklab_with o traced c l w) ∙ ap (settled_oklab p untold) (oklab_with-means c l w))
        ∙ ap (λ m. and_then (admitted p untold m (map_values f v)) (λ w. settled_oklab p untold (oklab_with p untold (map_okhsl f c) m w))) (toe_inv-means h c.lightness)))))
        (carries_ends refl))
        (carries_ends refl)

    okhsl_of_chroma-carried : (c : Oklab N) (x : N) → Carries f (meant (map_okhsl f)) (okhsl_of_chroma o traced c x) (okhsl_of_chroma p untold (map_oklab f c) (f x))
    okhsl_of_chroma-carried c x =
        carries_cond (h.spoiled x) (carries_ends refl)
        (carries_cond (is_grey-means c x) (carries_ends (settled_okhsl-means (okhsl_grey o traced c) ∙ ap (settled_okhsl p untold) (okhsl_grey-means c)))
        (carries_asks (λ i. record { lightness = f c.l; hue = record { a = h.div c.a x i; b = h.div c.b x i } }) (λ v.
        asked_means h traced (map_okhsl f) c.l v (λ w. settled_okhsl o traced (okhsl_with o traced c x w)) (λ w. settled_okhsl p untold (okhsl_with p untold (map_oklab f c) (f x) w))
        (λ w. settled_okhsl-means (okhsl_with o traced c x w) ∙ ap (settled_okhsl p untold) (okhsl_with-means c x w)))))

    pub okhsl_steps-carried : (c : Oklab N) → Carries f (meant (map_okhsl f)) (okhsl_steps o traced c) (okhsl_steps p untold (map_oklab f c))
    unfolding okhsl_steps
    okhsl_steps-carried c =
        carries_cond (oklab_in_range-means c)
        (rw (← hypot-means c.a c.b) (okhsl_of_chroma-carried c (hypot o c.a c.b)))
        (carries_ends refl)
