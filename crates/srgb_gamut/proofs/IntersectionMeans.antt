-- The intersection of a line with sRGB commutes with any map that carries one kind's operations to another's.
use mathlib.Core.Path.{◌≡◌}
use Rattle.number.specs.Ops.{Ops, Hom}
use Rattle.gamut.proofs.CurveMeans.{map_cond}
use Rattle.gamut.specs.Maps.{map_direction}
use Rattle.gamut.specs.declared.direction.Direction.{Direction}
use Rattle.gamut.specs.declared.lms.Lms.{Lms}
use Rattle.srgb_gamut.specs.Intersection.{stride, shortest, step, upper, intersection}
use Rattle.srgb_gamut.specs.declared.cusp.LC.{LC}
use Rattle.srgb_gamut.specs.declared.intersection.Line.{Line}
use Rattle.srgb_gamut.specs.declared.jet.Jet.{Jet}
use Rattle.srgb_gamut.proofs.Maps.{map_lms, map_lc, map_jet, map_line}

module _ {N M : Type 0} {f : N → M} {o : Ops N} {p : Ops M} (h : Hom f o p) where
  stride-means : (j : Jet N) → f (stride o j) ≡ stride p (map_jet f j)
  unfolding stride
  stride-means j = simp (map_cond f, h.le, h.sub, h.mul, h.div, h.neg, h.literal, h.whole)

  shortest-means : (l m s : Jet N) → f (shortest o l m s) ≡ shortest p (map_jet f l) (map_jet f m) (map_jet f s)
  unfolding shortest
  shortest-means l m s = simp (stride-means, h.min, h.add, h.sub, h.mul, h.neg, h.literal, h.whole)

  step-means : (x d : Lms N) → f (step o x d) ≡ step p (map_lms f x) (map_lms f d)
  unfolding step
  step-means x d = simp (shortest-means, h.mul, h.whole)

  upper-means : (t : N) (k : Lms N) (x : Line N) → f (upper o t k x) ≡ upper p (f t) (map_lms f k) (map_line f x)
  unfolding upper
  upper-means t k x = simp (step-means, h.add, h.sub, h.mul, h.whole)

  pub intersection-means : (d : Direction N) (x : Line N) (c : LC N) → f (intersection o d x c) ≡ intersection p (map_direction f d) (map_line f x) (map_lc f c)
  unfolding intersection
  intersection-means d x c = simp (map_cond f, upper-means, h.le, h.mark, h.add, h.sub, h.mul, h.div, h.neg, h.literal, h.whole)
