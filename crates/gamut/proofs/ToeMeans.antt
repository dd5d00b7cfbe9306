-- The toe and its inverse commute with any map that carries one kind's operations to another's.
use mathlib.Core.Path.{◌≡◌}
use Rattle.number.specs.Ops.{Ops, Hom}
use Rattle.gamut.specs.Toe.{toe, toe_inv}

module _ {N M : Type 0} {f : N → M} {o : Ops N} {p : Ops M} (h : Hom f o p) where
  pub toe-means : (x : N) → f (toe o x) ≡ toe p (f x)
  toe-means x = simp (h.mark, h.div, h.add, h.sub, h.mul, h.sqrt, h.literal, h.whole)

  pub toe_inv-means : (x : N) → f (toe_inv o x) ≡ toe_inv p (f x)
  toe_inv-means x = simp (h.mark, h.div, h.add, h.mul, h.literal, h.whole)
