-- The toe, which takes Oklab's lightness to that of Okhsl and Okhsv, and its inverse; u, k1, k2 and k3 are those of the exact toe.
use Rattle.rational.specs.Toe.{toe_inv as inverse, toe_square, toe_with}
use Rattle.number.specs.Ops.{Ops, basic}
use Rattle.number.specs.declared.fault.Stage.TheVariants.{Toe}

module _ {N : Type 0} (o : Ops N) where
  -- 0.5 × (u + root of (u² + 4 k2 k3 L)), with u = k3 L − k1
  abbrev pub toe : N → N
  toe l = o.mark Toe (toe_with (basic o) l (o.sqrt (toe_square (basic o) l)))

  -- (r² + k1 r) ÷ (k3 (r + k2))
  abbrev pub toe_inv : N → N
  toe_inv r = o.mark Toe (inverse (basic o) r)
