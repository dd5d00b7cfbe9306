-- The checks of a conversion: 5 before it, 8 on the numbers of its answer.
use Rattle.std.specs.Prelude.{ℕ, Bool, cond, not, ◌&&◌, List, [], ◌∷◌, pos, Ok, Err, Option, Result}
use Rattle.fault.specs.declared.faults.NumberFault.{NumberFault}
use Rattle.fault.specs.declared.faults.NumberFault.TheVariants.{Lost}
use Rattle.gamut.specs.declared.direction.Direction.{Direction as Hue}
use Rattle.number.specs.Ops.{Ops}

-- a fault, unless a test holds
abbrev pub refused_unless : Bool → NumberFault → Result (Unit {0}) NumberFault
refused_unless b e = cond b (Ok tt) (Err e)

module _ {N : Type 0} (o : Ops N) where
  open o use {le, spoiled, whole}

  -- in 0..1, and not spoiled
  abbrev pub in_unit : N → Bool
  in_unit x = not (spoiled x) && (le (whole (pos 0)) x && le x (whole (pos 1)))

  -- no number spoiled of a hue and two numbers beside it, which are in 0..1
  abbrev pub hue_and_shares_in_range : Hue N → N → N → Bool
  hue_and_shares_in_range h x y = not (spoiled h.a) && (not (spoiled h.b) && (in_unit x && in_unit y))

  module _ (traced : N → Option (ℕ × ℕ)) where
    -- the first spoiled number among those of an answer x refuses it
    abbrev pub settled : {X : Type 0} → List N → X → Result X NumberFault
    settled [] x = Ok x
    settled (n ∷ ns) x = cond (spoiled n) (Err (Lost (traced n))) (settled ns x)
