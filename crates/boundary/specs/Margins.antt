-- A margin: the three numbers of the boundary below, times a factor.
use Rattle.std.specs.Prelude.{cond, Ok, Err, Result}
use Rattle.fault.specs.declared.faults.NumberFault.TheVariants.{Range}
use Rattle.number.specs.Meaning.{Meaning}
use Rattle.number.specs.Ops.{Ops}
use Rattle.boundary.specs.Query.{Gamut}
use Rattle.boundary.specs.Model.{Model, with_factor, times, is_factor}
use Rattle.boundary.specs.declared.margin.Margin.{Margin}
use Rattle.boundary.specs.declared.margin.Returned.{Returned}

-- A margin is made of a factor in range and a boundary, and else refused with the boundary given back.
abbrev pub made_margin : {N B Plain : Type 0} → Ops N → N → B → Result (Margin N B Plain) (Returned B)
made_margin o f below =
    cond (is_factor o f) (Ok (record { factor = f; below = below })) (Err (record { below = below; fault = Range }))

module _ {N B Plain : Type 0} where
  abbrev pub margin_meaning : Ops Meaning → (N → Meaning) → (B → Gamut) → Margin N B Plain → Gamut
  margin_meaning arith means meaning m q = times arith (meaning m.below q) (means m.factor)

  abbrev pub margin_model : (N → Meaning) → (B → Model) → Margin N B Plain → Model
  margin_model means model m = with_factor (means m.factor) (model m.below)

  -- A margin keeps nothing itself.
  abbrev pub MarginFresh : (B → Type 0) → Margin N B Plain → Type 0
  MarginFresh fresh m = fresh m.below
