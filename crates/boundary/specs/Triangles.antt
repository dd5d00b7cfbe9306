-- The triangle: its chroma rises from black with one slope and falls to white with another.
use Rattle.std.specs.Prelude.{Bool, cond, not, ◌&&◌, pos, Ok, Err, Result}
use Rattle.fault.specs.declared.faults.NumberFault.{NumberFault}
use Rattle.fault.specs.declared.faults.NumberFault.TheVariants.{Range}
use Rattle.gamut.specs.declared.chroma.ChromaValues.{ChromaValues}
use Rattle.number.specs.Meaning.{Meaning}
use Rattle.number.specs.Ops.{Ops}
use Rattle.boundary.specs.Query.{Gamut}
use Rattle.boundary.specs.Model.{Model, of_base}
use Rattle.boundary.specs.declared.query.Query.{Query}
use Rattle.boundary.specs.declared.triangle.Triangle.{Triangle}

module _ {N : Type 0} (o : Ops N) where
  open o use {sub, mul, div, min, whole, lt, spoiled}

  -- The three numbers at lightness l, with the slopes s and t: max is the smaller of l × s and (1 − l) × t,
  -- mid is 3/5 of max and zero 1/2 of it.
  abbrev pub triangle_at : N → N → N → ChromaValues N
  triangle_at s t l =
      let top = min (mul l s) (mul (sub (whole (pos 1)) l) t) in
      record {
        zero = mul (div (whole (pos 1)) (whole (pos 2))) top;
        mid = mul (div (whole (pos 3)) (whole (pos 5))) top;
        max = top;
      }

  -- The direction does not count.
  abbrev pub triangle : N → N → Query N → ChromaValues N
  triangle s t q = triangle_at s t q.lightness

  -- above 0
  abbrev pub is_slope : N → Bool
  is_slope s = not (spoiled s) && lt (whole (pos 0)) s

  -- A triangle is made of two slopes, and else refused.
  abbrev pub made_triangle : N → N → Result (Triangle N) NumberFault
  made_triangle s t = cond (is_slope s && is_slope t) (Ok (record { s = s; t = t })) (Err Range)

module _ {N : Type 0} (arith : Ops Meaning) (means : N → Meaning) where
  abbrev pub triangle_meaning : Triangle N → Gamut
  triangle_meaning x = triangle arith (means x.s) (means x.t)

  abbrev pub triangle_model : Triangle N → Model
  triangle_model x = of_base (triangle_meaning x)
