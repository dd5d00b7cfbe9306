-- The rule by which a query is refused, over the numbers of a kind or over what they mean.
use Rattle.std.specs.Prelude.{ℕ, Bool, cond, not, ◌&&◌, ◌||◌, pos, None, Ok, Err, Option, Result}
use Rattle.fault.specs.declared.faults.NumberFault.{NumberFault}
use Rattle.fault.specs.declared.faults.NumberFault.TheVariants.{Range, Direction, Boundary, Lost}
use Rattle.gamut.specs.declared.chroma.ChromaValues.{ChromaValues}
use Rattle.number.specs.Ops.{Ops}

-- A fault without the trace that it holds: two refusals are alike when these are equal.
abbrev pub untraced : NumberFault → NumberFault
untraced Range = Range
untraced Direction = Direction
untraced (Boundary t) = Boundary None
untraced (Lost t) = Lost None

-- An answer by what its numbers mean, and a refusal without its trace.
abbrev pub meant : {A B : Type 0} → (A → B) → Result A NumberFault → Result B NumberFault
meant f (Ok x) = Ok (f x)
meant f (Err e) = Err (untraced e)

-- what has no trace
abbrev pub untold : {N : Type 0} → N → Option (ℕ × ℕ)
untold x = None

module _ {N : Type 0} (o : Ops N) where
  open o use {lt, spoiled, whole}

  -- strictly between 0 and 1
  abbrev pub inside : N → Bool
  inside l = lt (whole (pos 0)) l && lt l (whole (pos 1))

  abbrev pub any_spoiled : ChromaValues N → Bool
  any_spoiled v = spoiled v.zero || (spoiled v.mid || spoiled v.max)

  -- 0 < zero and 0 < mid < max
  abbrev pub ordered : ChromaValues N → Bool
  ordered v = lt (whole (pos 0)) v.zero && (lt (whole (pos 0)) v.mid && lt v.mid v.max)

  -- A query is refused exactly when this holds.
  abbrev pub refuses : N → ChromaValues N → Bool
  refuses l v = not (inside l) || (any_spoiled v || not (ordered v))

  module _ (traced : N → Option (ℕ × ℕ)) where
    -- the trace of the first spoiled number among the lightness and the three
    abbrev pub first_trace : N → ChromaValues N → Option (ℕ × ℕ)
    first_trace l v =
        cond (spoiled l) (traced l)
        (cond (spoiled v.zero) (traced v.zero)
        (cond (spoiled v.mid) (traced v.mid)
        (cond (spoiled v.max) (traced v.max) None)))

    -- the answer to a query of lightness l with the three numbers v
    abbrev pub admitted : N → ChromaValues N → Result (ChromaValues N) NumberFault
    admitted l v = cond (refuses l v) (Err (Boundary (first_trace l v))) (Ok v)
