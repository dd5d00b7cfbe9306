-- The plain model of a stack: the base's meaning and the factors above it, held for good.
use Rattle.std.specs.Prelude.{◌≡◌, Bool, not, ◌&&◌, List, [], ◌∷◌, pos, Result}
use Rattle.fault.specs.declared.faults.NumberFault.{NumberFault}
use Rattle.gamut.specs.declared.chroma.ChromaValues.{ChromaValues}
use Rattle.number.specs.Meaning.{Meaning}
use Rattle.number.specs.Ops.{Ops}
use Rattle.boundary.specs.Query.{Gamut}
use Rattle.boundary.specs.Rule.{admitted, untold}
use Rattle.boundary.specs.declared.query.Query.{Query}

-- the factors from the top of the stack down
pub record Model : Type 0 where
  pub base : Gamut
  pub factors : List Meaning

-- a base: its own meaning and no factor
abbrev pub of_base : Gamut → Model
of_base g = record { base = g; factors = [] }

-- It keeps nothing: it is fresh at any time.
abbrev pub always : {S : Type 0} → S → Type 0
always s = Unit {0}

-- one factor more
abbrev pub with_factor : Meaning → Model → Model
with_factor f m = record { base = m.base; factors = f ∷ m.factors }

-- three numbers times a factor
abbrev pub times : {N : Type 0} → Ops N → ChromaValues N → N → ChromaValues N
times o v f = record { zero = o.mul v.zero f; mid = o.mul v.mid f; max = o.mul v.max f }

-- above 0 and at most 1
abbrev pub is_factor : {N : Type 0} → Ops N → N → Bool
is_factor o f = not (o.spoiled f) && (o.lt (o.whole (pos 0)) f && o.le f (o.whole (pos 1)))

module _ (o : Ops Meaning) where
  -- three numbers times each factor, from the base up
  abbrev pub scaled : List Meaning → ChromaValues Meaning → ChromaValues Meaning
  scaled [] v = v
  scaled (f ∷ fs) v = times o (scaled fs v) f

  -- the three numbers of a model's query
  abbrev pub modelled : Model → Gamut
  modelled m q = scaled m.factors (m.base q)

  -- how the model answers or refuses a query
  abbrev pub answered : Gamut → Query Meaning → Result (ChromaValues Meaning) NumberFault
  answered g q = admitted o untold q.lightness (g q)

-- What a call leaves: a stack of the same meaning and the same model.
pub record Stays {S : Type 0} (meaning : S → Gamut) (model : S → Model) (s t : S) : Type 0 where
  pub same_meaning : meaning t ≡ meaning s
  pub same_model : model t ≡ model s
