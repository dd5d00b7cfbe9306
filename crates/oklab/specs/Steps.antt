-- A conversion over a boundary: it ends without a query, or asks one query and goes on from its three numbers.
use Rattle.std.specs.Prelude.{◌≡◌, Ok, Err, Result}
use Rattle.gamut.specs.declared.chroma.ChromaValues.{ChromaValues}
use Rattle.number.specs.Meaning.{Meaning}
use Rattle.boundary.specs.Query.{Gamut, map_query}
use Rattle.boundary.specs.declared.query.Query.{Query}
use Rattle.gamut.specs.Maps.{map_values}

pub data Steps (N X : Type 0) : Type 0 where
  ends : X → Steps N X
  -- a query, and what is made of its three numbers
  asks : Query N → (ChromaValues N → X) → Steps N X

abbrev pub then_step : {N X Y : Type 0} → (X → Y) → Steps N X → Steps N Y
then_step f (ends x) = ends (f x)
then_step f (asks q next) = asks q (λ v. f (next v))

-- The answer where the three numbers of each query are those of g.
abbrev pub run : {X : Type 0} → Gamut → Steps Meaning X → X
run g (ends x) = x
run g (asks q next) = next (g q)

-- The answer over a boundary that means g: where it was asked, its three numbers are some of that meaning.
abbrev pub Follows : {N X : Type 0} → (N → Meaning) → Gamut → Steps N X → X → Type 0
Follows means g (ends x) r = r ≡ x
Follows {N} means g (asks q next) r = (v : ChromaValues N) × (map_values means v ≡ g (map_query means q)) × (r ≡ next v)

-- what is done with an answer; a refusal stays as it is
abbrev pub and_then : {A B E : Type 0} → Result A E → (A → Result B E) → Result B E
and_then (Ok x) f = f x
and_then (Err e) f = Err e
