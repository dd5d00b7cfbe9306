-- What a query's numbers mean, and what a boundary means.
use Rattle.std.specs.Prelude.{Bool, ◌&&◌}
use Rattle.gamut.specs.declared.chroma.ChromaValues.{ChromaValues}
use Rattle.gamut.specs.declared.direction.Direction.{Direction}
use Rattle.gamut.specs.Maps.{map_direction}
use Rattle.number.specs.Meaning.{Meaning}
use Rattle.number.specs.Ops.{Ops}
use Rattle.boundary.specs.declared.query.Query.{Query}

-- What a boundary means: the three numbers of each query, by what the query's numbers mean.
abbrev pub Gamut : Type 0
Gamut = Query Meaning → ChromaValues Meaning

module _ {N M : Type 0} (f : N → M) where
  abbrev pub map_query : Query N → Query M
  map_query q = record { lightness = f q.lightness; hue = map_direction f q.hue }

module _ {N : Type 0} (o : Ops N) where
  -- Whether the numbers of two directions, or of two queries, mean the same, by the kind's own test.
  abbrev pub same_direction : Direction N → Direction N → Bool
  same_direction d e = o.same d.a e.a && o.same d.b e.b

  abbrev pub same_query : Query N → Query N → Bool
  same_query p q = o.same p.lightness q.lightness && same_direction p.hue q.hue
