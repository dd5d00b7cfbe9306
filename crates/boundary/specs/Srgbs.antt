-- The gamut of sRGB as a base.
use Rattle.gamut.specs.declared.chroma.ChromaValues.{ChromaValues}
use Rattle.number.specs.Meaning.{Meaning}
use Rattle.number.specs.Ops.{Ops}
use Rattle.srgb_gamut.specs.Chroma.{chroma_values}
use Rattle.boundary.specs.Model.{Model, of_base}
use Rattle.boundary.specs.Query.{Gamut}
use Rattle.boundary.specs.declared.query.Query.{Query}
use Rattle.boundary.specs.declared.srgb.Srgb.{Srgb}

-- palette's chroma values of the query's lightness and direction
abbrev pub srgb_at : {N : Type 0} → Ops N → Query N → ChromaValues N
srgb_at o q = chroma_values o q.lightness q.hue

abbrev pub srgb_meaning : Ops Meaning → Srgb → Gamut
srgb_meaning arith x = srgb_at arith

abbrev pub srgb_model : Ops Meaning → Srgb → Model
srgb_model arith x = of_base (srgb_at arith)
