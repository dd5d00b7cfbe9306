-- The curve's chroma over what numbers mean: where not lost, it is that of exact fractions.
use Rattle.std.specs.Prelude.{◌≡◌, Ok}
use Rattle.rational.specs.Curve.{curve, Accepted}
use Rattle.rational.specs.Rational.{Rational, exact}
use Rattle.number.specs.Meaning.{Meaning, fraction, OrLost}
use Rattle.number.specs.Ops.{Ops}
use Rattle.gamut.specs.Curve.{three, chroma}
use Rattle.gamut.specs.Maps.{map_values}
use Rattle.gamut.specs.declared.chroma.ChromaValues.{ChromaValues}
use Rattle.boundary.specs.Query.{Gamut}
use Rattle.boundary.specs.declared.query.Query.{Query}
use Rattle.boundary.specs.Model.{answered}

-- The three numbers v are fractions with 0 < zero and 0 < mid < max; and the chroma of a saturation that means s, where not lost, means
-- that of the exact curve at s.
pub record OnExactCurve (o : Ops Meaning) (v : ChromaValues Meaning) : Type 0 where
  pub values : ChromaValues Rational
  pub are : v ≡ map_values fraction values
  pub accepted : Accepted exact (three values)
  pub chroma_means : (m : Meaning) (s : Rational) → OrLost m s → OrLost (chroma o v m) (curve exact (three values) s)

-- whatever the boundary, and whichever query it answers
abbrev pub CurveMeant : Ops Meaning → Type 0
CurveMeant o = (g : Gamut) (q : Query Meaning) (v : ChromaValues Meaning) → answered o g q ≡ Ok v → OnExactCurve o v
