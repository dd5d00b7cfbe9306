-- What a number means: a fraction of whole numbers of any size, in lowest terms by its type; or lost; or, for a kind that is not exact, a float.
-- Floats have one not-a-number and two zeros, so two floats are equal here when their bits are, all not-a-numbers alike.
use Rattle.std.specs.Prelude.{◌≡◌, ◌⊎◌, Float}
use Rattle.rational.specs.Rational.{Rational}

pub data Meaning : Type 0 where
  lost : Meaning
  fraction : Rational → Meaning
  float : Float → Meaning

-- m is lost or the fraction x
abbrev pub OrLost : Meaning → Rational → Type 0
OrLost m x = (m ≡ lost) ⊎ (m ≡ fraction x)

-- what a value of an exact kind may mean
abbrev pub LostOrFraction : Meaning → Type 0
LostOrFraction lost = Unit {0}
LostOrFraction (fraction x) = Unit {0}
LostOrFraction (float x) = ⊥
