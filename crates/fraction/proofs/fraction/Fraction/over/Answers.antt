use Rattle.std.proofs.Common.{ap, ◌∙◌}
use Rattle.number.specs.Meaning.{lost}
use Rattle.fraction.specs.Bounded.{product, two}
use Rattle.fraction.specs.Fractions.{meaning_of}
use Rattle.fraction.proofs.Values.{quotient_is}
use Rattle.fraction.proofs.fraction.Fraction.over.Goals as goal

pub returns : goal.returns
returns c = c.times.ensures ∙ ap (two lost product (meaning_of c.args.self)) c.reciprocal.ensures ∙ quotient_is (meaning_of c.args.self) (meaning_of c.args.other)
