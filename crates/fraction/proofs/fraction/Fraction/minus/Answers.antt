use Rattle.std.proofs.Common.{ap, ◌∙◌}
use Rattle.number.specs.Meaning.{lost}
use Rattle.fraction.specs.Bounded.{sum, two}
use Rattle.fraction.specs.Fractions.{meaning_of}
use Rattle.fraction.proofs.Values.{difference_is}
use Rattle.fraction.proofs.fraction.Fraction.minus.Goals as goal

pub returns : goal.returns
returns c = c.plus.ensures ∙ ap (two lost sum (meaning_of c.args.self)) c.negated.ensures ∙ difference_is (meaning_of c.args.self) (meaning_of c.args.other)
