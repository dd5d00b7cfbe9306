-- What an answer means follows from what it is.
use Rattle.std.proofs.Common.{Ok, rules}
use Rattle.oklab.proofs.ConversionMeans.{word_of_means}
use Rattle.oklab.proofs.word.okhsl_word.Goals as goal

pub returns-in_err-refuse_unless-clause-meaning : goal.returns-in_err-refuse_unless-clause-meaning
returns-in_err-refuse_unless-clause-meaning g c = word_of_means g.met.N.Number.hom g.N.Number.traced c.args.color c.args.threshold c.from_residual.result (search rules)

pub returns-in_err-check_direction-clause-meaning : goal.returns-in_err-check_direction-clause-meaning
returns-in_err-check_direction-clause-meaning g c = word_of_means g.met.N.Number.hom g.N.Number.traced c.args.color c.args.threshold c.from_residual-in_err-check_direction.result (search rules)

pub returns-clause-meaning : goal.returns-clause-meaning
returns-clause-meaning g c = word_of_means g.met.N.Number.hom g.N.Number.traced c.args.color c.args.threshold (Ok c.word_within.result) (search rules)
