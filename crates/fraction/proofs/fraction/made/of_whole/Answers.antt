use Rattle.std.proofs.Common.{ap, ◌∙◌, w64}
use Rattle.std.proofs.lemmas.Int.{to_z-of_z}
use Rattle.number.specs.Meaning.{lost}
use Rattle.fraction.specs.Bounded.{one, constant, ratio}
use Rattle.fraction.proofs.Values.{whole-ratio}
use Rattle.fraction.proofs.fraction.made.of_whole.Goals as goal

pub returns : goal.returns
returns c = c.new.ensures ∙ ap (λ n. one lost constant (ratio n 1)) (to_z-of_z w64 _ c.ranges.n) ∙ whole-ratio c.args.n
