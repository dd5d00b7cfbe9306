use Rattle.std.proofs.Common.{refl}
use lib.Ieee.{size}
use Rattle.std.specs.Fmt.{digits}
use Rattle.rational.specs.Rational.{computes}
use Rattle.rational.specs.Nearest.{nearest}
use Rattle.roots.specs.Digits.{root_below}
use Rattle.fraction.specs.Bounded.{sum_fits, product_fits, is_power}
use Rattle.oklab.specs.Okhsl.{oklab_steps, okhsl_steps}
use Rattle.valve_log.specs.Layout.{block_answer}
use Rattle.listing.specs.Listing.{drawn}
use Rattle.listing.proofs.cases_hold.Goals as goal

pub returns : goal.returns
unfolding digits size root_below computes nearest sum_fits product_fits is_power oklab_steps okhsl_steps block_answer drawn
returns c = (refl, (refl, (refl, (refl, (refl, (refl, (refl, (refl, (refl, tt)))))))))
