use Rattle.std.proofs.Common.{◌≡◌, get_or, None, refl}
use denote.Enum.Declared.{tag_of}
use Rattle.rational.specs.Rational.{computes}
use Rattle.number.specs.Decimals.{decimal}
use Rattle.number.specs.contracts.literal.Literal.{the_type}
use Rattle.number.specs.declared.literal.Literal.TheVariants.{Half}
use Rattle.fraction.specs.Tables.{lowest_terms_of}
use Rattle.fraction.specs.declared.fraction.literal.TheConstants.{LOWEST_TERMS}
use Rattle.fraction.proofs.fraction.literal.lowest_terms_of.Goals as goal

pub returns : goal.returns
unfolding computes
returns c =
    elim c.args.l as (λ l. get_or LOWEST_TERMS (tag_of the_type l) None ≡ lowest_terms_of (decimal l)) [ Half ↦ refl | _ ↦ refl ]
