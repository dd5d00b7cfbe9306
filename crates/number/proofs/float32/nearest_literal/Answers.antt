use Rattle.std.proofs.Common.{◌≡◌, get_or, refl}
use lib.Ieee.{of_bits, round, nan}
use denote.Enum.Declared.{tag_of}
use Rattle.std.specs.Float.{round_to_format}
use Rattle.number.specs.declared.literal.Literal.TheVariants.{Half}
use Rattle.number.specs.contracts.literal.Literal.{the_type}
use Rattle.number.specs.Decimals.{decimal}
use Rattle.number.specs.Floats.{nearest_decimal}
use Rattle.number.specs.declared.float32.TheConstants.{NEAREST}
use Rattle.number.proofs.float32.nearest_literal.Goals as goal

pub returns : goal.returns
unfolding of_bits round round_to_format
returns c =
    elim c.args.l as (λ l. get_or NEAREST (tag_of the_type l) nan ≡ nearest_decimal (decimal l)) [ Half ↦ refl | _ ↦ refl ]
