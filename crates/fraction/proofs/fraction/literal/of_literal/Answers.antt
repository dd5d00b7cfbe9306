use Rattle.std.proofs.Common.{sym, ◌∙◌}
use Rattle.number.specs.Decimals.{decimal}
use Rattle.number.specs.Exactness.{decimal_value}
use Rattle.fraction.proofs.Tables.{table_lost, entry}
use Rattle.fraction.proofs.fraction.literal.of_literal.Goals as goal

pub returns-in_default : goal.returns-in_default
returns-in_default c = c.lost.ensures ∙ sym (table_lost (decimal_value (decimal c.args.l)) (sym c.lowest_terms_of.ensures ∙ c.in_default.is))

pub invariant_of-bounded : goal.invariant_of-bounded
invariant_of-bounded c =
    let e = entry (decimal_value (decimal c.args.l)) _ _ _ (sym c.lowest_terms_of.ensures ∙ c.in-Some.is) c.unsigned_abs.ensures.value in
    record { positive = e.positive; lowest = e.lowest }

pub returns : goal.returns
returns c =
    let x = decimal_value (decimal c.args.l) in
    c.bounded.ensures x (entry x _ _ _ (sym c.lowest_terms_of.ensures ∙ c.in-Some.is) c.unsigned_abs.ensures.value).parts
