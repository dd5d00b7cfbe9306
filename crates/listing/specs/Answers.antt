-- The text of an answer as the program holds it: colours in plain form, refusals of a row.
use Rattle.std.specs.Prelude.{ℕ, List, ◌++◌, Ok, Err, codes, decimal, Result}
use Rattle.fault.specs.Refusals.{of_row}
use Rattle.fault.specs.declared.faults.RowFault.{RowFault}
use Rattle.fraction.specs.Fractions.{of_plain}
use Rattle.fraction.specs.Shown.{written}
use Rattle.fraction.specs.declared.fraction.PlainFraction.{PlainFraction}
use Rattle.gamut.specs.declared.oklab.Oklab.{Oklab}

abbrev pub plain_text : Oklab PlainFraction → List ℕ
plain_text c =
    written (of_plain c.l) ++ (codes " " ++ (written (of_plain c.a) ++ (codes " " ++ (written (of_plain c.b) ++ codes "\n"))))

abbrev pub row_text : Result (Oklab PlainFraction) RowFault → List ℕ
row_text (Ok c) = plain_text c
row_text (Err f) = codes "refused " ++ (decimal (of_row f).number ++ codes "\n")
