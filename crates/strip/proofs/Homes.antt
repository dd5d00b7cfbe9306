-- Two calls, the second on the row that the first wrote: without a refusal the indications are the readings' own.
use Rattle.std.proofs.Common.{◌≡◌, List, Ok, Err, Result, sym, ap, ◌∙◌}
use Rattle.fault.specs.declared.faults.RowFault.{RowFault}
use Rattle.gamut.specs.declared.oklab.Oklab.{Oklab}
use Rattle.number.specs.Meaning.{Meaning}
use Rattle.number.specs.Ops.{Ops}
use Rattle.boundary.specs.Query.{Gamut}
use Rattle.boundary.specs.declared.query.Query.{Query}
use Rattle.valve_log.specs.declared.reading.Reading.{Reading}
use Rattle.strip.specs.Alike.{ending}
use Rattle.strip.specs.Commission.{Home}
use Rattle.strip.specs.Rows.{Row}
use Rattle.strip.specs.Trip.{drawn_row, read_row, RowsComeHome}
use Rattle.strip.specs.declared.indication.Indication.{Indication}

pub home_by : (o : Ops Meaning) → RowsComeHome o → (g g' : Gamut) → ((q : Query Meaning) → g q ≡ g' q)
    → (rs : List Reading) (cs ds : List (Oklab Meaning)) (is js : List Indication) (r : Result (Unit {0}) RowFault)
    → drawn_row o g rs cs ≡ record { ends = Ok tt; entries = ds } → read_row o g' ds is ≡ record { ends = ending r; entries = js } → Home rs r js
home_by o home g g' same rs cs ds is js (Err f) drawn read = tt
home_by o home g g' same rs cs ds is js (Ok u) drawn read =
    let back = ap (λ (w : Row (Oklab Meaning)). read_row o g' w.entries is) drawn ∙ read in
    sym (ap (λ (w : Row Indication). w.entries) back)
    ∙ (home g g' same rs cs is).all (ap (λ (w : Row (Oklab Meaning)). w.ends) drawn) (ap (λ (w : Row Indication). w.ends) back)
