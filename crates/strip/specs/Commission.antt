-- A row that is drawn and read back.
use Rattle.std.specs.Prelude.{◌≡◌, List, map, Ok, Err, Result}
use Rattle.fault.specs.declared.faults.RowFault.{RowFault}
use Rattle.fault.specs.declared.faults.TurnFault.{TurnFault}
use Rattle.valve_log.specs.declared.reading.Reading.{Reading}
use Rattle.strip.specs.Fills.{Fills}
use Rattle.strip.specs.Trip.{own}
use Rattle.strip.specs.declared.indication.Indication.{Indication}

module _ {C : Type 0} (Draws : Reading → Result C TurnFault → Type 0) (Reads : C → Result Indication TurnFault → Type 0) where
  -- what follows a row that was drawn: it is read, or its refusal is the answer and nothing is read
  abbrev pub ReadAfter : Result (Unit {0}) RowFault → List C → List Indication → Result (Unit {0}) RowFault → List Indication → Type 0
  ReadAfter (Ok u) colors old r new = Fills Reads colors old r new
  ReadAfter (Err f) colors old r new = (r ≡ Err f) × (new ≡ old)

  -- The readings are drawn into the row of colours, and these are read into the row of indications.
  abbrev pub DrawnAndRead : List Reading → List C → List C → List Indication → Result (Unit {0}) RowFault → List Indication → Type 0
  DrawnAndRead readings before colors old r new =
      (drawn : Result (Unit {0}) RowFault) × Fills Draws readings before drawn colors × ReadAfter drawn colors old r new

-- Without a refusal each indication has its reading's opening and temperature, and its valve, or 0 where the opening is 0.
abbrev pub Home : List Reading → Result (Unit {0}) RowFault → List Indication → Type 0
Home readings (Ok u) indications = indications ≡ map own readings
Home readings (Err f) indications = Unit {0}
