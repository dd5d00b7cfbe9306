-- Answers by what their numbers mean, and refusals without the traces that they hold: two of these are alike when they are equal.
use Rattle.std.specs.Prelude.{Ok, Err, Result}
use Rattle.fault.specs.declared.faults.TurnFault.{TurnFault}
use Rattle.fault.specs.declared.faults.TurnFault.TheVariants.{Valve, Number}
use Rattle.fault.specs.declared.faults.RowFault.{RowFault}
use Rattle.fault.specs.declared.faults.RowFault.TheVariants.{Length, Entry}
use Rattle.boundary.specs.Rule.{untraced}

abbrev pub untraced_turn : TurnFault → TurnFault
untraced_turn Valve = Valve
untraced_turn (Number f) = Number (untraced f)

-- the answer for one entry
abbrev pub meant_turn : {A B : Type 0} → (A → B) → Result A TurnFault → Result B TurnFault
meant_turn f (Ok x) = Ok (f x)
meant_turn f (Err e) = Err (untraced_turn e)

abbrev pub untraced_row : RowFault → RowFault
untraced_row Length = Length
untraced_row (Entry p) = Entry (record { index = p.index; fault = untraced_turn p.fault })

-- how a call on rows ends: number and index of a refusal stay
abbrev pub ending : Result (Unit {0}) RowFault → Result (Unit {0}) RowFault
ending (Ok u) = Ok u
ending (Err f) = Err (untraced_row f)
