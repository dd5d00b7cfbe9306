-- What each fault tells: its number, its word, and the values that it holds.
use Rattle.std.specs.Prelude.{ℕ, List, [], ◌∷◌, ◌++◌, Some, None, Ok, Err, codes, decimal, Option, Result, slice_index_or}
use Rattle.fault.specs.declared.faults.NumberFault.{NumberFault}
use Rattle.fault.specs.declared.faults.NumberFault.TheVariants.{Range, Direction, Boundary, Lost}
use Rattle.fault.specs.declared.faults.TurnFault.{TurnFault}
use Rattle.fault.specs.declared.faults.TurnFault.TheVariants.{Valve, Number}
use Rattle.fault.specs.declared.faults.Placed.{Placed}
use Rattle.fault.specs.declared.faults.RowFault.{RowFault}
use Rattle.fault.specs.declared.faults.RowFault.TheVariants.{Length, Entry}
use Rattle.fault.specs.declared.faults.BlockFault.{BlockFault}
use Rattle.fault.specs.declared.faults.BlockFault.TheVariants.{Row, Checksum, Layout}
use Rattle.fault.specs.declared.refusal.Refusal.{Refusal}

-- an entry's answer, whose fault gains the entry's index
abbrev pub placed : {T : Type 0} → ℕ → Result T TurnFault → Result T Placed
placed i (Ok x) = Ok x
placed i (Err f) = Err (record { index = i; fault = f })

-- a refusal that holds no index, and a trace or none
abbrev pub refusal : ℕ → Option (ℕ × ℕ) → Refusal
refusal n t = record { number = n; index = None; trace = t }

abbrev pub at_entry : ℕ → Refusal → Refusal
at_entry i r = record { number = r.number; index = Some i; trace = r.trace }

abbrev pub of_number : NumberFault → Refusal
of_number Range = refusal 5 None
of_number Direction = refusal 6 None
of_number (Boundary t) = refusal 7 t
of_number (Lost t) = refusal 8 t

abbrev pub of_turn : TurnFault → Refusal
of_turn Valve = refusal 4 None
of_turn (Number f) = of_number f

abbrev pub of_row : RowFault → Refusal
of_row Length = refusal 1 None
of_row (Entry p) = at_entry p.index (of_turn p.fault)

abbrev pub of_block : BlockFault → Refusal
of_block (Row f) = of_row f
of_block Checksum = refusal 2 None
of_block Layout = refusal 3 None

-- the words, from number 1 on
abbrev pub words : List (List ℕ)
words =
    codes "short pipe"
    ∷ codes "broken seal"
    ∷ codes "wrong plate"
    ∷ codes "strange valve"
    ∷ codes "off scale"
    ∷ codes "off dial"
    ∷ codes "no boundary"
    ∷ codes "lost number"
    ∷ []

abbrev pub word_of : ℕ → List ℕ
word_of n = slice_index_or ([] ∷ words) n []

-- how a refusal is written: `4 strange valve`
abbrev pub text_of : Refusal → List ℕ
text_of r = decimal r.number ++ (codes " " ++ word_of r.number)
