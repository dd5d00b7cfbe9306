-- The worked cases of the library, in one table: what is computed, and what comes out.
use Rattle.std.specs.Prelude.{◌≡◌, ℕ, ◌-◌, List, [], ◌∷◌, replicate, pos, Ok, Err, codes, decimal, Result}
use Rattle.std.specs.List.{AllByRecursion}
use Rattle.number.specs.Meaning.{Meaning}
use Rattle.fraction.specs.Bound.{R}
use Rattle.fraction.specs.Bounded.{arithmetic, ratio}
use Rattle.fault.specs.Refusals.{of_block}
use Rattle.fault.specs.declared.faults.TurnFault.{TurnFault}
use Rattle.fault.specs.declared.faults.BlockFault.{BlockFault}
use Rattle.gamut.specs.Toe.{toe, toe_inv}
use Rattle.gamut.specs.declared.oklab.Oklab.{Oklab}
use Rattle.boundary.specs.Rule.{untold}
use Rattle.oklab.specs.Steps.{run}
use Rattle.strip.specs.Strip.{read_steps}
use Rattle.strip.specs.declared.indication.Indication.{Indication}
use Rattle.valve_log.specs.Layout.{read_answer}
use Rattle.valve_log.specs.declared.block.Head.{Head}
use Rattle.listing.specs.Listing.{listed, drawn, number_text, line_of}

-- the valve that an answer of the page names
abbrev pub valve_in : Result Indication TurnFault → List ℕ
valve_in (Ok i) = decimal i.valve
valve_in (Err f) = codes "refused"

-- the valve that the page reads off what the panel drew
abbrev pub valve_read_back : Result (Oklab Meaning) TurnFault → List ℕ
valve_read_back (Ok c) = valve_in (run listed (read_steps arithmetic untold c))
valve_read_back (Err f) = codes "refused"

abbrev pub refusal_in : Result Head BlockFault → List ℕ
refusal_in (Ok h) = codes "accepted"
refusal_in (Err f) = decimal (of_block f).number

abbrev pub cases : List (List ℕ × List ℕ)
cases =
    (number_text (toe_inv arithmetic (ratio (pos 1) 2)), codes "36359/63918")
    ∷ (number_text (toe arithmetic (ratio (pos 36359) 63918)), codes "1/2")
    ∷ (line_of 7 0 (record { minute = 0; valve = 1; temperature = 50; opening = 400 }), codes "7 0 1 36359/63918 27559/887750 55118/1331625\n")
    ∷ (number_text (arithmetic.cbrt (ratio (pos 8) 27)), codes "2/3")
    ∷ (number_text (arithmetic.sqrt (ratio (pos 2) 1)), codes "lost")
    ∷ (number_text (arithmetic.add (ratio (pos R) 1) (ratio (pos 1) 1)), codes "lost")
    ∷ (number_text (arithmetic.add (ratio (pos (R - 1)) 1) (ratio (pos 1) 1)), codes "4611686018427387903/1")
    ∷ (valve_read_back (drawn (record { minute = 0; valve = 1; temperature = 50; opening = 0 })), codes "0")
    ∷ (refusal_in (read_answer (replicate 512 0) 62), codes "2")
    ∷ []

abbrev pub CasesHold : Type 0
CasesHold = AllByRecursion (λ c. c.0 ≡ c.1) cases
