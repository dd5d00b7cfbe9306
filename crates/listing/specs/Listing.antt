-- The listing: a line for each reading of a block, or one line for a block that is refused.
use Rattle.std.specs.Prelude.{ℕ, ◌+◌, List, [], ◌∷◌, ◌++◌, pos, Ok, Err, codes, decimal, Result}
use Rattle.std.specs.Fmt.{signed_decimal}
use Rattle.rational.specs.Rational.{num, den}
use Rattle.number.specs.Meaning.{Meaning, lost, fraction, float}
use Rattle.fraction.specs.Bounded.{arithmetic, ratio}
use Rattle.fault.specs.Refusals.{of_turn, of_block}
use Rattle.fault.specs.declared.faults.TurnFault.{TurnFault}
use Rattle.fault.specs.declared.faults.BlockFault.{BlockFault}
use Rattle.gamut.specs.declared.oklab.Oklab.{Oklab}
use Rattle.boundary.specs.Query.{Gamut}
use Rattle.boundary.specs.Rule.{untold}
use Rattle.boundary.specs.Triangles.{triangle}
use Rattle.oklab.specs.Steps.{run}
use Rattle.strip.specs.Strip.{draw_steps}
use Rattle.valve_log.specs.Layout.{read_answer, row_in}
use Rattle.valve_log.specs.declared.block.Head.{Head}
use Rattle.valve_log.specs.declared.reading.Reading.{Reading}

-- The boundary of the listing: a triangle with both slopes 1/2.
abbrev pub listed : Gamut
listed = triangle arithmetic (ratio (pos 1) 2) (ratio (pos 1) 2)

-- the colour of a reading over fractions
unfoldable pub drawn : Reading → Result (Oklab Meaning) TurnFault
drawn r = run listed (draw_steps arithmetic untold r)

-- n/d; no number of a colour that is not refused is lost
abbrev pub number_text : Meaning → List ℕ
number_text lost = codes "lost"
number_text (fraction x) = signed_decimal (num x) ++ (codes "/" ++ decimal (den x))
number_text (float x) = codes "lost"

-- how a line ends: l, a and b, or the number of the refusal
abbrev pub color_text : Result (Oklab Meaning) TurnFault → List ℕ
color_text (Ok c) = number_text c.l ++ (codes " " ++ (number_text c.a ++ (codes " " ++ (number_text c.b ++ codes "\n"))))
color_text (Err f) = codes "refused " ++ (decimal (of_turn f).number ++ codes "\n")

-- how a line starts: block number, index, valve
abbrev pub start_of : ℕ → ℕ → ℕ → List ℕ
start_of number i valve = decimal number ++ (codes " " ++ (decimal i ++ (codes " " ++ (decimal valve ++ codes " "))))

abbrev pub line_of : ℕ → ℕ → Reading → List ℕ
line_of number i r = start_of number i r.valve ++ color_text (drawn r)

-- the lines of a row, whose indices count from i
abbrev pub lines_of : ℕ → ℕ → List Reading → List ℕ
lines_of number i [] = []
lines_of number i (r ∷ rs) = line_of number i r ++ lines_of number (i + 1) rs

-- the line of a refused block: the refusal's number, and how many blocks came before it
abbrev pub refusal_of : BlockFault → ℕ → List ℕ
refusal_of f place = codes "refused " ++ (decimal (of_block f).number ++ (codes " at " ++ (decimal place ++ codes "\n")))

-- what reading a block answered, with the block's readings
abbrev pub answer_text : ℕ → Result Head BlockFault → List Reading → List ℕ
answer_text place (Ok h) rs = lines_of h.number 0 rs
answer_text place (Err f) rs = refusal_of f place

-- What is listed for these bytes.
abbrev pub block_text : ℕ → List ℕ → List ℕ
block_text place bs = answer_text place (read_answer bs 62) (row_in bs)
