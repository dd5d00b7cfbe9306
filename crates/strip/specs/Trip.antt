-- The return trip: what the page reads off a colour that the panel drew is the reading's own; and the same of rows.
use Rattle.std.specs.Prelude.{◌≡◌, ℕ, ◌≤◌, cond, List, map, take, Ok, Err, Result, ◌==◌}
use Rattle.fault.specs.declared.faults.RowFault.{RowFault}
use Rattle.fault.specs.declared.faults.RowFault.TheVariants.{Length, Entry}
use Rattle.number.specs.Exactness.{Exactness}
use Rattle.number.specs.Meaning.{Meaning}
use Rattle.number.specs.Ops.{Ops}
use Rattle.gamut.specs.declared.oklab.Oklab.{Oklab}
use Rattle.boundary.specs.Query.{Gamut}
use Rattle.boundary.specs.declared.query.Query.{Query}
use Rattle.boundary.specs.Rule.{untold}
use Rattle.oklab.specs.Steps.{run}
use Rattle.valve_log.specs.declared.reading.Reading.{Reading}
use Rattle.strip.specs.Rows.{Row, row}
use Rattle.strip.specs.Strip.{draw_steps, read_steps}
use Rattle.strip.specs.declared.indication.Indication.{Indication}

-- opening and temperature, and the valve, or 0 where the opening is 0
abbrev pub own : Reading → Indication
own r = record { valve = cond (r.opening == 0) 0 r.valve; temperature = r.temperature; opening = r.opening }

-- ---- a reading

-- Whatever the three numbers of each query: if the panel draws r as c, and the page reads c as i, then i is r's own.
abbrev pub ComesHome : Ops Meaning → Type 0
ComesHome o = (g : Gamut) (r : Reading) (c : Oklab Meaning) (i : Indication)
    → run g (draw_steps o untold r) ≡ Ok c → run g (read_steps o untold c) ≡ Ok i → i ≡ own r

abbrev pub ReturnTrip : Type 0
ReturnTrip = (o : Ops Meaning) → Exactness o → ComesHome o

-- ---- a row

module _ (o : Ops Meaning) (g : Gamut) where
  -- what the panel draws into a row of colours, and what the page reads into a row of indications
  abbrev pub drawn_row : List Reading → List (Oklab Meaning) → Row (Oklab Meaning)
  drawn_row = row (λ r. run g (draw_steps o untold r))

  abbrev pub read_row : List (Oklab Meaning) → List Indication → Row Indication
  read_row = row (λ c. run g (read_steps o untold c))

-- the first n entries were written before the call ended
abbrev pub Wrote : Result (Unit {0}) RowFault → ℕ → Type 0
Wrote (Ok u) n = Unit {0}
Wrote (Err Length) n = n ≡ 0
Wrote (Err (Entry p)) n = n ≤ p.index

-- Where neither call is refused, the indications are the readings' own; in any case those are that both calls wrote.
pub record OwnRow (rs : List Reading) (drawn : Row (Oklab Meaning)) (read : Row Indication) : Type 0 where
  pub all : drawn.ends ≡ Ok tt → read.ends ≡ Ok tt → read.entries ≡ map own rs
  pub first : (n : ℕ) → Wrote drawn.ends n → Wrote read.ends n → take n read.entries ≡ map own (take n rs)

-- Whatever the three numbers of each query, as long as the panel and the page have the same: the panel draws the readings rs into the
-- row cs, and the page reads the colours that it leaves there into the row is.
abbrev pub RowsComeHome : Ops Meaning → Type 0
RowsComeHome o = (g g' : Gamut) → ((q : Query Meaning) → g q ≡ g' q) → (rs : List Reading) (cs : List (Oklab Meaning)) (is : List Indication)
    → OwnRow rs (drawn_row o g rs cs) (read_row o g' (drawn_row o g rs cs).entries is)
