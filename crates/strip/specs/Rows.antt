-- A row that is written entry by entry from another, up to the first refusal.
use Rattle.std.specs.Prelude.{ℕ, suc, cond, List, [], ◌∷◌, length, Ok, Err, Result, ◌==◌}
use Rattle.fault.specs.declared.faults.RowFault.{RowFault}
use Rattle.fault.specs.declared.faults.RowFault.TheVariants.{Length, Entry}
use Rattle.fault.specs.declared.faults.TurnFault.{TurnFault}

-- How a call on rows ends, and what it leaves in the row that it writes.
pub record Row (C : Type 0) : Type 0 where
  pub ends : Result (Unit {0}) RowFault
  pub entries : List C

-- The entry i, which held c, by its answer: a refusal ends the call, and the entries from c on stay as they were.
abbrev pub next : {C : Type 0} → ℕ → C → List C → Result C TurnFault → Row C → Row C
next i c cs (Ok d) rest = record { ends = rest.ends; entries = d ∷ rest.entries }
next i c cs (Err f) rest = record { ends = Err (Entry (record { index = i; fault = f })); entries = c ∷ cs }

module _ {R C : Type 0} (f : R → Result C TurnFault) where
  -- entry by entry; the indices count from i
  abbrev pub filled : ℕ → List R → List C → Row C
  filled i [] cs = record { ends = Ok tt; entries = cs }
  filled i (r ∷ rs) [] = record { ends = Ok tt; entries = [] }
  filled i (r ∷ rs) (c ∷ cs) = next i c cs (f r) (filled (suc i) rs cs)

  -- What becomes of a row cs that is written from a row rs: rows of different length are refused with 1.
  abbrev pub row : List R → List C → Row C
  row rs cs = cond (length rs == length cs) (filled 0 rs cs) (record { ends = Err Length; entries = cs })
