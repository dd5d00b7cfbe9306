-- What a row function leaves, by the answers that its entries had.
use Rattle.std.specs.Prelude.{◌≡◌, List, [], ◌∷◌, length, take, drop, Ok, Err, Result}
use Rattle.fault.specs.declared.faults.RowFault.{RowFault}
use Rattle.fault.specs.declared.faults.RowFault.TheVariants.{Length, Entry}
use Rattle.fault.specs.declared.faults.TurnFault.{TurnFault}
use Rattle.number.specs.Meaning.{Meaning}
use Rattle.boundary.specs.Query.{Gamut}
use Rattle.oklab.specs.Steps.{Steps, Follows}

-- a is an answer for the entry x over a boundary that means g
abbrev pub Answering : {N R C : Type 0} → (N → Meaning) → Gamut → (R → Steps N (Result C TurnFault)) → R → Result C TurnFault → Type 0
Answering means g steps x a = Follows means g (steps x) a

-- F holds of the entries of two rows, pair by pair.
abbrev pub Each : {R C : Type 0} → (R → C → Type 0) → List R → List C → Type 0
Each F [] [] = Unit {0}
Each F [] (d ∷ ds) = ⊥
Each F (x ∷ xs) [] = ⊥
Each F (x ∷ xs) (d ∷ ds) = F x d × Each F xs ds

module _ {R C : Type 0} (Answers : R → Result C TurnFault → Type 0) where
  -- every entry of ds is what was answered for its own of xs
  abbrev pub Written : List R → List C → Type 0
  Written xs ds = Each (λ x d. Answers x (Ok d)) xs ds

  -- the first of the entries was refused
  abbrev pub Refuses : TurnFault → List R → Type 0
  Refuses f [] = ⊥
  Refuses f (x ∷ xs) = Answers x (Err f)

  -- A row is read and one written, which was old and is new: without a refusal every entry is written; a refusal at an
  -- index leaves those before it written and the others as they were; rows of different length are refused and left.
  abbrev pub Fills : List R → List C → Result (Unit {0}) RowFault → List C → Type 0
  Fills xs old (Ok u) new = (length xs ≡ length old) × Written xs new
  Fills xs old (Err Length) new = ¬ (length xs ≡ length old) × (new ≡ old)
  Fills xs old (Err (Entry p)) new =
      (length xs ≡ length old)
      × Written (take p.index xs) (take p.index new)
      × Refuses p.fault (drop p.index xs)
      × (drop p.index new ≡ drop p.index old)

-- What a refusal leaves as it was: the entries from the refused one on, or all of them.
abbrev pub Untouched : {C : Type 0} → Result (Unit {0}) RowFault → List C → List C → Type 0
Untouched (Ok u) old new = Unit {0}
Untouched (Err Length) old new = new ≡ old
Untouched (Err (Entry p)) old new = drop p.index new ≡ drop p.index old
