-- What a memo keeps: the last accepted query with its answer.
use Rattle.std.specs.Prelude.{◌≡◌, cond, IfSome, Some, None, Ok, Err, Option, Result}
use Rattle.fault.specs.declared.faults.NumberFault.{NumberFault}
use Rattle.gamut.specs.declared.chroma.ChromaValues.{ChromaValues}
use Rattle.gamut.specs.Maps.{map_values}
use Rattle.number.specs.Meaning.{Meaning}
use Rattle.number.specs.Ops.{Ops}
use Rattle.boundary.specs.Query.{Gamut, map_query, same_query}
use Rattle.boundary.specs.declared.memo.Kept.{Kept}
use Rattle.boundary.specs.declared.query.Query.{Query}

-- What clauses see of a memo: the boundary below, and what is kept.
pub record MemoView (N B : Type 0) : Type 0 where
  pub below : B
  pub kept : Option (Kept N)

-- What is kept after a query: an accepted one with its answer, else what was kept before.
abbrev pub after : {N : Type 0} → Option (Kept N) → Query N → Result (ChromaValues N) NumberFault → Option (Kept N)
after old q (Ok v) = Some (record { query = q; answer = v })
after old q (Err e) = old

-- The answer that is kept for a query, by the kind's own test of what means the same.
abbrev pub recalled_from : {N : Type 0} → Ops N → Option (Kept N) → Query N → Option (ChromaValues N)
recalled_from o None q = None
recalled_from o (Some k) q = cond (same_query o k.query q) (Some k.answer) None

module _ {N : Type 0} (means : N → Meaning) where
  -- The kept query is this one: lightness and both numbers of the direction mean the same.
  abbrev pub IsKept : Kept N → Query N → Type 0
  IsKept k q = map_query means k.query ≡ map_query means q

  -- What is kept, if anything, is what the boundary below means.
  abbrev pub KeptRight : Gamut → Option (Kept N) → Type 0
  KeptRight below kept = IfSome kept (λ k. map_values means k.answer ≡ below (map_query means k.query))
