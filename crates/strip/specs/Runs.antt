-- Calls on a stack: what each leaves, and what the plain model makes of it.
use Rattle.std.specs.Prelude.{◌≡◌, ℕ, List, [], ◌∷◌, map, vec_items, Option, Result}
use Rattle.fault.specs.declared.faults.NumberFault.{NumberFault}
use Rattle.gamut.specs.declared.chroma.ChromaValues.{ChromaValues}
use Rattle.gamut.specs.declared.oklab.Oklab.{Oklab}
use Rattle.number.specs.Meaning.{Meaning}
use Rattle.number.specs.Ops.{Ops}
use Rattle.boundary.specs.Model.{answered}
use Rattle.boundary.specs.Query.{Gamut, map_query}
use Rattle.boundary.specs.Rule.{meant, untold}
use Rattle.boundary.specs.declared.query.Query.{Query}
use Rattle.oklab.specs.Steps.{run, Follows}
use Rattle.valve_log.specs.declared.reading.Reading.{Reading}
use Rattle.strip.specs.Alike.{ending}
use Rattle.strip.specs.Entries.{seen, draw_entry, read_entry, ask_query}
use Rattle.strip.specs.Fills.{Answering, Fills}
use Rattle.strip.specs.Rows.{Row, row}
use Rattle.strip.specs.Strip.{draw_steps, read_steps}
use Rattle.strip.specs.declared.indication.Indication.{Indication}
use Rattle.strip.specs.declared.run.Call.{Call}
use Rattle.strip.specs.declared.run.Call.TheVariants.{Draw, Read, Ask, Forget}
use Rattle.strip.specs.declared.run.AskCall.{AskCall}
use Rattle.strip.specs.declared.run.DrawCall.{DrawCall}
use Rattle.strip.specs.declared.run.ReadCall.{ReadCall}
use Rattle.gamut.specs.Maps.{map_values}

-- What a call leaves over a boundary that means g: its query or the row that it reads, and the answers.
module _ {N P : Type 0} (means : N → Meaning) (o : Ops N) (traced : N → Option (ℕ × ℕ)) (plain : N → P) (back : P → N) (g : Gamut) where
  abbrev pub Made : Call P → Call P → Type 0
  Made (Draw c) new =
      (d : DrawCall P) × (new ≡ Draw d) × (vec_items d.readings ≡ vec_items c.readings)
      × Fills (Answering means g (draw_entry o traced plain)) (vec_items c.readings) (vec_items c.colors) d.end (vec_items d.colors)
  Made (Read c) new =
      (d : ReadCall P) × (new ≡ Read d) × (vec_items d.colors ≡ vec_items c.colors)
      × Fills (Answering means g (read_entry o traced back)) (vec_items c.colors) (vec_items c.indications) d.end (vec_items d.indications)
  Made (Ask c) new =
      (d : AskCall P) × (new ≡ Ask d) × (d.query ≡ c.query) × Follows means g (ask_query o traced plain back c.query) d.answer
  Made Forget new = new ≡ Forget

-- The last of the calls is a forget.
abbrev pub EndsForgetting : {P : Type 0} → List (Call P) → Type 0
EndsForgetting [] = ⊥
EndsForgetting (Draw c ∷ []) = ⊥
EndsForgetting (Read c ∷ []) = ⊥
EndsForgetting (Ask c ∷ []) = ⊥
EndsForgetting (Forget ∷ []) = Unit {0}
EndsForgetting (c ∷ d ∷ cs) = EndsForgetting (d ∷ cs)

-- A call by what its numbers mean: the row that it reads, how it ended, and the row that it writes; or a query and its answer.
pub data Shown : Type 0 where
  draws : List Reading → Row (Oklab Meaning) → Shown
  reads : List (Oklab Meaning) → Row Indication → Shown
  queries : Query Meaning → Result (ChromaValues Meaning) NumberFault → Shown
  forgets : Shown

module _ {N P : Type 0} (means : N → Meaning) (back : P → N) where
  abbrev pub shown : Call P → Shown
  shown (Draw c) = draws (vec_items c.readings) (record { ends = ending c.end; entries = map (seen means back) (vec_items c.colors) })
  shown (Read c) = reads (map (seen means back) (vec_items c.colors)) (record { ends = ending c.end; entries = vec_items c.indications })
  shown (Ask c) = queries (map_query (λ p. means (back p)) c.query) (meant (map_values (λ p. means (back p))) c.answer)
  shown Forget = forgets

module _ (o : Ops Meaning) (g : Gamut) where
  -- What becomes of a call where the three numbers of each query are those of g, for good: nothing is kept, so a
  -- forget does nothing.
  abbrev pub plainly : Shown → Shown
  plainly (draws rs w) = draws rs (row (λ r. run g (draw_steps o untold r)) rs w.entries)
  plainly (reads cs w) = reads cs (row (λ c. run g (read_steps o untold c)) cs w.entries)
  plainly (queries q r) = queries q (answered o g q)
  plainly forgets = forgets

-- Each call ends, and leaves its rows, as with the plain model that means g.
abbrev pub AsModelled : {N P : Type 0} → (N → Meaning) → (P → N) → Ops Meaning → Gamut → List (Call P) → List (Call P) → Type 0
AsModelled means back o g old new = map (shown means back) new ≡ map (plainly o g) (map (shown means back) old)
