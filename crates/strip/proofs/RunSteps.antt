-- What a call leaves is what the plain model makes of it.
use Rattle.std.proofs.Common.{◌≡◌, ℕ, zero, suc, ◌+◌, ◌<◌, List, [], ◌∷◌, map, length, get_or, take, vec_items, Option, Result, sym, ap, ◌∙◌, ap₂, add-one, arith}
use Rattle.std.proofs.lemmas.List.{map-id}
use Rattle.fault.specs.declared.faults.TurnFault.{TurnFault}
use Rattle.gamut.specs.Maps.{map_oklab}
use Rattle.gamut.specs.declared.oklab.Oklab.{Oklab}
use Rattle.number.specs.Meaning.{Meaning}
use Rattle.number.specs.Ops.{Ops, Hom}
use Rattle.boundary.specs.Query.{Gamut, map_query}
use Rattle.boundary.specs.Rule.{untold}
use Rattle.oklab.specs.Steps.{run}
use Rattle.valve_log.specs.declared.reading.Reading.{Reading}
use Rattle.strip.specs.Alike.{ending}
use Rattle.strip.specs.Entries.{seen, draw_entry, read_entry}
use Rattle.strip.specs.Fills.{Answering}
use Rattle.strip.specs.Rows.{Row, row}
use Rattle.strip.specs.Runs.{Made, EndsForgetting, draws, reads, queries, shown, plainly}
use Rattle.strip.specs.Strip.{draw_steps, read_steps}
use Rattle.strip.specs.declared.indication.Indication.{Indication}
use Rattle.strip.specs.declared.run.Call.{Call}
use Rattle.strip.specs.declared.run.Call.TheVariants.{Draw, Read, Ask, Forget}
use Rattle.strip.proofs.FillSteps.{fills_row}
use Rattle.strip.specs.StripMeans.{draw_entry-carried, read_steps-carried, ask_query-carried}

module _ {N P : Type 0} {f : N → Meaning} {o : Ops N} {p : Ops Meaning} (h : Hom f o p) (traced : N → Option (ℕ × ℕ)) (plain : N → P) (back : P → N) (again : (x : N) → back (plain x) ≡ x) (g : Gamut) where
  pub made-shown : (c d : Call P) → Made f o traced plain back g c d → shown f back d ≡ plainly p g (shown f back c)
  made-shown (Draw c) new m =
      let d = m.0 in
      let k : Reading → Result (Oklab Meaning) TurnFault = λ r. run g (draw_steps p untold r) in
      ap (shown f back) m.1
      ∙ ap₂ draws m.2
      (sym (ap (λ rs. row k rs (map (seen f back) (vec_items c.colors))) (sym (map-id (vec_items c.readings)))
      ∙ fills_row (Answering f g (draw_entry o traced plain)) (λ r. r) (seen f back) k (λ r. (draw_entry-carried h traced plain back again r).carries g) (vec_items c.readings) (vec_items c.colors) (vec_items d.colors) d.end m.3))
  made-shown (Read c) new m =
      let d = m.0 in
      let k : Oklab Meaning → Result Indication TurnFault = λ x. run g (read_steps p untold x) in
      ap (shown f back) m.1
      ∙ ap₂ reads (ap (map (seen f back)) m.2)
      (sym (ap (row k (map (seen f back) (vec_items c.colors))) (sym (map-id (vec_items c.indications)))
      ∙ fills_row (Answering f g (read_entry o traced back)) (seen f back) (λ i. i) k (λ x. (read_steps-carried h traced (map_oklab back x)).carries g) (vec_items c.colors) (vec_items c.indications) (vec_items d.indications) d.end m.3
      ∙ ap (λ is. let w : Row Indication = record { ends = ending d.end; entries = is } in w) (map-id (vec_items d.indications))))
  made-shown (Ask c) new m =
      let d = m.0 in
      ap (shown f back) m.1
      ∙ ap₂ queries (ap (map_query (λ x. f (back x))) m.2) (ask_query-carried h traced plain back again c.query g d.answer m.3)
  made-shown Forget new m = ap (shown f back) m

-- The call at i is the last of the first i + 1.
last_suc : {P : Type 0} (i : ℕ) (cs : List (Call P)) (c : Call P) → i < length cs → c ≡ get_or cs i c → EndsForgetting (take (suc i) cs) → c ≡ Forget
last_suc i [] c h e f = absurd (omega arith)
last_suc zero (Draw d ∷ cs) c h e f = elim f [ ]
last_suc zero (Read d ∷ cs) c h e f = elim f [ ]
last_suc zero (Ask d ∷ cs) c h e f = elim f [ ]
last_suc zero (Forget ∷ cs) c h e f = e
last_suc (suc i) (d ∷ []) c h e f = absurd (omega arith)
last_suc (suc i) (Draw d ∷ b ∷ cs) c h e f = last_suc i (b ∷ cs) c (omega arith) e f
last_suc (suc i) (Read d ∷ b ∷ cs) c h e f = last_suc i (b ∷ cs) c (omega arith) e f
last_suc (suc i) (Ask d ∷ b ∷ cs) c h e f = last_suc i (b ∷ cs) c (omega arith) e f
last_suc (suc i) (Forget ∷ b ∷ cs) c h e f = last_suc i (b ∷ cs) c (omega arith) e f

pub last_forgets : {P : Type 0} (i : ℕ) (cs : List (Call P)) (c : Call P) → i < length cs → c ≡ get_or cs i c → EndsForgetting (take (i + 1) cs) → c ≡ Forget
last_forgets i cs c h e f = last_suc i cs c h e (rw add-one at f)
