-- The return trip of a row, from that of each reading.
use Rattle.std.proofs.Common.{◌≡◌, ℕ, zero, suc, ◌+◌, Bool, true, false, cond, eqb, List, [], ◌∷◌, map, length, take, Ok, Err, Result, sym, refl, ap, ◌∙◌, subst, ap₂, arith}
use Rattle.std.proofs.lemmas.List.{take_all}
use Rattle.std.proofs.lemmas.Bool.{eqb-true}
use Rattle.fault.specs.declared.faults.RowFault.TheVariants.{Length}
use Rattle.fault.specs.declared.faults.TurnFault.{TurnFault}
use Rattle.number.specs.Meaning.{Meaning}
use Rattle.number.specs.Ops.{Ops}
use Rattle.gamut.specs.declared.oklab.Oklab.{Oklab}
use Rattle.boundary.specs.Rule.{untold}
use Rattle.oklab.specs.Steps.{run}
use Rattle.valve_log.specs.declared.reading.Reading.{Reading}
use Rattle.strip.specs.Rows.{Row, next, filled, row}
use Rattle.strip.specs.Strip.{draw_steps, read_steps}
use Rattle.strip.specs.Trip.{own, drawn_row, read_row, Wrote, OwnRow, ComesHome, RowsComeHome}
use Rattle.strip.specs.declared.indication.Indication.{Indication}

shift : (i n : ℕ) → i + suc n ≡ suc i + n
shift i n = omega arith

-- over any two turns of which the second undoes the first
module _ {R C L : Type 0} (f : R → Result C TurnFault) (g : C → Result L TurnFault) (own : R → L) (home : (r : R) (c : C) (l : L) → f r ≡ Ok c → g c ≡ Ok l → l ≡ own r) where
  -- of the entries from i on, the n that both wrote
  abbrev Home : ℕ → List R → Row C → Type 0
  Home i rs w = (ls : List L) → length w.entries ≡ length ls → (n : ℕ) → Wrote w.ends (i + n) → Wrote (filled g i w.entries ls).ends (i + n)
      → take n (filled g i w.entries ls).entries ≡ map own (take n rs)

  module _ (i : ℕ) (x : R) (rs : List R) (c : C) (cs : List C) (w : Row C) (rest : Home (suc i) rs w) where
    page_step : (d : C) → f x ≡ Ok d → (l : L) (ls : List L) → length w.entries ≡ length ls → (u : Result L TurnFault) → g d ≡ u → (n : ℕ)
        → Wrote w.ends (i + n) → Wrote (next i l ls u (filled g (suc i) w.entries ls)).ends (i + n)
        → take n (next i l ls u (filled g (suc i) w.entries ls)).entries ≡ map own (take n (x ∷ rs))
    page_step d e l ls q u k zero b b' = refl
    page_step d e l ls q (Err t) k (suc n) b b' = absurd (omega arith)
    page_step d e l ls q (Ok m) k (suc n) b b' =
        ap₂ ◌∷◌ (home x d m e k) (rest ls q n (subst (Wrote w.ends) (shift i n) b) (subst (Wrote (filled g (suc i) w.entries ls).ends) (shift i n) b'))

    panel_step : (u : Result C TurnFault) → f x ≡ u → Home i (x ∷ rs) (next i c cs u w)
    panel_step u e ls q zero b b' = refl
    panel_step (Err t) e ls q (suc n) b b' = absurd (omega arith)
    panel_step (Ok d) e [] q (suc n) b b' = absurd (omega arith)
    panel_step (Ok d) e (l ∷ ls) q (suc n) b b' = page_step d e l ls (omega arith) (g d) refl (suc n) b b'

  filled_home : (i : ℕ) (rs : List R) (cs : List C) → length rs ≡ length cs → Home i rs (filled f i rs cs)
  filled_home i [] [] p [] q zero b b' = refl
  filled_home i [] [] p [] q (suc n) b b' = refl
  filled_home i [] [] p (l ∷ ls) q n b b' = absurd (omega arith)
  filled_home i [] (c ∷ cs) p ls q n b b' = absurd (omega arith)
  filled_home i (x ∷ rs) [] p ls q n b b' = absurd (omega arith)
  filled_home i (x ∷ rs) (c ∷ cs) p ls q n b b' = panel_step i x rs c cs (filled f (suc i) rs cs) (filled_home (suc i) rs cs (omega arith)) (f x) refl ls q n b b'

  -- with the test of the lengths
  row_home : (rs : List R) (cs : List C) (ls : List L) (n : ℕ) → Wrote (row f rs cs).ends n → Wrote (row g (row f rs cs).entries ls).ends n
      → take n (row g (row f rs cs).entries ls).entries ≡ map own (take n rs)
  row_home rs cs ls n b b' = panel_row (eqb (length rs) (length cs)) refl b b'
    where
      none : (ms : List L) → n ≡ 0 → take n ms ≡ map own (take n rs)
      none ms e = subst (λ k. take k ms ≡ map own (take k rs)) (sym e) refl

      page_row : length rs ≡ length cs → (k : Bool) → eqb (length (filled f 0 rs cs).entries) (length ls) ≡ k → Wrote (filled f 0 rs cs).ends n
          → Wrote (cond k (filled g 0 (filled f 0 rs cs).entries ls) (record { ends = Err Length; entries = ls })).ends n
          → take n (cond k (filled g 0 (filled f 0 rs cs).entries ls) (record { ends = Err Length; entries = ls })).entries ≡ map own (take n rs)
      page_row p true h b b' = filled_home 0 rs cs p ls (eqb-true _ _ h) n (subst (Wrote (filled f 0 rs cs).ends) from_0 b) (subst (Wrote (filled g 0 (filled f 0 rs cs).entries ls).ends) from_0 b')
        where
          from_0 : n ≡ 0 + n
          from_0 = omega arith
      page_row p false h b b' = none ls b'

      panel_row : (k : Bool) → eqb (length rs) (length cs) ≡ k → Wrote (cond k (filled f 0 rs cs) (record { ends = Err Length; entries = cs })).ends n
          → Wrote (row g (cond k (filled f 0 rs cs) (record { ends = Err Length; entries = cs })).entries ls).ends n
          → take n (row g (cond k (filled f 0 rs cs) (record { ends = Err Length; entries = cs })).entries ls).entries ≡ map own (take n rs)
      panel_row true h b b' = page_row (eqb-true _ _ h) (eqb (length (filled f 0 rs cs).entries) (length ls)) refl b b'
      panel_row false h b b' = none (row g cs ls).entries b

  -- what holds of the first n entries for every n holds of all
  row_all : (rs : List R) (cs : List C) (ls : List L) → (row f rs cs).ends ≡ Ok tt → (row g (row f rs cs).entries ls).ends ≡ Ok tt
      → (row g (row f rs cs).entries ls).entries ≡ map own rs
  row_all rs cs ls e e' =
      let ms : List L = (row g (row f rs cs).entries ls).entries in
      let n : ℕ = length rs + length ms in
      sym (take_all n ms (omega arith)) ∙ row_home rs cs ls n (subst (λ x. Wrote x n) (sym e) tt) (subst (λ x. Wrote x n) (sym e') tt) ∙ ap (map own) (take_all n rs (omega arith))

pub rows_come_home : (o : Ops Meaning) → ComesHome o → RowsComeHome o
rows_come_home o home g g' same rs cs is = subst (λ k. OwnRow rs (drawn_row o g rs cs) (read_row o k (drawn_row o g rs cs).entries is)) (λ i q. same q i) one
  where
    draw : Reading → Result (Oklab Meaning) TurnFault
    draw r = run g (draw_steps o untold r)

    read : Oklab Meaning → Result Indication TurnFault
    read c = run g (read_steps o untold c)

    one : OwnRow rs (drawn_row o g rs cs) (read_row o g (drawn_row o g rs cs).entries is)
    one = record { all = row_all draw read own (home g) rs cs is; first = row_home draw read own (home g) rs cs is }
