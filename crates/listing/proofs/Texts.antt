-- The text of an answer is that of what it means.
use Rattle.std.proofs.Common.{◌≡◌, ℕ, Bool, true, false, cond, List, [], ◌∷◌, ◌++◌, map, length, get_or, Ok, Err, codes, decimal, Result, sym, refl, ap, ◌∙◌, arith}
use Rattle.std.specs.Fmt.{signed_decimal}
use Rattle.rational.specs.Rational.{Rational, num, den}
use Rattle.number.specs.Meaning.{Meaning, lost, fraction}
use Rattle.fault.specs.Refusals.{of_turn, of_row}
use Rattle.fault.specs.declared.faults.NumberFault.TheVariants.{Range, Direction, Boundary, Lost}
use Rattle.fault.specs.declared.faults.TurnFault.{TurnFault}
use Rattle.fault.specs.declared.faults.TurnFault.TheVariants.{Valve, Number}
use Rattle.fault.specs.declared.faults.RowFault.{RowFault}
use Rattle.fault.specs.declared.faults.RowFault.TheVariants.{Length, Entry}
use Rattle.fraction.specs.Bounded.{arithmetic}
use Rattle.fraction.specs.Fractions.{value_of, meaning_of, of_plain}
use Rattle.fraction.specs.Shown.{written}
use Rattle.fraction.specs.declared.fraction.Fraction.{Fraction}
use Rattle.fraction.specs.declared.fraction.PlainFraction.{PlainFraction}
use Rattle.gamut.specs.declared.oklab.Oklab.{Oklab}
use Rattle.boundary.specs.Query.{Gamut}
use Rattle.boundary.specs.Rule.{untold}
use Rattle.oklab.specs.Steps.{run}
use Rattle.strip.specs.Alike.{untraced_turn, untraced_row}
use Rattle.strip.specs.Entries.{seen}
use Rattle.strip.specs.Rows.{Row, next, row}
use Rattle.strip.specs.Strip.{draw_steps}
use Rattle.valve_log.specs.declared.reading.Reading.{Reading}
use Rattle.listing.specs.Answers.{plain_text, row_text}
use Rattle.listing.specs.Listing.{listed, drawn, number_text, color_text}

number_text_lem : (b : Bool) (x : Rational) → cond b (codes "lost") (signed_decimal (num x) ++ (codes "/" ++ decimal (den x))) ≡ number_text (cond b lost (fraction x))
number_text_lem true x = refl
number_text_lem false x = refl

written-means : (q : Fraction) → written q ≡ number_text (meaning_of q)
written-means q = number_text_lem q.lost (value_of q)

plain_means : (c : Oklab PlainFraction) → plain_text c ≡ color_text (Ok (seen meaning_of of_plain c))
plain_means c = rw (written-means (of_plain c.l), written-means (of_plain c.a), written-means (of_plain c.b))

-- a refusal keeps its number without its trace
turn_number : (f : TurnFault) → (of_turn (untraced_turn f)).number ≡ (of_turn f).number
turn_number Valve = refl
turn_number (Number Range) = refl
turn_number (Number Direction) = refl
turn_number (Number (Boundary t)) = refl
turn_number (Number (Lost t)) = refl

abbrev fault_in : TurnFault → Result (Unit {0}) RowFault → TurnFault
fault_in d (Ok u) = d
fault_in d (Err Length) = d
fault_in d (Err (Entry p)) = p.fault

-- a row of one entry
module _ {C : Type 0} (old : C) where
  abbrev one : Result C TurnFault → Row C
  one a = next 0 old [] a (record { ends = Ok tt; entries = [] })

  one_written : (a : Result C TurnFault) (d : C) → (one a).ends ≡ Ok tt → (one a).entries ≡ d ∷ [] → a ≡ Ok d
  one_written (Ok e) d h k = cc
  one_written (Err g) d h k = let z : ◌≡◌ {A = ℕ} 0 1 = cc in absurd (omega arith)

  one_refused : (a : Result C TurnFault) (g : RowFault) → (one a).ends ≡ Err (untraced_row g) → (h : TurnFault) × (a ≡ Err h) × ((of_row g).number ≡ (of_turn h).number)
  one_refused (Ok e) g k = let z : ◌≡◌ {A = ℕ} 0 1 = cc in absurd (omega arith)
  one_refused (Err h) Length k = let z : ◌≡◌ {A = ℕ} 0 1 = cc in absurd (omega arith)
  one_refused (Err h) (Entry p) k =
      let same : h ≡ untraced_turn p.fault = ap (fault_in h) k in
      (h, refl, sym (ap (λ t. (of_turn t).number) same ∙ turn_number p.fault))

-- The text of the colour that was written to a row of one entry, or of its refusal.
module _ (f : Reading → Result (Oklab Meaning) TurnFault) (x : Reading) (old : Oklab Meaning) where
  pub alone_drawn : (c : Oklab PlainFraction)
      → row f (x ∷ []) (old ∷ []) ≡ record { ends = Ok tt; entries = seen meaning_of of_plain c ∷ [] } → plain_text c ≡ color_text (f x)
  alone_drawn c e =
      plain_means c
      ∙ ap color_text (sym (one_written old (f x) (seen meaning_of of_plain c) (ap (λ (w : Row (Oklab Meaning)). w.ends) e) (ap (λ (w : Row (Oklab Meaning)). w.entries) e)))

  pub alone_refused : (g : RowFault) (new : List (Oklab Meaning))
      → row f (x ∷ []) (old ∷ []) ≡ record { ends = Err (untraced_row g); entries = new } → row_text (Err g) ≡ color_text (f x)
  alone_refused g new e =
      let h = one_refused old (f x) g (ap (λ (w : Row (Oklab Meaning)). w.ends) e) in
      ap (λ n. codes "refused " ++ (decimal n ++ codes "\n")) h.2 ∙ ap color_text (sym h.1)

one_entry : {C : Type 0} (xs : List C) (d : C) → length xs ≡ 1 → xs ≡ get_or xs 0 d ∷ []
one_entry [] d e = absurd (omega arith)
one_entry (x ∷ []) d e = refl
one_entry (x ∷ y ∷ zs) d e = absurd (omega arith)

-- The same of the listing's boundary, with what `draw_row` says of the row.
module _ (g : Gamut) (same : g ≡ listed) (x : Reading) (old : Oklab Meaning) where
  pub drawn_text : (xs : List (Oklab PlainFraction)) (d : Oklab PlainFraction) → length xs ≡ 1
      → row (λ y. run g (draw_steps arithmetic untold y)) (x ∷ []) (old ∷ []) ≡ record { ends = Ok tt; entries = map (seen meaning_of of_plain) xs }
      → plain_text (get_or xs 0 d) ≡ color_text (drawn x)
  unfolding drawn
  drawn_text xs d n e =
      alone_drawn (λ y. run g (draw_steps arithmetic untold y)) x old (get_or xs 0 d)
      (e ∙ ap (λ ys. record { ends = Ok tt; entries = map (seen meaning_of of_plain) ys }) (one_entry xs d n))
      ∙ ap (λ h. color_text (run h (draw_steps arithmetic untold x))) same

  pub refused_text : (f : RowFault) (new : List (Oklab Meaning))
      → row (λ y. run g (draw_steps arithmetic untold y)) (x ∷ []) (old ∷ []) ≡ record { ends = Err (untraced_row f); entries = new }
      → row_text (Err f) ≡ color_text (drawn x)
  unfolding drawn
  refused_text f new e =
      alone_refused (λ y. run g (draw_steps arithmetic untold y)) x old f new e ∙ ap (λ h. color_text (run h (draw_steps arithmetic untold x))) same
