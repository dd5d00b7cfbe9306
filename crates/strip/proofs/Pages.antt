-- What the page indicates by a colour of Okhsl whose numbers mean those of a reading.
use Rattle.std.proofs.Common.{◌≡◌, ℕ, ◌+◌, ◌≤◌, Bool, cond, eqb, List, [], ◌∷◌, ℤ, pos, negsuc, Some, None, Ok, sym, ap, ◌∙◌, ap₂, arith, le-leb}
use Rattle.rational.specs.Rational.{Rational, exact}
use Rattle.rational.proofs.Field.{Formula, formulas, x₀, x₁}
use Rattle.number.specs.Exactness.{Exactness}
use Rattle.number.specs.Meaning.{Meaning, fraction, OrLost}
use Rattle.number.specs.Ops.{Ops}
use Rattle.gamut.specs.declared.direction.Direction.{Direction}
use Rattle.boundary.specs.Rule.{untold}
use Rattle.oklab.specs.declared.okhsl.Okhsl.{Okhsl}
use Rattle.strip.specs.Strip.{expansion, four_way, mixing, ratio, along, opening_of, temperature_of, valve_of, ranged, indicated, indication_of}
use Rattle.strip.specs.declared.indication.Indication.{Indication}
use Rattle.strip.proofs.Panels.{Turned}
use Rattle.strip.proofs.Readings.{ratio_x, along_x, largest_x, opening_back, temperature_back, nearest-whole}
use Rattle.strip.proofs.Results.{then_ok, ok_inj, Unspoiled, settled_ok, alive}
use Rattle.strip.proofs.Told.{told_1, told_2, told_is, sure}

abbrev choice : Bool → Bool → Bool → ℕ
choice p q r = cond p (cond q 3 2) (cond r 3 1)

same_choice : {p q r p' q' r' : Bool} → p ≡ p' → q ≡ q' → r ≡ r' → choice p q r ≡ choice p' q' r'
same_choice e f g = λ i. choice (e i) (f i) (g i)

-- the formula of a product with the direction (z ÷ n, y ÷ n)
abbrev product : ℤ → ℤ → ℕ → Formula
product z y n = formulas.add (formulas.mul x₀ (formulas.div (formulas.lit z 0) (formulas.lit (pos n) 0))) (formulas.mul x₁ (formulas.div (formulas.lit y 0) (formulas.lit (pos n) 0)))

module _ (o : Ops Meaning) (E : Exactness o) where
  along_told : (d : Direction Meaning) (e : Direction Rational) → Turned d e → (z y : ℤ) (n : ℕ)
      → OrLost (along o d (record { a = ratio o z n; b = ratio o y n })) (along_x e (record { a = ratio_x z n; b = ratio_x y n }))
  along_told d e p z y n = told_2 o E p.0 p.1 (product z y n)

  -- the numbers that are looked at
  abbrev looked : Okhsl Meaning → List Meaning
  looked h = opening_of o h ∷ temperature_of o h ∷ along o h.hue (expansion (ratio o)) ∷ along o h.hue (four_way (ratio o)) ∷ along o h.hue (mixing (ratio o)) ∷ []

  indicated_of : (h : Okhsl Meaning) (i : Indication) → indication_of o untold h ≡ Ok i
      → Unspoiled o (looked h) × (indicated (valve_of o h) (ranged 1000 (o.nearest (opening_of o h))) (ranged 100 (o.nearest (temperature_of o h))) ≡ Ok i)
  indicated_of h i e =
      let (u, es, ei) = then_ok _ _ e in
      ((settled_ok o (looked h) (tt {0}) es).0, ei)

  whole_read : (m : Meaning) (n k : ℕ) → n ≤ k → k ≤ 1000000 → m ≡ fraction (exact.lit (pos n) 0) → ranged k (o.nearest m) ≡ Some n
  whole_read m n k h g e = ap (λ x. ranged k (o.nearest x)) e ∙ ap (ranged k) (E.nearest _ ∙ nearest-whole n small) ∙ ap (λ b. cond b (Some n) None) (le-leb n k h)
    where
      small : n ≤ 1000000
      small = omega arith

  -- opening and temperature are read
  pub indication_is : (h : Okhsl Meaning) (t n : ℕ) (i : Indication) → t ≤ 100 → n ≤ 1000 → OrLost h.saturation (ratio_x (pos n) 1000) → OrLost h.lightness (ratio_x (pos (10 + t)) 120)
      → indication_of o untold h ≡ Ok i → i ≡ record { valve = cond (eqb n 0) 0 (valve_of o h); temperature = t; opening = n }
  indication_is h t n i ht hn ps pl e =
      let (u, ei) = indicated_of h i e in
      sym (ok_inj (sym (ap₂ (indicated (valve_of o h))
      (whole_read (opening_of o h) n 1000 hn (omega arith) (sure (told_is (opening_back n) (told_1 o E ps (formulas.mul (formulas.lit (pos 1000) 0) x₀))) (alive o E u.0)))
      (whole_read (temperature_of o h) t 100 ht (omega arith) (sure (told_is (temperature_back t) (told_1 o E pl
      (formulas.sub (formulas.mul (formulas.lit (pos 120) 0) x₀) (formulas.lit (pos 10) 0)))) (alive o E u.1.0)))) ∙ ei))

  -- the valve with the largest product
  pub valve_is : (h : Okhsl Meaning) (e : Direction Rational) (i : Indication) → Turned h.hue e → indication_of o untold h ≡ Ok i
      → valve_of o h ≡ largest_x (along_x e (expansion ratio_x)) (along_x e (four_way ratio_x)) (along_x e (mixing ratio_x))
  valve_is h e i p f =
      let (u, ei) = indicated_of h i f in
      let e₁ = sure (along_told h.hue e p (pos 3) (pos 4) 5) (alive o E u.1.1.0) in
      let e₂ = sure (along_told h.hue e p (negsuc 3) (pos 3) 5) (alive o E u.1.1.1.0) in
      let e₃ = sure (along_told h.hue e p (pos 5) (negsuc 11) 13) (alive o E u.1.1.1.1.0) in
      same_choice (ap₂ o.lt e₁ e₂ ∙ E.lt.value _ _) (ap₂ o.lt e₂ e₃ ∙ E.lt.value _ _) (ap₂ o.lt e₁ e₃ ∙ E.lt.value _ _)
