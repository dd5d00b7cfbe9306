-- What the panel draws and what the page reads depends only on what the numbers and the boundary mean.
use Rattle.std.specs.Prelude.{◌≡◌, ℕ, ◌+◌, Bool, true, false, cond, List, [], ◌∷◌, map, ℤ, pos, Some, None, Ok, Err, Option, Result, ◌==◌, refl}
use Rattle.std.proofs.Common.{sym, ap, subst, ◌∙◌}
use Rattle.fault.specs.declared.faults.NumberFault.{NumberFault}
use Rattle.fault.specs.declared.faults.NumberFault.TheVariants.{Range}
use Rattle.fault.specs.declared.faults.TurnFault.{TurnFault}
use Rattle.fault.specs.declared.faults.TurnFault.TheVariants.{Valve, Number}
use Rattle.gamut.specs.declared.oklab.Oklab.{Oklab}
use Rattle.gamut.specs.declared.chroma.ChromaValues.{ChromaValues}
use Rattle.gamut.specs.Maps.{map_direction, map_oklab, map_values}
use Rattle.number.specs.Meaning.{Meaning}
use Rattle.number.specs.Ops.{Ops, Hom}
use Rattle.boundary.specs.Model.{answered}
use Rattle.boundary.specs.Query.{Gamut, map_query}
use Rattle.boundary.specs.Rule.{meant, untold, admitted}
use Rattle.boundary.specs.declared.query.Query.{Query}
use Rattle.boundary.proofs.Rules.{admitted-carried}
use Rattle.oklab.specs.declared.okhsl.Okhsl.{Okhsl}
use Rattle.oklab.specs.Checks.{settled}
use Rattle.oklab.specs.Okhsl.{map_okhsl, oklab_steps, okhsl_steps}
use Rattle.oklab.specs.Steps.{Steps, ends, asks, then_step, and_then, Follows}
use Rattle.oklab.proofs.AnswerMeans.{settled-means, and_then_means}
use Rattle.oklab.proofs.Carries.{Carries, carries_ends, follows_then, carries_then}
use Rattle.oklab.proofs.OkhslMeans.{oklab_steps-carried, okhsl_steps-carried}
use Rattle.valve_log.specs.Ranges.{valve_right, in_scale, verdict}
use Rattle.valve_log.specs.declared.reading.Reading.{Reading}
use Rattle.strip.specs.Alike.{meant_turn}
use Rattle.strip.specs.Entries.{seen, in_plain, draw_entry, ask_query}
use Rattle.strip.specs.Strip.{in_turn, unless_refused, expansion, four_way, mixing, direction_of, ranged, indicated, ratio, shade_of, along, opening_of, temperature_of, valve_of, draw_steps, indication_of, read_steps}
use Rattle.strip.specs.declared.indication.Indication.{Indication}

-- An answer of the steps, taken further.
pub follows_on : {N X Y : Type 0} (f : N → Meaning) (g : Gamut) (p : X → Y) (s : Steps N X) (x : X) → Follows f g s x → Follows f g (then_step p s) (p x)
follows_on f g p (ends y) x h = ap p h
follows_on f g p (asks q next) x h = (h.0, h.1, ap p h.2)

module _ {N : Type 0} (f : N → Meaning) (g : Gamut) (o : Ops N) (traced : N → Option (ℕ × ℕ)) where
  -- A reading that passes its check is drawn by the conversion.
  pub drawn : (r : Reading) (c : Okhsl N) (x : Result (Oklab N) NumberFault) → verdict r ≡ Ok tt → c ≡ shade_of o r
      → Follows f g (oklab_steps o traced c) x → Follows f g (draw_steps o traced r) (in_turn x)
  drawn r c x passed same h =
      subst (λ v. Follows f g (unless_refused v (then_step in_turn (oklab_steps o traced (shade_of o r)))) (in_turn x)) (sym passed)
      (follows_on f g in_turn (oklab_steps o traced (shade_of o r)) x (subst (λ d. Follows f g (oklab_steps o traced d) x) same h))

  -- A colour that is converted is read off its Okhsl colour.
  pub read_off : (c : Oklab N) (d : Okhsl N) (a : Result Indication NumberFault) → a ≡ indication_of o traced d
      → Follows f g (okhsl_steps o traced c) (Ok d) → Follows f g (read_steps o traced c) (in_turn a)
  read_off c d a e h =
      subst (λ x. Follows f g (read_steps o traced c) (in_turn x)) (sym e)
      (follows_on f g (λ r. in_turn (and_then r (indication_of o traced))) (okhsl_steps o traced c) (Ok d) h)

  pub unread : (c : Oklab N) (e : NumberFault) → Follows f g (okhsl_steps o traced c) (Err e) → Follows f g (read_steps o traced c) (Err (Number e))
  unread c e h = follows_on f g (λ r. in_turn (and_then r (indication_of o traced))) (okhsl_steps o traced c) (Err e) h

  -- A query whose numbers lie in their plain form is asked by the numbers themselves.
  pub asked_plain : {P : Type 0} (plain : N → P) (back : P → N) {q : Query P} {k : Query N} → k ≡ map_query back q
      → (r : Result (ChromaValues N) NumberFault) → Follows f g (asks k (admitted o traced k.lightness)) r
      → Follows f g (ask_query o traced plain back q) (in_plain (map_values plain) r)
  asked_plain plain back e r h =
      subst (λ m. Follows f g (asks m (λ v. in_plain (map_values plain) (admitted o traced m.lightness v))) (in_plain (map_values plain) r)) e
      (h.0, h.1, ap (in_plain (map_values plain)) h.2)

in_turn_means : {A B : Type 0} (k : A → B) (r : Result A NumberFault) → meant_turn k (in_turn r) ≡ in_turn (meant k r)
in_turn_means k (Ok x) = refl
in_turn_means k (Err f) = refl

indicated-means : (valve : ℕ) (n t : Option ℕ) → meant (λ i. i) (indicated valve n t) ≡ indicated valve n t
indicated-means valve (Some n) (Some t) = refl
indicated-means valve (Some n) None = refl
indicated-means valve None t = refl

module _ {N : Type 0} {f : N → Meaning} {o : Ops N} {p : Ops Meaning} (h : Hom f o p) where
  ratio-means : (z : ℤ) (n : ℕ) → f (ratio o z n) ≡ ratio p z n
  ratio-means z n = simp (h.div, h.whole)

  direction_means : (valve : ℕ) → map_direction f (direction_of (ratio o) valve) ≡ direction_of (ratio p) valve
  direction_means valve = go (valve == 1) (valve == 2)
    where
      go : (b c : Bool) → map_direction f (cond b (expansion (ratio o)) (cond c (four_way (ratio o)) (mixing (ratio o)))) ≡ cond b (expansion (ratio p)) (cond c (four_way (ratio p)) (mixing (ratio p)))
      go true c = simp (h.div, h.whole)
      go false true = simp (h.div, h.whole)
      go false false = simp (h.div, h.whole)

  shade_means : (r : Reading) → map_okhsl f (shade_of o r) ≡ shade_of p r
  shade_means r = λ i. record { hue = direction_means r.valve i; saturation = ratio-means (pos r.opening) 1000 i; lightness = ratio-means (pos (10 + r.temperature)) 120 i }

  opening_means : (c : Okhsl N) → f (opening_of o c) ≡ opening_of p (map_okhsl f c)
  opening_means c = simp (h.mul, h.whole)

  temperature_means : (c : Okhsl N) → f (temperature_of o c) ≡ temperature_of p (map_okhsl f c)
  temperature_means c = simp (h.mul, h.sub, h.whole)

  first_means : (c : Okhsl N) → f (along o c.hue (expansion (ratio o))) ≡ along p (map_direction f c.hue) (expansion (ratio p))
  first_means c = simp (h.add, h.mul, h.div, h.whole)

  second_means : (c : Okhsl N) → f (along o c.hue (four_way (ratio o))) ≡ along p (map_direction f c.hue) (four_way (ratio p))
  second_means c = simp (h.add, h.mul, h.div, h.whole)

  third_means : (c : Okhsl N) → f (along o c.hue (mixing (ratio o))) ≡ along p (map_direction f c.hue) (mixing (ratio p))
  third_means c = simp (h.add, h.mul, h.div, h.whole)

  valve_means : (c : Okhsl N) → valve_of o c ≡ valve_of p (map_okhsl f c)
  valve_means c =
      let x = along o c.hue (expansion (ratio o)) in
      let y = along o c.hue (four_way (ratio o)) in
      let z = along o c.hue (mixing (ratio o)) in
      rw (h.lt x y, h.lt y z, h.lt x z, first_means c, second_means c, third_means c)

  module _ (traced : N → Option (ℕ × ℕ)) where
    indication_means : (c : Okhsl N) → meant (λ i. i) (indication_of o traced c) ≡ indication_of p untold (map_okhsl f c)
    indication_means c =
        and_then_means (λ u. u) (λ i. i) (settled o traced numbers (tt {0})) (λ _. shown) (λ _. meant_shown) (λ _. indicated-means (valve_of o c) (ranged 1000 (o.nearest (opening_of o c))) (ranged 100 (o.nearest (temperature_of o c))) ∙ told)
        ∙ ap (λ s. and_then s (λ _. meant_shown)) (settled-means h traced (λ u. u) numbers (tt {0}) ∙ ap (λ ns. settled p untold ns (tt {0})) same)
      where
        numbers : List N
        numbers = opening_of o c ∷ temperature_of o c ∷ along o c.hue (expansion (ratio o)) ∷ along o c.hue (four_way (ratio o)) ∷ along o c.hue (mixing (ratio o)) ∷ []

        meant_numbers : List Meaning
        meant_numbers =
            let d = map_okhsl f c in
            opening_of p d ∷ temperature_of p d ∷ along p d.hue (expansion (ratio p)) ∷ along p d.hue (four_way (ratio p)) ∷ along p d.hue (mixing (ratio p)) ∷ []

        same : map f numbers ≡ meant_numbers
        same = λ i. opening_means c i ∷ temperature_means c i ∷ first_means c i ∷ second_means c i ∷ third_means c i ∷ []

        shown : Result Indication NumberFault
        shown = indicated (valve_of o c) (ranged 1000 (o.nearest (opening_of o c))) (ranged 100 (o.nearest (temperature_of o c)))

        meant_shown : Result Indication NumberFault
        meant_shown = indicated (valve_of p (map_okhsl f c)) (ranged 1000 (p.nearest (opening_of p (map_okhsl f c)))) (ranged 100 (p.nearest (temperature_of p (map_okhsl f c))))

        told : shown ≡ meant_shown
        told = λ i.
            indicated (valve_means c i)
            (ranged 1000 ((h.nearest (opening_of o c) ∙ ap p.nearest (opening_means c)) i))
            (ranged 100 ((h.nearest (temperature_of o c) ∙ ap p.nearest (temperature_means c)) i))

    pub draw_steps-carried : (r : Reading) → Carries f (meant_turn (map_oklab f)) (draw_steps o traced r) (draw_steps p untold r)
    draw_steps-carried r = go (valve_right r) (in_scale r)
      where
        s : Steps N (Result (Oklab N) TurnFault)
        s = then_step in_turn (oklab_steps o traced (shade_of o r))

        t : Steps Meaning (Result (Oklab Meaning) TurnFault)
        t = then_step in_turn (oklab_steps p untold (shade_of p r))

        go : (b c : Bool) → Carries f (meant_turn (map_oklab f)) (unless_refused (cond b (cond c (Ok tt) (Err (Number Range))) (Err Valve)) s) (unless_refused (cond b (cond c (Ok tt) (Err (Number Range))) (Err Valve)) t)
        go true true =
            subst (λ c. Carries f (meant_turn (map_oklab f)) s (then_step in_turn (oklab_steps p untold c))) (shade_means r)
            (carries_then (meant_turn (map_oklab f)) in_turn in_turn (in_turn_means (map_oklab f)) (oklab_steps-carried h traced (shade_of o r)))
        go true false = carries_ends refl
        go false c = carries_ends refl

    pub read_steps-carried : (c : Oklab N) → Carries f (meant_turn (λ i. i)) (read_steps o traced c) (read_steps p untold (map_oklab f c))
    read_steps-carried c =
        carries_then (meant_turn (λ i. i)) (λ r. in_turn (and_then r (indication_of o traced))) (λ r. in_turn (and_then r (indication_of p untold)))
        (λ r. in_turn_means (λ i. i) (and_then r (indication_of o traced)) ∙ ap in_turn (and_then_means (map_okhsl f) (λ i. i) r (indication_of o traced) (indication_of p untold) indication_means))
        (okhsl_steps-carried h traced c)

    -- The same where colours and a query's numbers lie in their plain form.
    module _ {P : Type 0} (plain : N → P) (back : P → N) (again : (x : N) → back (plain x) ≡ x) where
      plain_means : (a : Result (Oklab N) TurnFault) → meant_turn (seen f back) (in_plain (map_oklab plain) a) ≡ meant_turn (map_oklab f) a
      plain_means (Ok c) = λ i. Ok (record { l = f (again c.l i); a = f (again c.a i); b = f (again c.b i) })
      plain_means (Err e) = refl

      pub draw_entry-carried : (r : Reading) → Carries f (meant_turn (seen f back)) (draw_entry o traced plain r) (draw_steps p untold r)
      draw_entry-carried r = record {
        carries = λ g a k.
            let w = follows_then f g (in_plain (map_oklab plain)) (draw_steps o traced r) a k in
            ap (meant_turn (seen f back)) w.2 ∙ plain_means w.0 ∙ (draw_steps-carried r).carries g w.0 w.1;
      }

      ask_means : (r : Result (ChromaValues N) NumberFault) → meant (map_values (λ x. f (back x))) (in_plain (map_values plain) r) ≡ meant (map_values f) r
      ask_means (Ok v) = λ i. Ok (record { zero = f (again v.zero i); mid = f (again v.mid i); max = f (again v.max i) })
      ask_means (Err e) = refl

      pub ask_query-carried : (q : Query P) (g : Gamut) (r : Result (ChromaValues P) NumberFault) → Follows f g (ask_query o traced plain back q) r
          → meant (map_values (λ x. f (back x))) r ≡ answered p g (map_query (λ x. f (back x)) q)
      ask_query-carried q g r k =
          ap (meant (map_values (λ x. f (back x)))) k.2
          ∙ ask_means (admitted o traced (back q.lightness) k.0)
          ∙ admitted-carried h traced (back q.lightness) k.0
          ∙ ap (admitted p untold (f (back q.lightness))) k.1
