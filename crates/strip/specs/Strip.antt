-- What the panel draws for a reading, and what the page reads off a colour.
use Rattle.std.specs.Prelude.{ℕ, ◌+◌, cond, [], ◌∷◌, ℤ, pos, negsuc, Some, None, Ok, Err, Option, Result, ◌==◌, nat_le}
use Rattle.fault.specs.declared.faults.NumberFault.{NumberFault}
use Rattle.fault.specs.declared.faults.NumberFault.TheVariants.{Range}
use Rattle.fault.specs.declared.faults.TurnFault.{TurnFault}
use Rattle.fault.specs.declared.faults.TurnFault.TheVariants.{Number}
use Rattle.gamut.specs.declared.direction.Direction.{Direction}
use Rattle.gamut.specs.declared.oklab.Oklab.{Oklab}
use Rattle.number.specs.Ops.{Ops}
use Rattle.oklab.specs.declared.okhsl.Okhsl.{Okhsl}
use Rattle.oklab.specs.Checks.{settled}
use Rattle.oklab.specs.Okhsl.{oklab_steps, okhsl_steps}
use Rattle.oklab.specs.Steps.{Steps, ends, then_step, and_then}
use Rattle.valve_log.specs.Ranges.{verdict}
use Rattle.valve_log.specs.declared.reading.Reading.{Reading}
use Rattle.strip.specs.declared.indication.Indication.{Indication}

-- a conversion's refusal inside that of an entry
abbrev pub in_turn : {A : Type 0} → Result A NumberFault → Result A TurnFault
in_turn (Ok x) = Ok x
in_turn (Err f) = Err (Number f)

-- what follows a check that is passed
abbrev pub unless_refused : {N A : Type 0} → Result (Unit {0}) TurnFault → Steps N (Result A TurnFault) → Steps N (Result A TurnFault)
unless_refused (Ok u) next = next
unless_refused (Err f) next = ends (Err f)

-- The direction of each valve: expansion, four-way, mixing.
module _ {N : Type 0} (over : ℤ → ℕ → N) where
  abbrev pub expansion : Direction N
  expansion = record { a = over (pos 3) 5; b = over (pos 4) 5 }

  abbrev pub four_way : Direction N
  four_way = record { a = over (negsuc 3) 5; b = over (pos 3) 5 }

  abbrev pub mixing : Direction N
  mixing = record { a = over (pos 5) 13; b = over (negsuc 11) 13 }

  abbrev pub direction_of : ℕ → Direction N
  direction_of valve = cond (valve == 1) expansion (cond (valve == 2) four_way mixing)

-- a whole number in 0..n
abbrev pub ranged : ℕ → Option ℤ → Option ℕ
ranged n (Some (pos k)) = cond (nat_le k n) (Some k) None
ranged n (Some (negsuc k)) = None
ranged n None = None

-- an indication, whose valve is 0 exactly when its opening is 0; refused where a number is none or out of range
abbrev pub indicated : ℕ → Option ℕ → Option ℕ → Result Indication NumberFault
indicated valve (Some n) (Some t) = Ok (record { valve = cond (n == 0) 0 valve; temperature = t; opening = n })
indicated valve (Some n) None = Err Range
indicated valve None t = Err Range

module _ {N : Type 0} (o : Ops N) where
  infixl 60 ◌+ᴺ◌ ◌-ᴺ◌
  infixl 70 ◌*ᴺ◌
  abbrev ◌+ᴺ◌ : N → N → N
  x +ᴺ y = o.add x y

  abbrev ◌-ᴺ◌ : N → N → N
  x -ᴺ y = o.sub x y

  abbrev ◌*ᴺ◌ : N → N → N
  x *ᴺ y = o.mul x y

  abbrev pub ratio : ℤ → ℕ → N
  ratio z n = o.div (o.whole z) (o.whole (pos n))

  -- The Okhsl colour of a reading: hue its valve, saturation its opening, lightness its temperature.
  abbrev pub shade_of : Reading → Okhsl N
  shade_of r = record {
    hue = direction_of ratio r.valve;
    saturation = ratio (pos r.opening) 1000;
    lightness = ratio (pos (10 + r.temperature)) 120;
  }

  -- a × a' + b × b'
  abbrev pub along : Direction N → Direction N → N
  along d e = d.a *ᴺ e.a +ᴺ d.b *ᴺ e.b

  -- 1000 s and 120 l − 10
  abbrev pub opening_of : Okhsl N → N
  opening_of c = o.whole (pos 1000) *ᴺ c.saturation

  abbrev pub temperature_of : Okhsl N → N
  temperature_of c = o.whole (pos 120) *ᴺ c.lightness -ᴺ o.whole (pos 10)

  -- the valve with the largest of three products, the lowest if equal
  abbrev pub largest : N → N → N → ℕ
  largest x y z = cond (o.lt x y) (cond (o.lt y z) 3 2) (cond (o.lt x z) 3 1)

  abbrev pub valve_of : Okhsl N → ℕ
  valve_of c = largest (along c.hue (expansion ratio)) (along c.hue (four_way ratio)) (along c.hue (mixing ratio))

  module _ (traced : N → Option (ℕ × ℕ)) where
    -- What the panel draws for a reading: 4, then 5, then the conversion's refusals.
    abbrev pub draw_steps : Reading → Steps N (Result (Oklab N) TurnFault)
    draw_steps r = unless_refused (verdict r) (then_step in_turn (oklab_steps o traced (shade_of r)))

    -- What an Okhsl colour indicates: 8 for the first spoiled number, then 5.
    abbrev pub indication_of : Okhsl N → Result Indication NumberFault
    indication_of c =
        and_then (settled o traced
        (opening_of c ∷ temperature_of c ∷ along c.hue (expansion ratio) ∷ along c.hue (four_way ratio) ∷ along c.hue (mixing ratio) ∷ [])
        (tt {0}))
        (λ _. indicated (valve_of c) (ranged 1000 (o.nearest (opening_of c))) (ranged 100 (o.nearest (temperature_of c))))

    -- What the page reads off a colour: the conversion's refusals, then 8, then 5.
    abbrev pub read_steps : Oklab N → Steps N (Result Indication TurnFault)
    read_steps c = then_step (λ r. in_turn (and_then r indication_of)) (okhsl_steps o traced c)
