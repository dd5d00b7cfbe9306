-- Entries of rows and numbers of calls, which lie in their kind's plain form.
use Rattle.std.specs.Prelude.{ℕ, Ok, Err, Option, Result}
use Rattle.fault.specs.declared.faults.NumberFault.{NumberFault}
use Rattle.fault.specs.declared.faults.TurnFault.{TurnFault}
use Rattle.gamut.specs.declared.chroma.ChromaValues.{ChromaValues}
use Rattle.gamut.specs.declared.oklab.Oklab.{Oklab}
use Rattle.gamut.specs.Maps.{map_oklab, map_values}
use Rattle.number.specs.Meaning.{Meaning}
use Rattle.number.specs.Ops.{Ops}
use Rattle.boundary.specs.Query.{map_query}
use Rattle.boundary.specs.Rule.{admitted}
use Rattle.boundary.specs.declared.query.Query.{Query}
use Rattle.oklab.specs.Steps.{Steps, asks, then_step}
use Rattle.valve_log.specs.declared.reading.Reading.{Reading}
use Rattle.strip.specs.Strip.{draw_steps, read_steps}
use Rattle.strip.specs.declared.indication.Indication.{Indication}

-- What a colour of a row means.
abbrev pub seen : {N P : Type 0} → (N → Meaning) → (P → N) → Oklab P → Oklab Meaning
seen means back c = map_oklab (λ p. means (back p)) c

-- An answer whose numbers are put into their plain form.
abbrev pub in_plain : {A B E : Type 0} → (A → B) → Result A E → Result B E
in_plain plain (Ok x) = Ok (plain x)
in_plain plain (Err f) = Err f

module _ {N P : Type 0} (o : Ops N) (traced : N → Option (ℕ × ℕ)) where
  -- What the panel writes for a reading.
  abbrev pub draw_entry : (N → P) → Reading → Steps N (Result (Oklab P) TurnFault)
  draw_entry plain r = then_step (in_plain (map_oklab plain)) (draw_steps o traced r)

  -- What the page writes for a colour.
  abbrev pub read_entry : (P → N) → Oklab P → Steps N (Result Indication TurnFault)
  read_entry back c = read_steps o traced (map_oklab back c)

  -- The answer to a query.
  abbrev pub ask_query : (N → P) → (P → N) → Query P → Steps N (Result (ChromaValues P) NumberFault)
  ask_query plain back q = asks (map_query back q) (λ v. in_plain (map_values plain) (admitted o traced (back q.lightness) v))
