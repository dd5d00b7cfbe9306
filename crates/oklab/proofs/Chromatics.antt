-- What the colour with its chroma tells.
use Rattle.std.proofs.Common.{◌≡◌, ℕ, Bool, true, false, cond, Ok, Err, Option, Result, refl}
use Rattle.fault.specs.declared.faults.NumberFault.{NumberFault}
use Rattle.fault.specs.declared.faults.NumberFault.TheVariants.{Range, Lost}
use Rattle.gamut.specs.declared.oklab.Oklab.{Oklab}
use Rattle.number.specs.Formulas.{hypot}
use Rattle.number.specs.Ops.{Ops}
use Rattle.oklab.specs.Chromatic.{chromatic_of}
use Rattle.oklab.specs.Okhsl.{oklab_in_range}
use Rattle.oklab.specs.declared.chromatic.Chromatic.{Chromatic}

module _ {N : Type 0} (o : Ops N) (traced : N → Option (ℕ × ℕ)) (c : Oklab N) where
  abbrev measured : N
  measured = hypot o c.a c.b

  -- c is in range, and m is c with its chroma, which is not spoiled
  pub record IsChromatic (m : Chromatic N) : Type 0 where
    pub ranged : true ≡ oklab_in_range o traced c
    pub kept : o.spoiled m.chroma ≡ false
    pub color : m.color ≡ c
    pub chroma : m.chroma ≡ hypot o c.a c.b

  pub chromatic_accepted : (q : Result (Chromatic N) NumberFault) {m : Chromatic N} → q ≡ chromatic_of o traced c → q ≡ Ok m → IsChromatic m
  chromatic_accepted q {m} e k = go (oklab_in_range o traced c) (o.spoiled measured) refl refl e
    where
      go : (b s : Bool) → b ≡ oklab_in_range o traced c → o.spoiled measured ≡ s
          → q ≡ cond b (cond s (Err (Lost (traced measured))) (Ok (record { color = c; chroma = measured }))) (Err Range) → IsChromatic m
      go true false r h e = let same : m ≡ record { color = c; chroma = measured } = cc in record { ranged = r; kept = rw same h; color = rw same refl; chroma = rw same refl }
      go true true r h e = absurd cc
      go false s r h e = absurd cc
