-- The word for a colour of Okhsl.
use Rattle.std.specs.Prelude.{ℕ, cond, ◌&&◌, List, pos, Ok, Err, codes, Option, Result}
use Rattle.fault.specs.declared.faults.NumberFault.{NumberFault}
use Rattle.fault.specs.declared.faults.NumberFault.TheVariants.{Range, Direction}
use Rattle.number.specs.Ops.{Ops}
use Rattle.oklab.specs.Checks.{in_unit}
use Rattle.oklab.specs.Okhsl.{okhsl_in_range}
use Rattle.oklab.specs.declared.okhsl.Okhsl.{Okhsl}
use Rattle.oklab.specs.declared.word.Word.{Word}
use Rattle.oklab.specs.declared.word.Word.TheVariants.{Grey, White, Black, Coloured}

-- how each word is written
abbrev pub word_text : Word → List ℕ
word_text Grey = codes "grey"
word_text White = codes "white"
word_text Black = codes "black"
word_text Coloured = codes "coloured"

module _ {N : Type 0} (o : Ops N) (traced : N → Option (ℕ × ℕ)) where
  open o use {sub, le, whole}

  -- grey if s ≤ e, else white if 1 − l ≤ e, else black if l ≤ e, else coloured
  abbrev pub word_within : Okhsl N → N → Word
  word_within c e =
      cond (le c.saturation e) Grey
      (cond (le (sub (whole (pos 1)) c.lightness) e) White
      (cond (le c.lightness e) Black
      Coloured))

  -- The word for a colour and a threshold in 0..1: 5, then 6.
  abbrev pub word_of : Okhsl N → N → Result Word NumberFault
  word_of c e = cond (okhsl_in_range o traced c && in_unit o e) (cond (o.direction c.hue.a c.hue.b) (Ok (word_within c e)) (Err Direction)) (Err Range)
