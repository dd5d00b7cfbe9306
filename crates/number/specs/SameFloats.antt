-- The test `same_float` decides equality of floats, and so does a comparison of their bits.
use Rattle.std.specs.Prelude.{◌≡◌, ◌&&◌, T, ℤ, pos, negsuc, Decides, ◌==◌, from_bits, to_bits, refl, Float}
use Rattle.std.specs.Bool.{beq}
use Rattle.std.specs.Cmp.{booleans_Decides}
use Rattle.std.proofs.Common.{sym, ap, ◌∙◌}
use Rattle.std.specs.Float.{nan, inf, fin, Format}
use Rattle.std.specs.Float.Ieee.{fits}
use Rattle.std.specs.Float.Ieee.Bits.{of_bits-to_bits}
use Rattle.std.proofs.lemmas.Bool.Decides.{same_from_decides, Decides-eqb, Decides-and, Decides-like}
use Rattle.number.specs.Floats.{same_int, same_float}
use Rattle.number.specs.Meaning.{Meaning, float}

pub decides_int : (x y : ℤ) → Decides (same_int x y) (x ≡ y)
decides_int (pos m) (pos n) = Decides-like (m == n) (ap pos) (λ e. cc) (Decides-eqb m n)
decides_int (pos m) (negsuc n) = (λ e. cc, λ e. cc)
decides_int (negsuc m) (pos n) = (λ e. cc, λ e. cc)
decides_int (negsuc m) (negsuc n) = Decides-like (m == n) (ap negsuc) (λ e. cc) (Decides-eqb m n)

decides_float : (x y : Float) → Decides (same_float x y) (x ≡ y)
unfolding same_float
decides_float nan nan = (λ _. refl, λ _. refl)
decides_float nan (inf t) = (λ e. cc, λ e. cc)
decides_float nan (fin t n d) = (λ e. cc, λ e. cc)
decides_float (inf s) nan = (λ e. cc, λ e. cc)
decides_float (inf s) (inf t) = Decides-like (beq s t) (ap inf) (λ e. cc) (booleans_Decides s t)
decides_float (inf s) (fin t n d) = (λ e. cc, λ e. cc)
decides_float (fin s m e) nan = (λ e. cc, λ e. cc)
decides_float (fin s m e) (inf t) = (λ e. cc, λ e. cc)
decides_float (fin s m e) (fin t n d) =
    Decides-like (beq s t && (m == n && same_int e d)) (λ h. let a = h.0 in let b = h.1.0 in let c = h.1.1 in cc) (λ h. (cc, (cc, cc)))
    (Decides-and (beq s t) (m == n && same_int e d) (booleans_Decides s t) (Decides-and (m == n) (same_int e d) (Decides-eqb m n) (decides_int e d)))

-- floats of a format are equal exactly when their bits are
pub same_bits : (f : Format) (x y : Float) → T (fits f x) → T (fits f y) → (to_bits f x == to_bits f y) ≡ same_float x y
same_bits f x y p q =
    same_from_decides _ _
    (Decides-like (to_bits f x == to_bits f y) (λ e. sym (of_bits-to_bits f x p) ∙ ap (from_bits f) e ∙ of_bits-to_bits f y q) (ap (to_bits f)) (Decides-eqb (to_bits f x) (to_bits f y)))
    (decides_float x y)

-- and so are what they mean
pub decides_float_meaning : (x y : Float) → Decides (same_float x y) (◌≡◌ {A = Meaning} (float x) (float y))
decides_float_meaning x y = Decides-like (same_float x y) (ap float) (λ e. cc) (decides_float x y)
