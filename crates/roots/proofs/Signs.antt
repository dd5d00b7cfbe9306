-- Signs of floats: `units` of either sign, and `cbrt`, which goes by the size and keeps the sign. Assumes nothing.
use Rattle.std.proofs.Common.{◌≡◌, ℕ, zero, suc, ◌+◌, ◌*◌, ◌^◌, Bool, true, false, cond, T, ltb, sym, refl, ap, ◌∙◌, subst}
use lib.Ieee.{Float, Format, nan, inf, fin, prec, emax, low, odd, units, fits}
use Rattle.std.specs.Float as Floats
use Rattle.roots.specs.Digits.{rounded}
use Rattle.roots.specs.Roots.{Root, Signed, cbrt}
use Rattle.roots.proofs.FloatRoots.{cbrt-root}

-- ---- of `units`

sign_of_odd : (s : Bool) (d q k l : ℕ) → Floats.float_with_sign s (odd d false q k l) ≡ odd d s q k l
unfolding Floats.float_with_sign odd
sign_of_odd s d zero k l = refl
sign_of_odd s d (suc q) k l = refl

pub sign_of_units : (s : Bool) (f : Format) (q k : ℕ) → Floats.float_with_sign s (units f false q k) ≡ units f s q k
unfolding Floats.float_with_sign units
sign_of_units s f q k = go (ltb (q * 2 ^ k) (2 ^ (low f + suc (emax f))))
  where
    go : (b : Bool) → Floats.float_with_sign s (cond b (odd (suc (prec f)) false q k (low f)) (inf false)) ≡ cond b (odd (suc (prec f)) s q k (low f)) (inf s)
    go true = sign_of_odd s (suc (prec f)) q k (low f)
    go false = refl

twice_signed : (s : Bool) (x : Float) → Floats.float_with_sign false (Floats.float_with_sign s x) ≡ Floats.float_with_sign false x
unfolding Floats.float_with_sign
twice_signed s nan = refl
twice_signed s (inf t) = refl
twice_signed s (fin t m e) = refl

size_of_units : (s : Bool) (f : Format) (q k : ℕ) → Floats.float_with_sign false (units f s q k) ≡ units f false q k
size_of_units s f q k = ap (Floats.float_with_sign false) (sym (sign_of_units s f q k)) ∙ twice_signed s (units f false q k) ∙ sign_of_units false f q k

negative_odd : (s : Bool) (d q k l : ℕ) → Floats.is_sign_negative (odd d s q k l) ≡ s
unfolding Floats.is_sign_negative odd
negative_odd s d zero k l = refl
negative_odd s d (suc q) k l = refl

negative_units : (s : Bool) (f : Format) (q k : ℕ) → Floats.is_sign_negative (units f s q k) ≡ s
unfolding Floats.is_sign_negative units
negative_units s f q k = go (ltb (q * 2 ^ k) (2 ^ (low f + suc (emax f))))
  where
    go : (b : Bool) → Floats.is_sign_negative (cond b (odd (suc (prec f)) s q k (low f)) (inf s)) ≡ s
    go true = negative_odd s (suc (prec f)) q k (low f)
    go false = refl

-- ---- of `cbrt`

cbrt-size : (f : Format) (x : Float) → cbrt f (Floats.float_with_sign false x) ≡ Floats.float_with_sign false (cbrt f x)
unfolding cbrt rounded Floats.float_with_sign
cbrt-size f nan = refl
cbrt-size f (inf s) = refl
cbrt-size f (fin s zero e) = refl
cbrt-size f (fin s (suc m) e) = sym (size_of_units s f _ _)

cbrt_sign : (f : Format) (x : Float) → Floats.is_sign_negative (cbrt f x) ≡ Floats.is_sign_negative x
unfolding cbrt rounded Floats.is_sign_negative
cbrt_sign f nan = refl
cbrt_sign f (inf s) = refl
cbrt_sign f (fin s zero e) = refl
cbrt_sign f (fin s (suc m) e) = negative_units s f _ _

size_fits : (f : Format) (x : Float) → T (fits f x) → T (fits f (Floats.float_with_sign false x))
unfolding fits Floats.float_with_sign
size_fits f nan h = h
size_fits f (inf s) h = h
size_fits f (fin s zero e) h = h
size_fits f (fin s (suc m) e) h = h

signed : (f : Format) (x : Float) → T (fits f x) → Signed (Root 3 24 f) x (cbrt f x)
signed f x h = record {
  sign = cbrt_sign f x;
  size_is = λ g. subst (λ (y : Float). Root 3 24 f (Floats.float_with_sign false x) y) (cbrt-size f x) (cbrt-root f (Floats.float_with_sign false x) (size_fits f x h) g);
}

pub signed-root : (f : Format) (x r : Float) → T (fits f x) → r ≡ cbrt f x → Signed (Root 3 24 f) x r
signed-root f x r h e = subst (λ (y : Float). Signed (Root 3 24 f) x y) (sym e) (signed f x h)
