-- What the table of literals holds.
use Rattle.std.proofs.Common.{◌≡◌, ℕ, ◌<◌, Bool, true, false, cond, ℤ, pos, nat_abs, Some, None, Option, sym, refl, ap, ap₂, ◌∙◌, subst, w64, to_z, of_z}
use lib.Signed.{lt_z}
use Rattle.rational.specs.Gcd.{gcd}
use Rattle.rational.specs.Rational.{Rational, num, den}
use Rattle.rational.specs.Parts.{Is}
use Rattle.number.specs.Meaning.{lost}
use Rattle.fraction.specs.Bounded.{fits, kept, constant}
use Rattle.fraction.specs.Bounds.{fits_within}
use Rattle.fraction.specs.Fractions.{with_sign}
use Rattle.fraction.proofs.Casts.{passed}
use Rattle.fraction.proofs.Signs.{sign_below}

pub table_lost : (x : Rational) → cond {A = Option (ℤ × ℕ)} (fits x) (Some (num x, den x)) None ≡ None → constant x ≡ lost
table_lost x e = go (fits x) e
  where
    go : (b : Bool) → cond {A = Option (ℤ × ℕ)} b (Some (num x, den x)) None ≡ None → kept b x ≡ lost
    go true e = cc
    go false e = refl

-- the two numbers of an entry, and the size of the first
pub record Entry (x : Rational) (n : ℤ) (s d : ℕ) : Type 0 where
  pub parts : Is x (with_sign (lt_z (to_z w64 (of_z w64 n)) (pos 0)) s) d
  pub positive : 0 < d
  pub lowest : gcd s d ≡ 1

pub entry : (x : Rational) (n : ℤ) (s d : ℕ) → cond {A = Option (ℤ × ℕ)} (fits x) (Some (num x, den x)) None ≡ Some (n, d) → s ≡ nat_abs (to_z w64 (of_z w64 n)) → Entry x n s d
entry x n s d e f = go (fits x) refl e
  where
    the_entry : {p q : ℤ × ℕ} → Some p ≡ Some q → p ≡ q
    the_entry e = cc

    go : (b : Bool) → fits x ≡ b → cond {A = Option (ℤ × ℕ)} b (Some (num x, den x)) None ≡ Some (n, d) → Entry x n s d
    go false h e = cc
    go true h e =
        let upper : num x ≡ n = ap (λ p. p.0) (the_entry e) in
        let lower : den x ≡ d = ap (λ p. p.1) (the_entry e) in
        let through : to_z w64 (of_z w64 n) ≡ num x = ap (λ k. to_z w64 (of_z w64 k)) (sym upper) ∙ passed (num x) (fits_within x h).upper in
        let size : s ≡ nat_abs (num x) = f ∙ ap nat_abs through in
        record {
          parts = (sym (sign_below (num x)) ∙ sym (λ i. with_sign (lt_z (through i) (pos 0)) (size i)), lower);
          positive = subst (λ k. 0 < k) lower x.ratio.above;
          lowest = ap₂ gcd size (sym lower) ∙ x.lowest;
        }
