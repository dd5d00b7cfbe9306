-- The root of a fraction from those of its two numbers.
use Rattle.std.proofs.Common.{◌≡◌, ℕ, ◌<◌, Bool, true, false, not, nat_abs, Some, sym, refl, ◌∙◌}
use lib.Signed.{non_neg}
use Rattle.std.specs.Bool.{then_some}
use Rattle.std.proofs.lemmas.Bool.{and_from}
use Rattle.rational.specs.Rational.{Rational, num, den}
use Rattle.rational.specs.Parts.{Is}
use Rattle.number.specs.Meaning.{fraction}
use Rattle.fraction.specs.Bounded.{is_power, whole_root, root}
use Rattle.fraction.specs.Degrees.{exact_root}
use Rattle.fraction.specs.Fractions.{with_sign}
use Rattle.fraction.specs.Packs.{Within}
use Rattle.fraction.specs.Roots.{root_of, root_is}
use Rattle.fraction.proofs.Signs.{signed_sign}

some_root : (k n w : ℕ) → exact_root k n ≡ Some w → (is_power k n ≡ true) × (whole_root k n ≡ w)
some_root k n w e = go (is_power k n) e
  where
    go : (b : Bool) → then_some b (whole_root k n) ≡ Some w → (b ≡ true) × (whole_root k n ≡ w)
    go true e = (refl, cc)
    go false e = (cc, cc)

pub record Rooted (k : ℕ) (x : Rational) (s : Bool) (n d : ℕ) : Type 0 where
  pub value : Rational
  pub root_is : root k x ≡ fraction value
  pub parts : Is value (with_sign s n) d
  pub within : Within x → Within value

pub rooted : (k : ℕ) (x : Rational) (s : Bool) (n d : ℕ) → 0 < k → s ≡ not (non_neg (num x)) → exact_root k (nat_abs (num x)) ≡ Some n → exact_root k (den x) ≡ Some d → Rooted k x s n d
rooted k x s n d K e f g =
    let p = some_root k (nat_abs (num x)) n f in
    let q = some_root k (den x) d g in
    let t = and_from (is_power k (nat_abs (num x))) (is_power k (den x)) p.0 q.0 in
    let y = root_of k x K t in
    record {
      value = y.0;
      root_is = root_is k x K t;
      parts = (y.1.is.0 ∙ signed_sign (num x) _ ∙ (λ i. with_sign (sym e i) (p.1 i)), y.1.is.1 ∙ q.1);
      within = y.1.within;
    }
