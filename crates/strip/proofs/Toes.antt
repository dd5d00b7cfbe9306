-- The toe of what means the inverse toe of l is l, where not lost.
use Rattle.std.proofs.Common.{◌≡◌, not, T, ◌⊎◌, sym, refl, ap, ◌∙◌, subst, inl, inr}
use Rattle.rational.specs.Algebra.{zero_of}
use Rattle.rational.specs.Rational.{Rational, exact}
use Rattle.rational.specs.Toe.{toe_inv, toe_square, toe_with, IsRoot}
use Rattle.rational.proofs.Field.{formulas, x₀, x₁}
use Rattle.rational.proofs.Toe.{toe_back_exact}
use Rattle.number.specs.Exactness.{Exactness, Radical}
use Rattle.number.specs.Meaning.{Meaning, lost, fraction, OrLost}
use Rattle.number.specs.Ops.{Ops, basic}
use Rattle.number.specs.declared.fault.Stage.TheVariants.{Toe}
use Rattle.gamut.specs.Toe.{toe}
use Rattle.strip.proofs.Told.{told_1, told_2, told_is, told_at}

-- lost, or a root of the known fraction
abbrev pub Rooted : Meaning → Rational → Type 0
Rooted m x = (m ≡ lost) ⊎ ((r : Rational) × (m ≡ fraction r) × IsRoot exact x r)

pub root_told : (root : Meaning → Meaning) → Radical root (IsRoot exact) → (m : Meaning) (x : Rational) → OrLost m x → Rooted (root m) x
root_told root R m x (inl e) = inl (ap root e ∙ R.lost_operand)
root_told root R m x (inr e) = subst (λ k. Rooted k x) (ap root (sym e)) (R.value x)

module _ (o : Ops Meaning) (E : Exactness o) where
  pub toe_told : (l : Rational) → T (not (exact.below l (zero_of exact))) → OrLost (toe o (fraction (toe_inv exact l))) l
  toe_told l g = told_at (E.mark Toe _) (go (root_told o.sqrt E.sqrt (toe_square (basic o) (fraction y)) (toe_square exact y) (told_1 o E (inr refl) (toe_square formulas x₀))))
    where
      y : Rational
      y = toe_inv exact l

      -- with any root r, which the number under the root has
      by : (r : Rational) → IsRoot exact (toe_square exact y) r → OrLost (o.sqrt (toe_square (basic o) (fraction y))) r
          → OrLost (toe_with (basic o) (fraction y) (o.sqrt (toe_square (basic o) (fraction y)))) l
      by r h k = told_is ((toe_back_exact l g).1 r h) (told_2 o E (inr refl) k (toe_with formulas x₀ x₁))

      go : Rooted (o.sqrt (toe_square (basic o) (fraction y))) (toe_square exact y) → OrLost (toe_with (basic o) (fraction y) (o.sqrt (toe_square (basic o) (fraction y)))) l
      go (inl e) = by (toe_back_exact l g).0.0 (toe_back_exact l g).0.1 (inl e)
      go (inr (r, e, h)) = by r h (inr e)
