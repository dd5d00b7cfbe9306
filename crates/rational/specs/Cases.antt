-- Cases computed out of the definitions.
use Rattle.std.specs.Prelude.{◌≡◌, ℕ, T, ltb, ℤ, pos, negsuc}
use Rattle.std.proofs.Common.{ltb→lt}
use Rattle.rational.specs.Rational.{Rational, over, add, mul, div, exact}
use Rattle.rational.specs.Toe.{toe_inv, toe_square, toe_with, IsRoot}
use Rattle.rational.specs.Curve.{Three, Accepted, curve, back}
use Rattle.rational.specs.Nearest.{nearest}

-- n / d, for numerals; the last argument is `tt`
abbrev pub frac : ℤ → (d : ℕ) → T (ltb 0 d) → Rational
frac n d t = over n d (ltb→lt 0 d t)

-- three numbers of a boundary: 1/2, 1/4, 1/2
abbrev pub sample : Three Rational
sample = record { zero = frac (pos 1) 2 tt; mid = frac (pos 1) 4 tt; max = frac (pos 1) 2 tt }

pub record Cases : Type 0 where
  -- 1/6 + 1/10, 4/9 × 3/8, (−1/2) ÷ (3/4)
  pub sum : add (frac (pos 1) 6 tt) (frac (pos 1) 10 tt) ≡ frac (pos 4) 15 tt
  pub product : mul (frac (pos 4) 9 tt) (frac (pos 3) 8 tt) ≡ frac (pos 1) 6 tt
  pub quotient : div (frac (negsuc 0) 2 tt) (frac (pos 3) 4 tt) ≡ frac (negsuc 1) 3 tt
  -- the inverse toe of 1/2, the root in the toe of that, and the toe with this root
  pub inverse_toe : toe_inv exact (frac (pos 1) 2 tt) ≡ frac (pos 36359) 63918 tt
  pub root_in_toe : IsRoot exact (toe_square exact (frac (pos 36359) 63918 tt)) (frac (pos 14309) 26500 tt)
  pub toe : toe_with exact (frac (pos 36359) 63918 tt) (frac (pos 14309) 26500 tt) ≡ frac (pos 1) 2 tt
  -- 5/2 to 3, −5/2 to −3, −1/3 to 0
  pub half_up : nearest (frac (pos 5) 2 tt) ≡ pos 3
  pub half_down : nearest (frac (negsuc 4) 2 tt) ≡ negsuc 2
  pub to_zero : nearest (frac (negsuc 0) 3 tt) ≡ pos 0
  -- both pieces of a curve, there and back: saturation 2/5 has chroma 2/13, and 9/10 has 21/74
  pub accepted : Accepted exact sample
  pub lower_piece : curve exact sample (frac (pos 2) 5 tt) ≡ frac (pos 2) 13 tt
  pub upper_piece : curve exact sample (frac (pos 9) 10 tt) ≡ frac (pos 21) 74 tt
  pub lower_back : back exact sample (frac (pos 2) 13 tt) ≡ frac (pos 2) 5 tt
  pub upper_back : back exact sample (frac (pos 21) 74 tt) ≡ frac (pos 9) 10 tt
