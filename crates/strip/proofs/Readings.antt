-- The exact numbers of a reading: saturation, lightness and direction, and the way back from them.
use Rattle.std.proofs.Common.{◌≡◌, ℕ, zero, suc, ◌+◌, ◌-◌, ◌*◌, ◌/◌, ◌≤◌, cond, not, T, leb, ℤ, pos, Some, None, sym, refl, ap, ◌∙◌, subst, inl, inr, arith, le-leb}
use Rattle.rational.specs.Curve.{Three, UnitRange}
use Rattle.rational.specs.Gcd.{gcd}
use Rattle.rational.specs.Nearest.{nearest}
use Rattle.rational.specs.Rational.{Rational, exact, lit, reduce, computes}
use Rattle.rational.proofs.Field.{forms, whole_above}
use Rattle.rational.proofs.Order.{Above, Least, gt0, ge0, free, end, equal!, equal_by!, above!, least!, of_least, not_above_zero, minus_zero}
use Rattle.rational.proofs.Ratios.{same_parts}
use Rattle.rational.proofs.Rationals.{rational_field}
use Rattle.rational.proofs.Ring.{[], ◌∷◌, ring!, ring_by!, reads}
use Rattle.number.specs.Exactness.{nearest_of}
use Rattle.gamut.specs.declared.direction.Direction.{Direction}
use Rattle.strip.specs.Strip.{expansion, four_way, mixing, direction_of}

abbrev # : ℕ → Rational
# n = exact.lit (pos n) 0

-- z ÷ n
abbrev pub ratio_x : ℤ → ℕ → Rational
ratio_x z n = exact.div (exact.lit z 0) (exact.lit (pos n) 0)

whole_least : (n : ℕ) → Least exact (# n)
whole_least zero = inr refl
whole_least (suc n) = inl (whole_above rational_field n)

sum : (k n : ℕ) → # (k + n) ≡ exact.add (# k) (# n)
sum k n = rational_field.laws.lit_add (pos k) (pos n)

pub not_below_0 : (x : Rational) → Least exact x → T (not (exact.below x (# 0)))
not_below_0 x h = of_least rational_field x (# 0) (subst (Least exact) (sym (minus_zero rational_field x)) h)

-- n ÷ d with what is left to 1
rest : (d k n : Rational) → Above exact d → exact.add k n ≡ d → exact.sub (# 1) (exact.div n d) ≡ exact.div k d
rest d k n h e = equal_by! rational_field (gt0 d h (free k (free n end))) (exact.neg d) e (search (forms, reads) depth 30) tt refl

-- ---- saturation and lightness

pub saturation_range : (c : Three Rational) (n : ℕ) → n ≤ 1000 → UnitRange exact c (ratio_x (pos n) 1000)
saturation_range c n h = (
  not_below_0 (ratio_x (pos n) 1000) (least! rational_field (ge0 (# n) (whole_least n) end) (search forms depth 30) tt),
  of_least rational_field (# 1) (ratio_x (pos n) 1000) (subst (Least exact) (sym (rest (# 1000) (# (1000 - n)) (# n) (whole_above rational_field 999) fill))
      (least! rational_field (ge0 (# (1000 - n)) (whole_least (1000 - n)) end) (search forms depth 30) tt)),
)
  where
    all : (1000 - n) + n ≡ 1000
    all = omega arith

    fill : exact.add (# (1000 - n)) (# n) ≡ # 1000
    fill = sym (sum (1000 - n) n) ∙ ap # all

pub saturation_above : (n : ℕ) → Above exact (ratio_x (pos (suc n)) 1000)
saturation_above n = above! rational_field (gt0 (# (suc n)) (whole_above rational_field n) end) (search forms depth 30) tt

pub saturation-zero : ratio_x (pos 0) 1000 ≡ # 0
unfolding computes
saturation-zero = same_parts refl refl

pub lightness_above : (t : ℕ) → Above exact (ratio_x (pos (10 + t)) 120)
lightness_above t = subst (λ x. Above exact (exact.div x (# 120))) (sym (sum 10 t)) (above! rational_field (ge0 (# t) (whole_least t) end) (search forms depth 30) tt)

pub lightness_not_0 : (t : ℕ) → ¬ (ratio_x (pos (10 + t)) 120 ≡ # 0)
lightness_not_0 t e = not_above_zero rational_field (subst (Above exact) e (lightness_above t))

pub lightness_not_1 : (t : ℕ) → t ≤ 100 → ¬ (ratio_x (pos (10 + t)) 120 ≡ # 1)
lightness_not_1 t h e = not_above_zero rational_field (subst (Above exact) (left ∙ ap (exact.sub (# 1)) e ∙ ring! rational_field.laws [] (search reads) refl)
    (above! rational_field (ge0 (# (100 - t)) (whole_least (100 - t)) end) (search forms depth 30) tt))
  where
    all : (100 - t) + 10 + (10 + t) ≡ 120
    all = omega arith

    fill : exact.add (exact.add (# (100 - t)) (# 10)) (# (10 + t)) ≡ # 120
    fill = ap (λ x. exact.add x (# (10 + t))) (sym (sum (100 - t) 10)) ∙ sym (sum ((100 - t) + 10) (10 + t)) ∙ ap # all

    left : exact.div (exact.add (# (100 - t)) (# 10)) (# 120) ≡ exact.sub (# 1) (ratio_x (pos (10 + t)) 120)
    left = sym (rest (# 120) (exact.add (# (100 - t)) (# 10)) (# (10 + t)) (whole_above rational_field 119) fill)

-- ---- and back

pub opening_back : (n : ℕ) → exact.mul (# 1000) (ratio_x (pos n) 1000) ≡ # n
opening_back n = equal! rational_field (free (# n) end) (search forms depth 30) tt refl

pub temperature_back : (t : ℕ) → exact.sub (exact.mul (# 120) (ratio_x (pos (10 + t)) 120)) (# 10) ≡ # t
temperature_back t = ap (λ x. exact.sub (exact.mul (# 120) (exact.div x (# 120))) (# 10)) (sum 10 t) ∙ equal! rational_field (free (# t) end) (search forms depth 30) tt refl

-- the nearest whole number of a whole number is that number
pub nearest-whole : (n : ℕ) → n ≤ 1000000 → nearest_of (# n) ≡ Some (pos n)
unfolding nearest lit reduce gcd
nearest-whole n h = ap (λ k. cond (leb k 1000000) (Some (pos k)) None) itself ∙ ap (λ b. cond b (Some (pos n)) None) (le-leb n 1000000 h)
  where
    itself : (2 * (n / 1) + 1) / 2 ≡ n
    itself = omega arith

-- ---- directions

-- a × a' + b × b'
abbrev pub along_x : Direction Rational → Direction Rational → Rational
along_x d e = exact.add (exact.mul d.a e.a) (exact.mul d.b e.b)

abbrev pub largest_x : Rational → Rational → Rational → ℕ
largest_x x y z = cond (exact.below x y) (cond (exact.below y z) 3 2) (cond (exact.below x z) 3 1)

-- a valve's direction has size 1, and its product with itself is the largest
pub record Fit (v : ℕ) : Type 0 where
  pub unit : along_x (direction_of ratio_x v) (direction_of ratio_x v) ≡ # 1
  pub chosen : largest_x (along_x (direction_of ratio_x v) (expansion ratio_x)) (along_x (direction_of ratio_x v) (four_way ratio_x)) (along_x (direction_of ratio_x v) (mixing ratio_x)) ≡ v

fit_1 : Fit 1
unfolding computes
fit_1 = record { unit = same_parts refl refl; chosen = refl }

fit_2 : Fit 2
unfolding computes
fit_2 = record { unit = same_parts refl refl; chosen = refl }

fit_3 : Fit 3
unfolding computes
fit_3 = record { unit = same_parts refl refl; chosen = refl }

pub fit : (v : ℕ) → 1 ≤ v → v ≤ 3 → Fit v
fit zero h k = absurd (omega arith)
fit (suc zero) h k = fit_1
fit (suc (suc zero)) h k = fit_2
fit (suc (suc (suc zero))) h k = fit_3
fit (suc (suc (suc (suc v)))) h k = absurd (omega arith)

-- the squares of a direction times c
pub stretched : (c x y : Rational) → exact.add (exact.mul x x) (exact.mul y y) ≡ # 1
    → exact.add (exact.mul (exact.mul c x) (exact.mul c x)) (exact.mul (exact.mul c y) (exact.mul c y)) ≡ exact.mul c c
stretched c x y e = ring_by! rational_field.laws (c ∷ x ∷ y ∷ []) (exact.mul c c) e (search reads depth 30) refl

pub unstretched : (c x : Rational) → Above exact c → exact.div (exact.mul c x) c ≡ x
unstretched c x h = equal! rational_field (gt0 c h (free x end)) (search forms depth 30) tt refl
