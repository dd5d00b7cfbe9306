use Rattle.std.proofs.Common.{◌≡◌, ℕ, ◌≤◌, pos, ◌-ℤ◌, neg_ℤ, sym, ◌∙◌, arith, w32, to_z, of_z}
use borrow.Author.Differences.{ints}
use Rattle.fraction.specs.Fractions.{value_of}
use Rattle.fraction.proofs.Values.{rounded_none, rounded_some}
use Rattle.fraction.proofs.fraction.Fraction.rounded.Goals as goal

up : (k : ℕ) → k ≤ 1000000 → to_z w32 k ≡ pos k
up k h = omega (arith, ints)

down : (k : ℕ) → k ≤ 1000000 → to_z w32 (of_z w32 (pos 0 -ℤ to_z w32 k)) ≡ neg_ℤ (pos k)
down k h = omega (arith, ints)

pub returns-then-k-gt1000000 : goal.returns-then-k-gt1000000
returns-then-k-gt1000000 c = rounded_none (value_of c.args.self) _ c.nearest_size-k.ensures c.if-k-gt1000000.true

pub returns-then-is_negative : goal.returns-then-is_negative
returns-then-is_negative c =
    let k = c.if-k-gt1000000.false in
    rounded_some (value_of c.args.self) _ c.nearest_size-k.ensures _ _ (sym c.if-is_negative.true ∙ c.is_negative.ensures) k (down _ k)

pub returns-else-is_negative : goal.returns-else-is_negative
returns-else-is_negative c =
    let k = c.if-k-gt1000000.false in
    rounded_some (value_of c.args.self) _ c.nearest_size-k.ensures _ _ (sym c.if-is_negative.false ∙ c.is_negative.ensures) k (up _ k)
