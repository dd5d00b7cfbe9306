-- The first 53 digits of a number of 64 bits. Assumes nothing.
use Rattle.std.proofs.Common.{refl, arith}
use Rattle.roots.proofs.Patterns.{whole_digits}
use Rattle.roots.proofs.pattern.leading.Goals as goal

pub invariant_of-result : goal.invariant_of-result
invariant_of-result c = let d = whole_digits c.args.n _ c.requires (omega arith) refl in record { low = d.0; high = d.1 }
