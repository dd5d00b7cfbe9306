-- The pattern of 24 digits, or of 2 ^ 24. Assumes nothing.
use Rattle.std.proofs.Common.{sym, arith}
use Rattle.roots.proofs.Patterns.{below_infinity, written}
use Rattle.roots.proofs.pattern.rounded.Goals as goal

pub float_from_bits-result : goal.float_from_bits-result
float_from_bits-result c = below_infinity _ (omega (arith, c.requires))

pub returns : goal.returns
returns c = sym (written _ c.args.e (omega (arith, c.requires.0)) (omega (arith, c.requires.1)) c.requires.2)
