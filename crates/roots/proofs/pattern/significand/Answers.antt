-- The 24 digits of a subnormal and of a normal float. Assumes nothing.
use Rattle.std.proofs.Common.{refl, arith}
use Rattle.roots.proofs.Patterns.{shift_in, lifted, normal}
use Rattle.roots.proofs.pattern.significand.Goals as goal

pub overflow_sub-shift : goal.overflow_sub-shift
overflow_sub-shift c = omega (arith, shift_in c.args.b c.requires.0 c.if-b-lt8388608.true)

pub returns-then-b-lt8388608 : goal.returns-then-b-lt8388608
returns-then-b-lt8388608 c = lifted c.args.b _ c.requires.0 c.if-b-lt8388608.true refl

pub returns-else-b-lt8388608 : goal.returns-else-b-lt8388608
returns-else-b-lt8388608 c = normal c.args.b c.requires.1 c.if-b-lt8388608.false
