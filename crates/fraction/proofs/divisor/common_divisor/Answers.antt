use Rattle.std.proofs.Common.{◌<◌, sym, ◌∙◌, subst, arith}
use Rattle.rational.specs.Gcd.{gcd_above}
use Rattle.fraction.proofs.Divisors.{gcd-zero, gcd-step}
use Rattle.fraction.proofs.divisor.common_divisor.Goals as goal

pub loop-b-preserved : goal.loop-b-preserved
loop-b-preserved c = sym (gcd-step c.loop-b.a c.loop-b.b (omega arith)) ∙ c.loop-b.invariant

pub returns : goal.returns
returns c =
    let e = sym (gcd-zero c.loop-b.a) ∙ rw c.loop-b-test.false at c.loop-b.invariant in
    record { value = e; above = λ h. subst (λ z. 0 < z) (sym e) (gcd_above c.args.x c.args.y h) }
