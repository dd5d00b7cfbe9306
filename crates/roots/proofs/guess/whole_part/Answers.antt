-- A number of 53 digits without its last 52 - k. Assumes nothing.
use Rattle.std.proofs.Common.{◌≡◌, ◌+◌, ◌-◌, ◌*◌, ◌^◌, sym, ◌∙◌, div-lt_iff_lt-mul, arith, pow_pos, pow-add}
use Rattle.roots.proofs.Powers.{power_at}
use Rattle.roots.proofs.guess.whole_part.Goals as goal

pub returns : goal.returns
returns c =
    let k = c.args.k in
    let e : 2 ^ (k + 1) * 2 ^ (52 - k) ≡ 2 ^ 53 = sym (pow-add 2 (k + 1) (52 - k)) ∙ power_at (k + 1 + (52 - k)) 53 (omega (arith, c.requires)) in
    (div-lt_iff_lt-mul (pow_pos (52 - k))).1 (omega arith)
