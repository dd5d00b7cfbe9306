-- A guess of at most 25 digits. Assumes nothing.
use Rattle.std.proofs.Common.{◌+◌, ◌^◌, ◌≤◌, arith, pow_mono}
use Rattle.roots.proofs.guess.Leading.cube_root.Goals as goal

pub returns : goal.returns
returns c =
    let k = c.args.k in
    let e : 2 ^ (k + 1) ≤ 2 ^ 25 = pow_mono {i = k + 1} {j = 25} (omega (arith, c.requires.power)) in
    omega (arith, c.whole_part.ensures)
