use Rattle.std.proofs.Common.{T, rules}
use lib.Ieee.{fits, binary32}
use Rattle.number.specs.SameFloats.{same_bits}
use Rattle.number.proofs.float32.F32Number.same.Goals as goal

pub returns : goal.returns
returns c =
    let p : T (fits binary32 c.args.self) = search rules in
    let q : T (fits binary32 c.args.other) = search rules in
    rw (c.f32_to_bits_with_nan.ensures, c.f32_to_bits_with_nan-2.ensures) (same_bits binary32 _ _ p q)
