-- `sqrt_f32` meets its contract. Assumes nothing.
use Rattle.std.proofs.Common.{T, sym, refl, ◌∙◌, subst, arith}
use lib.Ieee.{binary32, fits}
use Rattle.roots.proofs.FloatRoots.{square_root}
use Rattle.roots.proofs.LeadingDigits.{square_digits, sqrt_value}
use Rattle.roots.proofs.sqrt_f32.Goals as goal

pub returns-then-is_nan : goal.returns-then-is_nan
returns-then-is_nan c = let e = c.sqrt.ensures.value in record { value = e; nearest = square_root binary32 _ _ (subst T (sym c.well_formed.0.1) tt) e }

pub returns-then-b-eq0 : goal.returns-then-b-eq0
returns-then-b-eq0 c = let e = c.sqrt-then-b-eq0.ensures.value in record { value = e; nearest = square_root binary32 _ _ (subst T (sym c.well_formed.0.1) tt) e }

pub rounded-requires : goal.rounded-requires
rounded-requires c =
    let m = c.significand-m.ensures in
    let d = square_digits _ _ _ c.square_root-q.result (omega arith, c.if-b-ge2139095040.false) m c.square_root-q.ensures in
    (d.0, d.1, omega (arith, m.2))

pub returns : goal.returns
returns c =
    let x = c.args.x in
    let h : T (fits binary32 x) = subst T (sym c.well_formed.0.1) tt in
    let e = c.rounded.ensures ∙ sym (sqrt_value _ _ _ c.square_root-q.result (omega arith, c.if-b-ge2139095040.false) c.significand-m.ensures x h refl c.square_root-q.ensures) in
    record { value = e; nearest = square_root binary32 x _ h e }
