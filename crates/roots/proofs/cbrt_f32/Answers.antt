-- `cbrt_f32` meets its contract. Assumes nothing.
use Rattle.std.proofs.Common.{T, sym, refl, ap, ◌∙◌, subst, inl, inr, arith}
use lib.Ieee.{binary32, fits}
use Rattle.std.specs.Float as Floats
use Rattle.roots.proofs.Signs.{signed-root}
use Rattle.roots.proofs.LeadingDigits.{own_nan, own-zero, own_infinity, cube_in, cube_digits, cbrt_value}
use Rattle.roots.proofs.cbrt_f32.Goals as goal

pub returns-then-is_nan : goal.returns-then-is_nan
returns-then-is_nan c =
    let e = own_nan c.args.x _ c.is_nan.ensures.value c.if-is_nan.true in
    record { value = e; nearest = signed-root binary32 _ _ (subst T (sym c.well_formed.0.1) tt) e }

pub returns-then-b-eq0 : goal.returns-then-b-eq0
returns-then-b-eq0 c =
    let x = c.args.x in
    let h : T (fits binary32 x) = subst T (sym c.well_formed.0.1) tt in
    elim c.then-b-eq0.either [
      | inl z ↦ let e = own-zero x _ h refl z in record { value = e; nearest = signed-root binary32 x _ h e }
      | inr z ↦ let e = own_infinity x _ h refl z.1 in record { value = e; nearest = signed-root binary32 x _ h e }
    ]

pub cube_root-q-requires : goal.cube_root-q-requires
cube_root-q-requires c =
    let m = c.significand-m in
    let r = cube_in m.result.0 m.result.1 (m.ensures.0, m.ensures.1) in
    (omega arith, c.cube_root.ensures)

pub rounded-requires : goal.rounded-requires
rounded-requires c =
    let m = c.significand-m.ensures in
    let d = cube_digits _ _ _ c.cube_root-q.result (omega arith, c.if-b-ge2139095040.false) m c.cube_root-q.ensures in
    (d.0, d.1, omega (arith, m.2))

pub returns : goal.returns
returns c =
    let x = c.args.x in
    let h : T (fits binary32 x) = subst T (sym c.well_formed.0.1) tt in
    let e = c.copysign.ensures ∙ ap (Floats.float_with_sign (Floats.is_sign_negative x)) c.rounded.ensures ∙ cbrt_value _ _ _ c.cube_root-q.result (omega arith, c.if-b-ge2139095040.false) c.significand-m.ensures x h refl c.cube_root-q.ensures in
    record { value = e; nearest = signed-root binary32 x _ h e }
