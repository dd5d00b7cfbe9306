-- Each way out is a way of the steps; what the answer means follows from what it is.
use Rattle.std.proofs.Common.{◌≡◌, ℕ, Bool, true, false, pos, Ok, Option, refl, sym, ap, ◌∙◌, rules}
use Rattle.fault.specs.declared.faults.NumberFault.{NumberFault}
use Rattle.gamut.specs.declared.chroma.ChromaValues.{ChromaValues}
use Rattle.gamut.specs.Toe.{toe_inv}
use Rattle.number.specs.Ops.{Ops}
use Rattle.boundary.specs.Rule.{admitted}
use Rattle.oklab.specs.Checks.{refused_unless}
use Rattle.oklab.specs.Okhsl.{settled_oklab, okhsl_in_range, oklab_with, oklab_steps}
use Rattle.oklab.specs.Steps.{asks, and_then}
use Rattle.oklab.specs.declared.okhsl.Okhsl.{Okhsl}
use Rattle.oklab.proofs.Carries.{ended, asked}
use Rattle.oklab.proofs.OkhslMeans.{oklab_steps-carried}
use Rattle.oklab.proofs.okhsl.okhsl_to_oklab.Goals as goal

-- A check that is passed holds.
passed : (b : Bool) (f : NumberFault) → Ok tt ≡ refused_unless b f → b ≡ true
passed true f e = refl
passed false f e = absurd cc

-- A colour that is neither white nor black asks a query.
asks_query : {N : Type 0} (o : Ops N) (traced : N → Option (ℕ × ℕ)) (c : Okhsl N) → okhsl_in_range o traced c ≡ true → o.direction c.hue.a c.hue.b ≡ true
    → o.eq c.lightness (o.whole (pos 1)) ≡ false → o.eq c.lightness (o.whole (pos 0)) ≡ false
    → oklab_steps o traced c ≡ asks (record { lightness = toe_inv o c.lightness; hue = c.hue })
    (λ v. and_then (admitted o traced (toe_inv o c.lightness) v) (λ w. settled_oklab o traced (oklab_with o traced c (toe_inv o c.lightness) w)))
unfolding oklab_steps
asks_query o traced c ranged directed not_white not_black = rw (ranged, directed, not_white, not_black)

pub returns-in_err-check_range : goal.returns-in_err-check_range
unfolding oklab_steps
returns-in_err-check_range g c =
    let v = ended (oklab_steps-carried g.met.N.Number.hom g.N.Number.traced c.args.color) (g.B.Boundary.meaning c.args.boundary.now) c.from_residual.result (search rules) in
    record { value = v.0; meaning = v.1; stays = search rules }

pub returns-in_err-check_direction : goal.returns-in_err-check_direction
unfolding oklab_steps
returns-in_err-check_direction g c =
    let v = ended (oklab_steps-carried g.met.N.Number.hom g.N.Number.traced c.args.color) (g.B.Boundary.meaning c.args.boundary.now) c.from_residual-in_err-check_direction.result (search rules) in
    record { value = v.0; meaning = v.1; stays = search rules }

pub returns-then-eq : goal.returns-then-eq
unfolding oklab_steps
returns-then-eq g c =
    let v = ended (oklab_steps-carried g.met.N.Number.hom g.N.Number.traced c.args.color) (g.B.Boundary.meaning c.args.boundary.now) c.settled.result (search rules) in
    record { value = v.0; meaning = v.1; stays = search rules }

pub returns-then-eq-2 : goal.returns-then-eq-2
unfolding oklab_steps
returns-then-eq-2 g c =
    let v = ended (oklab_steps-carried g.met.N.Number.hom g.N.Number.traced c.args.color) (g.B.Boundary.meaning c.args.boundary.now) c.settled-then-eq-2.result (search rules) in
    record { value = v.0; meaning = v.1; stays = search rules }

pub returns-in_err-values : goal.returns-in_err-values
unfolding oklab_steps
returns-in_err-values g c =
    let n = g.N.Number in
    let r = c.from_residual-in_err-values.result in
    let l = c.toe_inv-l.result in
    let next = λ (l : g.row.N.Denot) (w : ChromaValues g.row.N.Denot). settled_oklab n.ops n.traced (oklab_with n.ops n.traced c.args.color l w) in
    let query = λ (l : g.row.N.Denot). asks (record { lightness = l; hue = c.args.color.hue }) (λ v. and_then (admitted n.ops n.traced l v) (next l)) in
    let e : oklab_steps n.ops n.traced c.args.color ≡ query (toe_inv n.ops c.args.color.lightness) = asks_query n.ops n.traced c.args.color (passed _ _ c.in_ok-check_range.ensures) (passed _ _ c.in_ok-check_direction.ensures) (search rules) (search rules) in
    let answered : r ≡ and_then c.query.result (next l) = search rules in
    let v = asked (oklab_steps-carried g.met.N.Number.hom n.traced c.args.color) (g.B.Boundary.meaning c.args.boundary.now) n.ops n.traced (next l) r (e ∙ ap query (sym c.toe_inv-l.ensures.value)) c.query.ensures.gives answered in
    record { value = v.0; meaning = v.1; stays = c.query.ensures.stays }

pub returns : goal.returns
unfolding oklab_steps
returns g c =
    let n = g.N.Number in
    let r = c.settled-2.result in
    let l = c.toe_inv-l.result in
    let next = λ (l : g.row.N.Denot) (w : ChromaValues g.row.N.Denot). settled_oklab n.ops n.traced (oklab_with n.ops n.traced c.args.color l w) in
    let query = λ (l : g.row.N.Denot). asks (record { lightness = l; hue = c.args.color.hue }) (λ v. and_then (admitted n.ops n.traced l v) (next l)) in
    let e : oklab_steps n.ops n.traced c.args.color ≡ query (toe_inv n.ops c.args.color.lightness) = asks_query n.ops n.traced c.args.color (search rules) (search rules) (search rules) (search rules) in
    let answered : r ≡ and_then c.query.result (next l) = search rules in
    let v = asked (oklab_steps-carried g.met.N.Number.hom n.traced c.args.color) (g.B.Boundary.meaning c.args.boundary.now) n.ops n.traced (next l) r (e ∙ ap query (sym c.toe_inv-l.ensures.value)) c.query.ensures.gives answered in
    record { value = v.0; meaning = v.1; stays = c.query.ensures.stays }
