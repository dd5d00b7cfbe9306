-- Each way out is a way of the steps; what the answer means follows from what it is.
use Rattle.std.proofs.Common.{◌≡◌, ℕ, true, false, Option, sym, ap, ◌∙◌, rules}
use Rattle.gamut.specs.declared.chroma.ChromaValues.{ChromaValues}
use Rattle.gamut.specs.declared.oklab.Oklab.{Oklab}
use Rattle.number.specs.Formulas.{hypot}
use Rattle.number.specs.Ops.{Ops}
use Rattle.boundary.specs.Rule.{admitted}
use Rattle.oklab.specs.Hues.{direction_with}
use Rattle.oklab.specs.Okhsl.{settled_okhsl, oklab_in_range, is_grey, okhsl_with, okhsl_steps}
use Rattle.oklab.specs.Steps.{asks, and_then}
use Rattle.oklab.proofs.Carries.{ended, asked}
use Rattle.oklab.proofs.Chromatics.{chromatic_accepted}
use Rattle.oklab.proofs.OkhslMeans.{okhsl_steps-carried}
use Rattle.oklab.proofs.okhsl.oklab_to_okhsl.Goals as goal

-- A colour that is no grey asks a query.
asks_query : {N : Type 0} (o : Ops N) (traced : N → Option (ℕ × ℕ)) (c : Oklab N) → oklab_in_range o traced c ≡ true → o.spoiled (hypot o c.a c.b) ≡ false
    → is_grey o traced c (hypot o c.a c.b) ≡ false
    → okhsl_steps o traced c ≡ asks (record { lightness = c.l; hue = direction_with o c (hypot o c.a c.b) })
    (λ v. and_then (admitted o traced c.l v) (λ w. settled_okhsl o traced (okhsl_with o traced c (hypot o c.a c.b) w)))
unfolding okhsl_steps
asks_query o traced c ranged kept coloured = rw (ranged, kept, coloured)

pub returns-in_err-chromatic : goal.returns-in_err-chromatic
unfolding okhsl_steps
returns-in_err-chromatic g c =
    let v = ended (okhsl_steps-carried g.met.N.Number.hom g.N.Number.traced c.args.color) (g.B.Boundary.meaning c.args.boundary.now) c.from_residual.result (search rules) in
    record { value = v.0; meaning = v.1; stays = search rules }

pub returns-then-is_grey : goal.returns-then-is_grey
unfolding okhsl_steps
returns-then-is_grey g c =
    let n = g.N.Number in
    let known = chromatic_accepted n.ops n.traced c.args.color c.of.result c.of.ensures c.in_ok-chromatic.was in
    let v = ended (okhsl_steps-carried g.met.N.Number.hom g.N.Number.traced c.args.color) (g.B.Boundary.meaning c.args.boundary.now) c.settled.result (search rules) in
    record { value = v.0; meaning = v.1; stays = search rules }

pub returns-in_err-values : goal.returns-in_err-values
unfolding okhsl_steps
returns-in_err-values g c =
    let n = g.N.Number in
    let r = c.from_residual-in_err-values.result in
    let k = c.in_ok-chromatic.chromatic in
    let known = chromatic_accepted n.ops n.traced c.args.color c.of.result c.of.ensures c.in_ok-chromatic.was in
    let next = λ (x : g.row.N.Denot) (w : ChromaValues g.row.N.Denot). settled_okhsl n.ops n.traced (okhsl_with n.ops n.traced c.args.color x w) in
    let query = λ (x : g.row.N.Denot). asks (record { lightness = c.args.color.l; hue = direction_with n.ops c.args.color x }) (λ v. and_then (admitted n.ops n.traced c.args.color.l v) (next x)) in
    let e : okhsl_steps n.ops n.traced c.args.color ≡ query (hypot n.ops c.args.color.a c.args.color.b) = asks_query n.ops n.traced c.args.color (search rules) (search rules) (search rules) in
    let answered : r ≡ and_then c.query.result (next k.chroma) = search rules in
    let v = asked (okhsl_steps-carried g.met.N.Number.hom n.traced c.args.color) (g.B.Boundary.meaning c.args.boundary.now) n.ops n.traced (next k.chroma) r (rw (c.hue-hue.ensures, known.color) (e ∙ ap query (sym known.chroma))) c.query.ensures.gives answered in
    record { value = v.0; meaning = v.1; stays = c.query.ensures.stays }

pub returns : goal.returns
unfolding okhsl_steps
returns g c =
    let n = g.N.Number in
    let r = c.settled-2.result in
    let k = c.in_ok-chromatic.chromatic in
    let known = chromatic_accepted n.ops n.traced c.args.color c.of.result c.of.ensures c.in_ok-chromatic.was in
    let next = λ (x : g.row.N.Denot) (w : ChromaValues g.row.N.Denot). settled_okhsl n.ops n.traced (okhsl_with n.ops n.traced c.args.color x w) in
    let query = λ (x : g.row.N.Denot). asks (record { lightness = c.args.color.l; hue = direction_with n.ops c.args.color x }) (λ v. and_then (admitted n.ops n.traced c.args.color.l v) (next x)) in
    let e : okhsl_steps n.ops n.traced c.args.color ≡ query (hypot n.ops c.args.color.a c.args.color.b) = asks_query n.ops n.traced c.args.color (search rules) (search rules) (search rules) in
    let answered : r ≡ and_then c.query.result (next k.chroma) = search rules in
    let v = asked (okhsl_steps-carried g.met.N.Number.hom n.traced c.args.color) (g.B.Boundary.meaning c.args.boundary.now) n.ops n.traced (next k.chroma) r (rw (c.hue-hue.ensures, known.color) (e ∙ ap query (sym known.chroma))) c.query.ensures.gives answered in
    record { value = v.0; meaning = v.1; stays = c.query.ensures.stays }
