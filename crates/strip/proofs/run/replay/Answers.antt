use Rattle.std.proofs.Common.{◌≡◌, ◌+◌, get_or, sym, ap, ◌∙◌, subst, arith}
use mathlib.Core.Path.{fun_ext}
use Rattle.std.proofs.lemmas.List.{length-set, drop-set-lt}
use Rattle.boundary.specs.Model.{modelled, answered}
use Rattle.boundary.proofs.Rules.{stays_on}
use Rattle.strip.specs.Fills.{Each}
use Rattle.strip.specs.Runs.{Made, AsModelled, shown, plainly}
use Rattle.strip.proofs.FillSteps.{drop_next, same_at, each_more, each_all, each_map}
use Rattle.strip.proofs.RunSteps.{made-shown, last_forgets}
use Rattle.strip.proofs.run.replay.Goals as goal

pub loop-call-preserved : goal.loop-call-preserved
loop-call-preserved g c =
    let n = g.N.Number in
    let b = g.B.Boundary in
    let made = Made n.means n.ops n.traced n.plain n.back (b.meaning c.args.boundary.now) in
    let i = c.loop-call.call-index in
    let calls = c.loop-call.calls in
    let x = c.call-item.result in
    let last = c.make.new.call in
    let s = c.loop-call.invariant.2 in
    let found : x ≡ get_or c.args.calls.now i x = c.call-item.is ∙ same_at i calls c.args.calls.now x c.loop-call.invariant.1 in
    let left : made x last =
    subst (λ m. Made n.means n.ops n.traced n.plain n.back m x last) s.same_meaning
    (subst (λ y. Made n.means n.ops n.traced n.plain n.back (b.meaning c.loop-call.boundary) y last) (sym c.call-item.is) c.make.ensures.value) in (
      c.loop-call.invariant.0 ∙ sym (length-set calls i last),
      drop-set-lt (i + 1) calls i last (omega arith) ∙ drop_next i calls c.args.calls.now c.loop-call.invariant.1,
      stays_on s c.make.ensures.stays,
      each_more made i c.args.calls.now calls x last c.loop-call-test.true c.loop-call.invariant.0 found left c.loop-call.invariant.3,
      (λ f. c.make.ensures.emptied (sym c.call-item.is ∙ last_forgets i c.args.calls.now x c.loop-call-test.true found f)),
    )

pub returns-clause-alike : goal.returns-clause-alike
returns-clause-alike g c =
    let n = g.N.Number in
    let b = g.B.Boundary in
    let m = b.meaning c.args.boundary.now in
    let calls = c.loop-call.calls in
    let made = Made n.means n.ops n.traced n.plain n.back m in
    let model : m ≡ modelled n.arith (b.model c.args.boundary.now) = fun_ext (λ q. g.met.B.Boundary.as_modelled c.args.boundary.now q) in
    let each : Each made c.args.calls.now calls =
    each_all made c.loop-call.call-index c.args.calls.now calls (omega arith) c.loop-call.invariant.0 c.loop-call.invariant.3 in
    subst (λ k. AsModelled n.means n.back n.arith k c.args.calls.now calls) model
    (each_map made (shown n.means n.back) (plainly n.arith m)
    (made-shown g.met.N.Number.hom n.traced n.plain n.back g.met.N.Number.again m) c.args.calls.now calls each)

pub returns-clause-queries : goal.returns-clause-queries
returns-clause-queries g c q =
    let n = g.N.Number in
    let b = g.B.Boundary in
    let model : b.meaning c.args.boundary.now ≡ modelled n.arith (b.model c.args.boundary.now) = fun_ext (λ q. g.met.B.Boundary.as_modelled c.args.boundary.now q) in
    ap (λ k. answered n.arith k q) (c.loop-call.invariant.2.same_meaning ∙ model)
