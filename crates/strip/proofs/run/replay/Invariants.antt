use Rattle.std.proofs.Common.{◌≡◌, length, take, drop}
use Rattle.boundary.specs.Model.{Stays}
use Rattle.strip.specs.Fills.{Each}
use Rattle.strip.specs.Runs.{Made, EndsForgetting}
use Rattle.strip.proofs.run.replay.Given as goal

-- The calls before the index are made, those from it on are as they were, the boundary stays, and is fresh after a forget.
abbrev pub invariant-loop-call : goal.invariant-loop-call
invariant-loop-call g l =
    let n = g.N.Number in
    let b = g.B.Boundary in
    (length l.initial.calls ≡ length l.calls)
    × (drop l.call-index l.calls ≡ drop l.call-index l.initial.calls)
    × Stays b.meaning b.model l.initial.boundary l.boundary
    × (Each (Made n.means n.ops n.traced n.plain n.back (b.meaning l.initial.boundary)) (take l.call-index l.initial.calls) (take l.call-index l.calls))
    × (EndsForgetting (take l.call-index l.initial.calls) → b.fresh l.boundary)
