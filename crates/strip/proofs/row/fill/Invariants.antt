use Rattle.std.proofs.Common.{◌≡◌, length, take, drop}
use Rattle.boundary.specs.Model.{Stays}
use Rattle.strip.specs.Fills.{Answering, Written}
use Rattle.strip.proofs.row.fill.Given as goal

-- The entries before i are written, those from i on are as they were, and the boundary stays.
abbrev pub invariant-loop-i : goal.invariant-loop-i
invariant-loop-i g l =
    let b = g.B.Boundary in
    (length l.from ≡ length l.to)
    × (drop l.i l.to ≡ drop l.i l.initial.to)
    × Stays b.meaning b.model l.initial.boundary l.boundary
    × (Written (Answering g.N.Number.means (b.meaning l.initial.boundary) g.T.Turn.steps) (take l.i l.from) (take l.i l.to))
