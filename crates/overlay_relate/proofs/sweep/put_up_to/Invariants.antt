-- The edges so far are put in, and told of.
use Rattle.std.proofs.Common.{◌≡◌, ◌≤◌, length}
use Rattle.overlay_scan.specs.Scan.{MayMoveTo}
use Rattle.overlay_relate.specs.Sweeps.{wide_edges, AreOfContour, AreByStart, AreTold, IsSwept}
use Rattle.overlay_relate.proofs.sweep.put_up_to.Given as goal

abbrev pub invariant-loop-i : goal.invariant-loop-i
invariant-loop-i g l =
    let whole = g.I.IntNumber.whole in
    let fs = wide_edges whole l.edges in
    (length l.inside.items ≡ l.i)
    × (length l.inside.items ≤ length l.edges)
    × MayMoveTo (whole l.x) (g.S.Scan.content l.scan)
    × IsSwept g.I.IntNumber.limit fs (length l.inside.items) (g.S.Scan.content l.scan)
    × ((es : _) → AreOfContour es → AreByStart es fs → AreTold es fs l.initial.inside.items →
    AreTold es fs l.inside.items)
