-- The edge crosses none of those so far.
use Rattle.std.proofs.Common.{◌-◌, ◌<◌, length}
use Rattle.overlay_order.specs.Content.{plain_edges}
use Rattle.overlay_given.proofs.UncrossedEdges.{CrossesNoneUpTo}
use Rattle.overlay_given.proofs.uncrossed.crosses_none_in_run.Given as goal

abbrev pub invariant-loop-j : goal.invariant-loop-j
invariant-loop-j g l =
    (l.i < l.j) × CrossesNoneUpTo (plain_edges g.I.IntNumber.whole g.C.EdgeCount.counts l.edges) l.i l.j

abbrev pub decreases-loop-j : goal.decreases-loop-j
decreases-loop-j g l = length l.edges - l.j
