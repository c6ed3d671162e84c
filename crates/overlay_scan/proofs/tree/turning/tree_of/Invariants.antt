-- The tree holds the edges so far.
use Rattle.std.proofs.Common.{take}
use Rattle.overlay_scan.specs.Turning.{IsTreeOf}
use Rattle.overlay_scan.proofs.tree.turning.tree_of.Given as goal

abbrev pub invariant-loop-edge : goal.invariant-loop-edge
invariant-loop-edge g l = IsTreeOf g.I.IntNumber.whole g.I.IntNumber.limit (g.I.IntNumber.whole l.x)
    (take l.edge-index l.edges) l.tree
