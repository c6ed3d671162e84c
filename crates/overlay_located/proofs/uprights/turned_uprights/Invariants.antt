-- The upright edges so far and those among the edges to come make the whole.
use Rattle.std.proofs.Common.{◌≡◌, ◌++◌, drop}
use Rattle.overlay_geom.specs.Resolved.{plain_edges}
use Rattle.overlay_located.specs.Once.{turned_uprights}
use Rattle.overlay_located.proofs.uprights.turned_uprights.Given as goal

abbrev pub invariant-loop-number : goal.invariant-loop-number
invariant-loop-number g l =
    let plain = plain_edges g.I.IntNumber.whole in
    plain l.uprights.items ++ turned_uprights (plain (drop l.number l.edges)) ≡ turned_uprights (plain l.edges)
