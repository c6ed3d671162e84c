-- The points so far are ends of the edge.
use Rattle.std.proofs.Common.{take}
use Rattle.overlay_geom.specs.Points.{plain_points}
use Rattle.overlay_order.specs.Content.{plain_edge}
use Rattle.overlay_arrange.specs.Cut.{StaysWhole}
use Rattle.overlay_arrange.proofs.cut.stays_whole.Given as goal

abbrev pub invariant-loop-v : goal.invariant-loop-v
invariant-loop-v g l = StaysWhole (plain_edge g.I.IntNumber.whole g.C.EdgeCount.counts l.e)
    (plain_points g.I.IntNumber.whole (take l.v-index l.points))
