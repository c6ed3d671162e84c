-- The blocks so far are blocks of the edges, and the start of the next one comes nearer to their end.
use Rattle.std.proofs.Common.{◌-◌, length}
use Rattle.std.specs.List.{All}
use Rattle.overlay_order.specs.Content.{plain_edges}
use Rattle.overlay_relate.specs.Blocks.{plain_blocks}
use Rattle.overlay_sectors.specs.Blocks.{IsBlockOf}
use Rattle.overlay_sectors.proofs.blocks.blocks_over.Given as goal

abbrev pub invariant-loop-start : goal.invariant-loop-start
invariant-loop-start g l =
    let whole = g.I.IntNumber.whole in
    All (IsBlockOf (plain_edges whole g.C.EdgeCount.counts l.edges)) (plain_blocks whole l.blocks.items)

abbrev pub decreases-loop-start : goal.decreases-loop-start
decreases-loop-start g l = length l.edges - l.start
