-- The edges before the place lie in the blocks so far.
use Rattle.std.proofs.Common.{◌-◌, length}
use Rattle.overlay_order.specs.Content.{plain_edges}
use Rattle.overlay_given.proofs.HeightBlocks.{AreBlocksTo}
use Rattle.overlay_given.proofs.heights.block_heights.Given as goal

abbrev pub invariant-loop-at : goal.invariant-loop-at
invariant-loop-at g l =
    AreBlocksTo g.I.IntNumber.whole (plain_edges g.I.IntNumber.whole g.C.EdgeCount.counts l.edges) (length l.edges) l.at
    l.blocks.items

abbrev pub decreases-loop-at : goal.decreases-loop-at
decreases-loop-at g l = length l.edges - l.at
