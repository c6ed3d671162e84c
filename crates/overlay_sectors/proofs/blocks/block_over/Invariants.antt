-- The edges so far lie between the numbers of the block.
use Rattle.std.proofs.Common.{◌≡◌, ◌≤◌, ◌<◌, ℕ, get_or}
use Rattle.overlay_geom.specs.Edges.{CountedEdge, ends_of}
use Rattle.overlay_order.specs.Content.{plain_edges}
use Rattle.overlay_relate.specs.Blocks.{plain_block, LiesBetween}
use Rattle.overlay_sectors.proofs.blocks.block_over.Given as goal

abbrev pub invariant-loop-n : goal.invariant-loop-n
invariant-loop-n g l =
    let whole = g.I.IntNumber.whole in
    (l.block.start ≡ l.start) × (l.block.end ≡ l.end)
    × ((m : ℕ) (d : CountedEdge) → l.start ≤ m → m < l.n → LiesBetween (plain_block whole l.block)
    (ends_of (get_or (plain_edges whole g.C.EdgeCount.counts l.edges) m d)))
