-- The edges so far have their boxes.
use Rattle.std.proofs.Common.{◌≡◌, take}
use Rattle.overlay_order.specs.Content.{plain_edges}
use Rattle.overlay_pairs.specs.Extents.{extents_of, plain_extents}
use Rattle.overlay_pairs.proofs.strips.extents_of_edges.Given as goal

abbrev pub invariant-loop-place : goal.invariant-loop-place
invariant-loop-place g l = plain_extents g.I.IntNumber.whole l.extents.items
    ≡ extents_of (plain_edges g.I.IntNumber.whole g.C.EdgeCount.counts (take l.place l.edges))
