-- The edges are those of the walks so far.
use Rattle.std.proofs.Common.{map}
use Rattle.overlay_walk.specs.GroupedContours.{walk_of}
use Rattle.overlay_walk.specs.Steps.{filled_hand}
use Rattle.overlay_walk.specs.WalkEdges.{numbered_entries}
use Rattle.overlay_extract.proofs.FilledEntries.{HaveFilled}
use Rattle.overlay_extract.proofs.binding.filled_above_edges.edges_walk_by_walk.Given as goal

abbrev pub invariant-loop-i : goal.invariant-loop-i
invariant-loop-i g l =
    HaveFilled (filled_hand l.direction) (map (walk_of g.I.IntNumber.whole) l.contours) l.i
    (numbered_entries g.I.IntNumber.whole l.edges.items)
