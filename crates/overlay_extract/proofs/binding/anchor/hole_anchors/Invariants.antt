-- The anchors are those of the holes so far.
use Rattle.std.proofs.Common.{map}
use Rattle.overlay_walk.specs.GroupedContours.{walk_of}
use Rattle.overlay_walk.specs.WalkEdges.{numbered_entries}
use Rattle.overlay_extract.proofs.HoleEntries.{HaveHoles}
use Rattle.overlay_extract.proofs.binding.anchor.hole_anchors.Given as goal

abbrev pub invariant-loop-i : goal.invariant-loop-i
invariant-loop-i g l =
    HaveHoles (map (walk_of g.I.IntNumber.whole) l.contours) l.known l.i
    (numbered_entries g.I.IntNumber.whole l.anchors.items)
