-- The holes whose anchors the sweep has passed have their numbers, and the sweep may go on to those left.
use Rattle.std.proofs.Common.{◌≡◌, ◌≤◌, length, map, take, drop}
use Rattle.std.specs.List.{All}
use Rattle.overlay_walk.specs.GroupedContours.{walk_of}
use Rattle.overlay_extract.specs.Parents.{IsSwept, HasShapeNumber}
use Rattle.overlay_walk.specs.Steps.{filled_hand}
use Rattle.overlay_walk.specs.WalkEdges.{numbered_entries}
use Rattle.overlay_extract.proofs.binding.sweep.parents_by_sweep.Given as goal

abbrev pub invariant-loop-hole : goal.invariant-loop-hole
invariant-loop-hole g l =
    let whole = g.I.IntNumber.whole in
    let es = numbered_entries whole l.edges.items in
    let hs = numbered_entries whole l.hole-items in
    (length l.parents.items ≡ length l.contours)
    × (l.from ≤ length l.edges.items)
    × All (λ h. IsSwept g.I.IntNumber.limit h.edge.a.x (take l.from es) (g.S.Scan.content l.scan))
    (drop l.hole-index hs)
    × All (λ h. HasShapeNumber (filled_hand l.fn.direction) (map (walk_of g.I.IntNumber.whole) l.contours) l.known
    l.parents.items h.value)
    (take l.hole-index hs)
