-- The queries so far are answered, and the sweep may move on to those left.
use Rattle.std.proofs.Common.{◌≡◌, ◌≤◌, length, take, drop, get_or}
use Rattle.std.specs.List.{All}
use Rattle.overlay_geom.specs.Plane.{in_plane}
use Rattle.overlay_geom.specs.Resolved.{plain_edges}
use Rattle.overlay_scan.specs.Scan.{MayMoveTo}
use Rattle.overlay_relate.specs.Locations.{IsLocatedBy}
use Rattle.overlay_relate.specs.Queries.{plain_queries}
use Rattle.overlay_relate.specs.Sweeps.{wide_edges, AreTold, IsSwept}
use Rattle.overlay_relate.specs.declared.location.PointLocation.TheVariants.{Outside}
use Rattle.overlay_relate.proofs.sweep.locate_by_sweep.Given as goal

abbrev pub invariant-loop-query : goal.invariant-loop-query
invariant-loop-query g l =
    let whole = g.I.IntNumber.whole in
    let es = plain_edges whole l.edges in
    let fs = wide_edges whole l.starting.items in
    let qs = plain_queries whole l.query-items in
    let s = g.S.Scan.content l.scan in
    (length l.answers.items ≡ length l.points)
    × (length l.inside.items ≤ length l.starting.items)
    × IsSwept g.I.IntNumber.limit fs (length l.inside.items) s
    × All (λ q. MayMoveTo q.item.x s) (drop l.query-index qs)
    × AreTold es fs l.inside.items
    × All (λ q. IsLocatedBy es (in_plane q.item) (get_or l.answers.items q.place Outside)) (take l.query-index qs)
