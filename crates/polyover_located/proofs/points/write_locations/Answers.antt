-- One point more is told of, and all of them.
use Rattle.std.proofs.Common.{◌≡◌, ◌+◌, ◌<◌, ◌≤◌, ◌/◌, length, map, set, refl, sym, ap, subst, arith}
use Rattle.std.specs.List.{All}
use Rattle.std.proofs.lemmas.List.Elements.{All-nil}
use Rattle.overlay_geom.specs.Plane.{in_plane}
use Rattle.overlay_geom.specs.Points.{plain_point}
use Rattle.overlay_geom.specs.Rules.{is_filled}
use Rattle.overlay_geom.specs.declared.point.IntPoint.{IntPoint}
use Rattle.overlay_sectors.specs.Located.{LiesIn}
use Rattle.overlay_located.specs.Queries.{plain_query, IsTold}
use Rattle.overlay_order.specs.Content.{plain_edges}
use Rattle.overlay_order.specs.Counts.{boolean_counts}
use Rattle.polyover_calls.proofs.AskedPoints.{point_read, place_within}
use Rattle.polyover_calls.proofs.PointCounts.{points_counted}
use Rattle.polyover_calls.specs.Arrays.{points_of}
use Rattle.polyover_located.proofs.ToldPoints.{AreToldUpTo, none_told, one_told, all_told}
use Rattle.polyover_located.specs.Held.{parts_of, shape_of}
use Rattle.polyover_located.proofs.points.write_locations.Goals as goal

pub loop-at-init : goal.loop-at-init
loop-at-init g c =
    let whole = g.I.IntNumber.whole in
    let es = plain_edges whole boolean_counts (map g.E.EdgeForm.meant c.args.shape.now.edges.now) in (
      none_told whole (shape_of (parts_of whole g.E.EdgeForm.meant g.B.FormOf.meant c.args.shape.now))
          (points_of c.args.points.now) c.args.locations.now,
      subst (λ qs. All (λ q. IsTold es (plain_query whole boolean_counts q)) qs) (sym c.new-told.ensures.items)
          (All-nil (λ q. IsTold es (plain_query whole boolean_counts q))),
    )

pub locate_told-location-requires-clause-told : goal.locate_told-location-requires-clause-told
locate_told-location-requires-clause-told g c =
    let whole = g.I.IntNumber.whole in
    let es = plain_edges whole boolean_counts (map g.E.EdgeForm.meant c.args.shape.now.edges.now) in
    subst (λ qs. All (λ q. IsTold es (plain_query whole boolean_counts q)) qs) (sym c.deref.ensures.value)
    c.told_from-told.ensures

pub offset_bounds-points-place : goal.offset_bounds-points-place
offset_bounds-points-place g c =
    let counted = sym (points_counted c.args.points.now) in
    let w = place_within c.args.points.now c.loop-at.at _ counted c.loop-at-test.true in
    omega (arith, w)

pub bounds-points-place : goal.bounds-points-place
bounds-points-place g c =
    let counted = sym (points_counted c.args.points.now) in
    let w = place_within c.args.points.now c.loop-at.at _ counted c.loop-at-test.true in
    omega (arith, w)

pub offset_bounds-points-next : goal.offset_bounds-points-next
offset_bounds-points-next g c =
    let counted = sym (points_counted c.args.points.now) in
    let w = place_within c.args.points.now c.loop-at.at _ counted c.loop-at-test.true in
    omega (arith, w)

pub bounds-points-next : goal.bounds-points-next
bounds-points-next g c =
    place_within c.args.points.now c.loop-at.at _ (sym (points_counted c.args.points.now)) c.loop-at-test.true

pub bounds-locations-at : goal.bounds-locations-at
bounds-locations-at g c =
    let counted = points_counted c.args.points.now in
    let kept = c.loop-at.invariant.0.counted in
    let room = c.requires.room in
    let lt = c.loop-at-test.true in
    omega (arith, counted, kept, room, lt)

pub loop-at-preserved : goal.loop-at-preserved
loop-at-preserved g c =
    let whole = g.I.IntNumber.whole in
    let shape = shape_of (parts_of whole g.E.EdgeForm.meant g.B.FormOf.meant c.args.shape.now) in
    let points = c.args.points.now in
    let old = c.args.locations.now in
    let n = c.loop-at.at in
    let new = c.loop-at.locations in
    let x = c.index-points-place.result in
    let y = c.index-points-next.result in
    let p : IntPoint _ = record { x = x; y = y } in
    let counted = points_counted points in
    let lt = c.loop-at-test.true in
    let within = subst (λ k. n < k) (sym counted) lt in (
      subst (λ k. AreToldUpTo whole shape (points_of points) old (n + 1) (set new n k)) (sym c.number_of.ensures)
          (one_told whole shape (points_of points) old n new p c.locate_told-location.result within
          (let room = c.requires.room in omega (arith, room, within))
          (sym (point_read points n p x y (place_within points n _ (sym counted) lt)
          c.index-points-place.is c.index-points-next.is)) c.loop-at.invariant.0
          (subst (λ r. LiesIn (is_filled r) shape.edges (in_plane (plain_point whole p)) c.locate_told-location.result)
          c.known_fill-rule.ensures c.locate_told-location.ensures)),
      c.told_from-told.ensures,
    )

pub returns : goal.returns
returns g c =
    let whole = g.I.IntNumber.whole in
    let points = c.args.points.now in
    all_told whole (shape_of (parts_of whole g.E.EdgeForm.meant g.B.FormOf.meant c.args.shape.now))
    (points_of points) c.args.locations.now c.loop-at.at c.loop-at.locations points refl
    (subst (λ k. k ≤ c.loop-at.at) (sym (points_counted points)) c.loop-at-test.false) c.requires.room
    c.loop-at.invariant.0
