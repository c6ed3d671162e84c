-- One point more is told of, and all of them.
use Rattle.std.proofs.Common.{◌+◌, ◌<◌, ◌≤◌, set, refl, sym, subst, arith}
use Rattle.overlay_geom.specs.declared.point.IntPoint.{IntPoint}
use Rattle.polyover_calls.specs.Arrays.{points_of}
use Rattle.polyover_calls.specs.Prepared.{parts_of}
use Rattle.polyover_calls.proofs.AskedPoints.{AreToldUpTo, point_read, place_within, none_told, one_told, all_told}
use Rattle.polyover_calls.proofs.prepared_points.write_locations.Goals as goal

pub loop-at-init : goal.loop-at-init
loop-at-init g c =
    let whole = g.I.IntNumber.whole in
    none_told whole (parts_of whole g.E.FormOf.meant g.B.FormOf.meant c.args.parts.now).edges
    (points_of c.args.points.now) c.args.locations.now

pub offset_bounds-points-place : goal.offset_bounds-points-place
offset_bounds-points-place g c =
    let w = place_within c.args.points.now c.loop-at.at _ c.count_points-at-end.ensures c.loop-at-test.true in
    omega (arith, w)

pub bounds-points-place : goal.bounds-points-place
bounds-points-place g c =
    let w = place_within c.args.points.now c.loop-at.at _ c.count_points-at-end.ensures c.loop-at-test.true in
    omega (arith, w)

pub offset_bounds-points-next : goal.offset_bounds-points-next
offset_bounds-points-next g c =
    let w = place_within c.args.points.now c.loop-at.at _ c.count_points-at-end.ensures c.loop-at-test.true in
    omega (arith, w)

pub bounds-points-next : goal.bounds-points-next
bounds-points-next g c =
    place_within c.args.points.now c.loop-at.at _ c.count_points-at-end.ensures c.loop-at-test.true

pub loop-at-preserved : goal.loop-at-preserved
loop-at-preserved g c =
    let whole = g.I.IntNumber.whole in
    let edges = (parts_of whole g.E.FormOf.meant g.B.FormOf.meant c.args.parts.now).edges in
    let points = c.args.points.now in
    let old = c.args.locations.now in
    let n = c.loop-at.at in
    let new = c.loop-at.locations in
    let x = c.index-points-place.result in
    let y = c.index-points-next.result in
    let p : IntPoint _ = record { x = x; y = y } in
    let lt = c.loop-at-test.true in
    let within = subst (λ k. n < k) c.count_points-at-end.ensures lt in
    subst (λ k. AreToldUpTo whole edges (points_of points) old (n + 1) (set new n k)) (sym c.number_of.ensures)
    (one_told whole edges (points_of points) old n new p c.locate_in-location.result within
    (let room = c.requires.room in omega (arith, room, within))
    (sym (point_read points n p x y (place_within points n _ c.count_points-at-end.ensures lt)
    c.index-points-place.is c.index-points-next.is)) c.loop-at.invariant c.locate_in-location.ensures.located
    c.locate_in-location.ensures.by_edges)

pub returns : goal.returns
returns g c =
    let whole = g.I.IntNumber.whole in
    all_told whole (parts_of whole g.E.FormOf.meant g.B.FormOf.meant c.args.parts.now).edges
    (points_of c.args.points.now) c.args.locations.now c.loop-at.at c.loop-at.locations c.args.points.now refl
    (subst (λ k. k ≤ c.loop-at.at) c.count_points-at-end.ensures c.loop-at-test.false) c.requires.room
    c.loop-at.invariant
