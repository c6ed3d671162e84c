-- The edges are counted one by one, or passed over in blocks.
use Rattle.std.proofs.Common.{◌≡◌, ◌+◌, ◌<◌, ◌≤◌, [], ◌∷◌, get_or, length, map, rules, sym, subst, arith}
use Rattle.std.proofs.lemmas.List.{length-map}
use Rattle.overlay_geom.specs.Plane.{in_plane}
use Rattle.overlay_geom.specs.Points.{plain_point}
use Rattle.overlay_geom.specs.Resolved.{plain_edge, plain_edges, IsLongEdge}
use Rattle.overlay_relate.specs.Locations.{IsLocatedBy}
use Rattle.overlay_relate.specs.declared.location.PointLocation.TheVariants.{Inside, Boundary, Outside}
use Rattle.overlay_relate.proofs.Bounding.{lies_so}
use Rattle.overlay_relate.proofs.CountedBelow.{IsCounted, counted_inside, counted_outside, passed_over}
use Rattle.overlay_relate.proofs.CountedBelow.{inside_of_all, outside_of_all, on_some}
use Rattle.overlay_relate.proofs.Forms.{form_at, all_at}
use Rattle.overlay_relate.proofs.prepared.parts.locate_in.Goals as goal
use Rattle.overlay_relate.proofs.prepared.parts.locate_in.Goals.{in-Inside, in-Outside}

pub loop-at-preserved-then-at-next : goal.loop-at-preserved-then-at-next
loop-at-preserved-then-at-next g c =
    let whole = g.I.IntNumber.whole in
    let es = plain_edges whole (map g.E.FormOf.meant c.args.edges.now) in
    passed_over es (plain_point whole c.args.point) c.loop-at.is_inside c.loop-at.at
    c.passed_from-next.result (let lt = c.if-at-next.true in omega (arith, lt)) c.loop-at.invariant
    (c.passed_from-next.ensures es c.requires)

pub location_by-requires : goal.location_by-requires
location_by-requires g c =
    let whole = g.I.IntNumber.whole in
    all_at (IsLongEdge g.I.IntNumber.limit) (plain_edge whole) g.E.FormOf.meant c.args.edges.now c.loop-at.at
    c.index-edges-at.result c.value-edge.result (search rules) c.index-edges-at.is c.value-edge.ensures c.requires.long

pub returns-in-Boundary-clause-by_edges : goal.returns-in-Boundary-clause-by_edges
returns-in-Boundary-clause-by_edges g c =
    let whole = g.I.IntNumber.whole in
    let meant = g.E.FormOf.meant in
    let edges = c.args.edges.now in
    let p = in_plane (plain_point whole c.args.point) in
    let e = plain_edge whole c.value-edge.result in
    let lt : c.loop-at.at < length edges = search rules in
    on_some (plain_edges whole (map meant edges)) p c.loop-at.at e (rw (length-map, length-map) lt)
    (form_at (plain_edge whole) meant edges c.loop-at.at c.index-edges-at.result c.value-edge.result lt
    c.index-edges-at.is c.value-edge.ensures)
    (subst (IsLocatedBy (e ∷ []) p) c.in-Boundary.is c.location_by.ensures)

pub returns-in-Boundary-clause-located : goal.returns-in-Boundary-clause-located
returns-in-Boundary-clause-located g c =
    let whole = g.I.IntNumber.whole in
    lies_so (plain_edges whole (map g.E.FormOf.meant c.args.edges.now)) (in_plane (plain_point whole c.args.point))
    Boundary (returns-in-Boundary-clause-by_edges g c)

pub loop-at-preserved : goal.loop-at-preserved
loop-at-preserved g c =
    let whole = g.I.IntNumber.whole in
    let meant = g.E.FormOf.meant in
    let edges = c.args.edges.now in
    let es = plain_edges whole (map meant edges) in
    let p = in_plane (plain_point whole c.args.point) in
    let e = plain_edge whole c.value-edge.result in
    let at = c.loop-at.at in
    let t = c.loop-at.is_inside in
    let lt : at < length edges = search rules in
    let within : at < length es = rw (length-map, length-map) lt in
    let is : get_or es at e ≡ e = form_at (plain_edge whole) meant edges at c.index-edges-at.result c.value-edge.result
    lt c.index-edges-at.is c.value-edge.ensures in
    elim c.match-location_by.branch [
      | in-Inside w ↦ subst (λ s. IsCounted es p (at + 1) s) (sym w.is_inside-is)
          (counted_inside es p at t c.loop-at.invariant e within is
          (subst (IsLocatedBy (e ∷ []) p) w.in-Inside.is c.location_by.ensures))
      | in-Outside w ↦ subst (λ s. IsCounted es p (at + 1) s) (sym w.is_inside-is)
          (counted_outside es p at t c.loop-at.invariant e within is
          (subst (IsLocatedBy (e ∷ []) p) w.in-Outside.is c.location_by.ensures))
    ]

pub returns-then-is_inside-clause-located : goal.returns-then-is_inside-clause-located
returns-then-is_inside-clause-located g c =
    let whole = g.I.IntNumber.whole in
    let es = plain_edges whole (map g.E.FormOf.meant c.args.edges.now) in
    let p = in_plane (plain_point whole c.args.point) in
    let past : length c.args.edges.now ≤ c.loop-at.at = search rules in
    lies_so es p Inside (inside_of_all es p c.loop-at.at c.loop-at.is_inside c.loop-at.invariant
    (rw (length-map, length-map) past) c.if-is_inside.true)

pub returns-else-is_inside-clause-located : goal.returns-else-is_inside-clause-located
returns-else-is_inside-clause-located g c =
    let whole = g.I.IntNumber.whole in
    let es = plain_edges whole (map g.E.FormOf.meant c.args.edges.now) in
    let p = in_plane (plain_point whole c.args.point) in
    let past : length c.args.edges.now ≤ c.loop-at.at = search rules in
    lies_so es p Outside (outside_of_all es p c.loop-at.at c.loop-at.is_inside c.loop-at.invariant
    (rw (length-map, length-map) past) c.if-is_inside.false)
