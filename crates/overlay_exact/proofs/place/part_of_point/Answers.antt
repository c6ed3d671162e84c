-- The way to the point and the edge's own way make the part.
use Rattle.overlay_geom.specs.Points.{plain_point}
use Rattle.overlay_geom.specs.Resolved.{plain_edge}
use Rattle.overlay_plane.proofs.WholeOnEdges.{forward_from_test}
use Rattle.overlay_exact.proofs.WholeParts.{in_range_of_on, whole_is_part, whole_lies_at}
use Rattle.overlay_exact.proofs.place.part_of_point.Goals as goal

pub way_to-requires-clause-point : goal.way_to-requires-clause-point
way_to-requires-clause-point g c = in_range_of_on g.I.IntNumber.limit (plain_edge g.I.IntNumber.whole c.args.e)
    (plain_point g.I.IntNumber.whole c.args.v) c.requires.edge c.requires.point

pub invariant_of-result : goal.invariant_of-result
invariant_of-result g c =
    let e = plain_edge g.I.IntNumber.whole c.args.e in
    let part = whole_is_part e (forward_from_test e c.requires.edge.forward) (plain_point g.I.IntNumber.whole c.args.v)
    c.requires.point _ _ c.way_to.ensures c.way_to-2.ensures in
    record { begun = part.begun; within = part.within; positive = part.positive }

pub returns : goal.returns
returns g c =
    let e = plain_edge g.I.IntNumber.whole c.args.e in
    whole_lies_at e (forward_from_test e c.requires.edge.forward) (plain_point g.I.IntNumber.whole c.args.v)
    c.requires.point _ _ c.way_to.ensures c.way_to-2.ensures
