-- From the greater of two points to the smaller the edge is turned.
use Rattle.std.proofs.Common.{sym, ◌∙◌}
use Rattle.overlay_geom.specs.Points.{plain_point}
use Rattle.overlay_geom.proofs.Orders.{point_lt-back}
use Rattle.overlay_geom.proofs.PointComparisons.{greater_differs, greater_is_after, edge_from_greater}
use Rattle.overlay_geom.proofs.edge.edge_between.Goals as goal

pub returns-in-Greater-clause-long : goal.returns-in-Greater-clause-long
returns-in-Greater-clause-long g c =
    let p = plain_point g.I.IntNumber.whole c.args.from in
    let q = plain_point g.I.IntNumber.whole c.args.to in
    let greater = sym c.compare_points.ensures ∙ c.in-Greater.is in
    record {
      forward = point_lt-back p q (greater_differs p q greater) (greater_is_after p q greater);
      a_in_range = c.requires.to;
      b_in_range = c.requires.from;
    }

pub returns-in-Greater-clause-edge : goal.returns-in-Greater-clause-edge
returns-in-Greater-clause-edge g c =
    let p = plain_point g.I.IntNumber.whole c.args.from in
    let q = plain_point g.I.IntNumber.whole c.args.to in
    edge_from_greater p q (sym c.compare_points.ensures ∙ c.in-Greater.is)
