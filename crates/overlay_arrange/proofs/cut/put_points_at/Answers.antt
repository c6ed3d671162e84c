-- The points of the run, put in order along the edge.
use Rattle.std.proofs.Common.{map, ap, ◌∙◌}
use Rattle.overlay_geom.specs.Edges.{ends_of}
use Rattle.overlay_geom.specs.Points.{plain_points}
use Rattle.overlay_geom.proofs.Mapped.{mapped_range}
use Rattle.overlay_order.specs.Content.{plain_edge}
use Rattle.overlay_arrange.specs.Meetings.{plain_meeting, plain_meetings, Meeting}
use Rattle.overlay_arrange.proofs.LedThrough.{points_of_run}
use Rattle.overlay_arrange.proofs.cut.put_points_at.Goals as goal

pub returns : goal.returns
returns g c = record {
  ok = let whole = g.I.IntNumber.whole in
      let low = c.run_at-low.result.0 in
      let high = c.run_at-low.result.1 in
      points_of_run (plain_meetings whole c.args.meetings.now) c.args.i
      (ends_of (plain_edge whole g.C.EdgeCount.counts c.args.e.now)) low high
      (plain_points whole c.put_points.new.points.items) (plain_points whole c.sort_along.new.points.items)
      c.run_at-low.ensures
      (c.in_ok-put_points.ensures.ok ∙ ap (map (λ (m : Meeting). m.point))
      (mapped_range (plain_meeting whole) c.args.meetings.now low high))
      c.in_ok-sort_along.ensures.ok;
}
