-- The point is pushed, or is an end of the edge.
use Rattle.std.proofs.Common.{refl}
use Rattle.overlay_geom.specs.Points.{plain_point}
use Rattle.overlay_order.specs.Content.{plain_edge}
use Rattle.overlay_order.proofs.Appended.{mapped_pushed}
use Rattle.overlay_arrange.specs.Meetings.{plain_meeting, plain_meetings}
use Rattle.overlay_arrange.proofs.PairMeetings.{end_left_out, point_pushed}
use Rattle.overlay_arrange.proofs.crossing.push_inside.Goals as goal

pub returns-in_ok-push : goal.returns-in_ok-push
returns-in_ok-push g c = record {
  ok = let whole = g.I.IntNumber.whole in
      point_pushed c.args.i (plain_edge whole g.C.EdgeCount.counts c.args.e.now) (plain_point whole c.args.v)
      (plain_meetings whole c.args.meetings.now.items) (plain_meetings whole c.push.new.self.items)
      (mapped_pushed (plain_meeting whole) c.args.meetings.now.items c.push.new.self.items _ _
      c.in_ok-push.ensures.items
      refl);
}

pub returns-else-not-is_end_of : goal.returns-else-not-is_end_of
returns-else-not-is_end_of g c = record {
  ok = let whole = g.I.IntNumber.whole in
      end_left_out c.args.i (plain_edge whole g.C.EdgeCount.counts c.args.e.now) (plain_point whole c.args.v)
      (plain_meetings whole c.args.meetings.now.items)
      (c.if-not-is_end_of.ensures.0 refl);
}
