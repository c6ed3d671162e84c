-- One point more is read off.
use Rattle.std.proofs.Common.{map, refl, ap, ◌∙◌}
use Rattle.overlay_geom.specs.Points.{plain_point}
use Rattle.overlay_geom.proofs.Mapped.{mapped_whole}
use Rattle.overlay_order.proofs.Appended.{next_mapped}
use Rattle.overlay_arrange.specs.Meetings.{plain_meeting, Meeting}
use Rattle.overlay_arrange.proofs.cut.put_points.Goals as goal

pub loop-m-preserved : goal.loop-m-preserved
loop-m-preserved g c =
    next_mapped (plain_point g.I.IntNumber.whole) (λ (m : Meeting). m.point) (plain_meeting g.I.IntNumber.whole)
    c.loop-m.points.items _ _ c.args.meetings.now c.loop-m.m-index c.m-item.result
    c.loop-m-test.true c.m-item.is c.in_ok-push.ensures.items refl c.loop-m.invariant

pub returns : goal.returns
returns g c = record {
  ok = c.loop-m.invariant ∙ ap (map (λ (m : Meeting). m.point))
      (mapped_whole (plain_meeting g.I.IntNumber.whole) c.args.meetings.now c.loop-m.m-index c.loop-m-test.false);
}
