-- The two edges cross, since each goes across the other's line.
use Rattle.std.proofs.lemmas.Result.{on_ok_weaker}
use Rattle.overlay_geom.specs.Points.{plain_point}
use Rattle.overlay_order.specs.Content.{plain_edge}
use Rattle.overlay_arrange.proofs.PairMeetings.{crossing_added}
use Rattle.overlay_arrange.proofs.crossing.push_crossing.Goals as goal

pub returns : goal.returns
returns g c = record {
  ok = let whole = g.I.IntNumber.whole in
      let e = plain_edge whole g.C.EdgeCount.counts c.args.e.now in
      let f = plain_edge whole g.C.EdgeCount.counts c.args.f.now in
      on_ok_weaker c.push_inside-2.result
      (crossing_added c.args.i e c.args.j f (plain_point whole c.common_point-point.result)
      c.requires.forth c.requires.back c.common_point-point.ensures c.in_ok-push_inside.ensures.ok)
      c.push_inside-2.ensures.ok;
}
