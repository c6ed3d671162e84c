-- Points that the edge passes above or below are left out.
use Rattle.std.proofs.Common.{arith}
use Rattle.std.proofs.lemmas.Result.{on_ok_weaker}
use Rattle.overlay_geom.specs.Points.{plain_points}
use Rattle.overlay_geom.proofs.PointOrder.{Decides-point_lt}
use Rattle.overlay_order.specs.Content.{plain_edge}
use Rattle.overlay_arrange.proofs.HeightRuns.{run_added}
use Rattle.overlay_arrange.proofs.pixel_runs.push_run.Goals as goal

pub near_end-high-requires-clause-upwards : goal.near_end-high-requires-clause-upwards
near_end-high-requires-clause-upwards g c = λ j k v w past le less at_v at_w.
    let from = c.near_start-low.ensures.ordered in
    c.requires.upwards j k v w (omega (arith, past, from)) le less at_v at_w

pub returns : goal.returns
returns g c = record {
  ok = let whole = g.I.IntNumber.whole in
      let e = plain_edge whole g.C.EdgeCount.counts c.args.e.now in
      let low = c.near_start-low.result in
      let high = c.near_end-high.result in
      let ends = c.x_along-first.result in
      on_ok_weaker c.push_points.result
      (run_added (whole c.args.strip.now.left) (whole c.args.strip.now.right) (whole ends.0) (whole ends.1) e
      (plain_points whole c.args.strip.now.points.now) c.args.strip.now.from low high c.args.strip.now.to
      (plain_points whole c.args.points.now.items)
      (plain_points whole c.push_points.new.points.items) ((Decides-point_lt e.a e.b).0 c.requires.one.forward).x
      c.near_start-low.ensures.ordered c.near_end-high.ensures.within c.x_along-first.ensures.between
      c.near_start-low.ensures.below c.near_end-high.ensures.above) c.push_points.ensures.ok;
}
