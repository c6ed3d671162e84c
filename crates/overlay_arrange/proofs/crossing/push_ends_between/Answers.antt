-- The points added for the two ends are those added for each.
use Rattle.std.proofs.lemmas.Result.{on_ok_weaker}
use Rattle.overlay_geom.specs.Edges.{ends_of}
use Rattle.overlay_geom.specs.Points.{plain_point}
use Rattle.overlay_plane.specs.CutPoints.{is_between}
use Rattle.overlay_order.specs.Content.{plain_edge}
use Rattle.overlay_arrange.proofs.PairMeetings.{two_added}
use Rattle.overlay_arrange.proofs.crossing.push_ends_between.Goals as goal

pub returns : goal.returns
returns g c = record {
  ok = let whole = g.I.IntNumber.whole in
      let e = plain_edge whole g.C.EdgeCount.counts c.args.e.now in
      on_ok_weaker c.push_between-2.result
      (two_added c.args.i e (is_between (ends_of e)) (plain_point whole c.args.f.now.a)
      (plain_point whole c.args.f.now.b)
      c.in_ok-push_between.ensures.ok)
      c.push_between-2.ensures.ok;
}
