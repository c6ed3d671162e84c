-- The ends of each that lie on the other are all there is to add.
use Rattle.std.proofs.lemmas.Result.{on_ok_weaker}
use Rattle.overlay_geom.proofs.PointOrder.{Decides-point_lt}
use Rattle.overlay_order.specs.Content.{plain_edge}
use Rattle.overlay_arrange.proofs.PairMeetings.{ends_added}
use Rattle.overlay_arrange.proofs.crossing.push_ends.Goals as goal

pub returns : goal.returns
returns g c = record {
  ok = let e = plain_edge g.I.IntNumber.whole g.C.EdgeCount.counts c.args.e.now in
      let f = plain_edge g.I.IntNumber.whole g.C.EdgeCount.counts c.args.f.now in
      on_ok_weaker c.push_ends_between-2.result
      (ends_added c.args.i e c.args.j f ((Decides-point_lt e.a e.b).0 c.requires.one.forward) c.requires.along
      c.in_ok-push_ends_between.ensures.ok)
      c.push_ends_between-2.ensures.ok;
}
