-- One point more.
use Rattle.std.proofs.Common.{◌++◌, ◌∷◌, [], take, sym, ap, ◌∙◌}
use Rattle.std.proofs.lemmas.List.{map-append}
use Rattle.overlay_geom.specs.Numbered.{Numbered}
use Rattle.overlay_geom.specs.Plane.{Point}
use Rattle.overlay_geom.specs.Points.{plain_point, plain_points}
use Rattle.overlay_geom.proofs.Mapped.{mapped_more, mapped_whole}
use Rattle.overlay_relate.specs.Queries.{plain_query, plain_queries, points_asked}
use Rattle.overlay_relate.proofs.queries.points_asked.Goals as goal

pub loop-query-preserved : goal.loop-query-preserved
loop-query-preserved g c =
    let whole = g.I.IntNumber.whole in
    let qs = take c.loop-query.query-index c.args.queries.now in
    let q = plain_query whole c.query-item.result in
    ap (plain_points whole) c.in_ok-push.ensures.items
    ∙ map-append (plain_point whole) c.loop-query.points.items (_ ∷ [])
    ∙ ap (λ ps. ps ++ q.item ∷ []) c.loop-query.invariant
    ∙ sym (ap points_asked (mapped_more (plain_query whole) c.args.queries.now c.loop-query.query-index
    c.query-item.result c.loop-query-test.true c.query-item.is)
    ∙ map-append (λ (n : Numbered Point). n.item) (plain_queries whole qs) (q ∷ []))

pub returns : goal.returns
returns g c = record {
  ok = let whole = g.I.IntNumber.whole in
      c.loop-query.invariant ∙ ap points_asked
      (mapped_whole (plain_query whole) c.args.queries.now c.loop-query.query-index c.loop-query-test.false);
}
