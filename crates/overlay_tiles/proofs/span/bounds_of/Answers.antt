-- The points of one path more.
use Rattle.std.proofs.Common.{◌≤◌, sym, subst, take}
use Rattle.std.proofs.lemmas.List.{take_all}
use Rattle.overlay_geom.proofs.ReadInOrder.{flat_map-take_read}
use Rattle.overlay_geom.specs.Points.{plain_points}
use Rattle.overlay_tiles.specs.Spans.{IsBoxFound, points_of_paths}
use Rattle.overlay_tiles.proofs.LinesAcross.{points_in_range, found_in_range}
use Rattle.overlay_tiles.proofs.span.bounds_of.Goals as goal

pub loop-index-preserved : goal.loop-index-preserved
loop-index-preserved g c =
    let whole = g.I.IntNumber.whole in
    let paths = g.R0.IntShapeResource.paths c.args.resource.now in
    let i = c.loop-index.index in (
      subst (λ ps. IsBoxFound whole ps c.widened-bounds.result)
          (sym (flat_map-take_read paths i (plain_points whole c.path_at.result.now) c.path_at.ensures.path (λ p. p)))
          (c.widened-bounds.ensures (points_of_paths (take i paths)) c.loop-index.invariant.0),
      c.path_at.ensures.next,
    )

pub returns-clause-in_range : goal.returns-clause-in_range
returns-clause-in_range g c =
    let whole = g.I.IntNumber.whole in
    let paths = g.R0.IntShapeResource.paths c.args.resource.now in
    found_in_range whole g.I.IntNumber.limit (points_of_paths paths) c.loop-index.bounds
    (points_in_range g.I.IntNumber.limit paths c.requires)
    (subst (λ ps. IsBoxFound whole (points_of_paths ps) c.loop-index.bounds)
    (take_all c.loop-index.index paths
    (subst (λ n. n ≤ c.loop-index.index) c.path_count-index-end.ensures c.loop-index-test.false))
    c.loop-index.invariant.0)
