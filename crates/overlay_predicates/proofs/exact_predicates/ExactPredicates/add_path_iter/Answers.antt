-- What is added is what the iterator gives.
use Rattle.std.proofs.Common.{subst, false}
use Rattle.overlay_order.specs.Content.{edge_for}
use Rattle.overlay_geom.specs.Edges.{AddsContour, weight}
use Rattle.overlay_geom.specs.Points.{plain_points}
use Rattle.overlay_builder.specs.BuilderCalls.{AddsContourAsAsked}
use Rattle.overlay_builder.specs.GivenPaths.{ContourWeighsTooMuch}
use Rattle.overlay_builder.proofs.BuilderCalls.{given_added}
use Rattle.overlay_predicates.specs.ExactBuilder.{held_by}
use Rattle.overlay_predicates.proofs.exact_predicates.ExactPredicates.add_path_iter.Goals as goal

pub returns-clause-added : goal.returns-clause-added
returns-clause-added g c =
    let whole = g.I.IntNumber.whole in
    let t = c.args.shape_type in
    let old = held_by c.args.self.now in
    let new = held_by c.add_contour.new.self in
    given_added weight g.P.Iterator.next_gives c.args.iter
    (λ ps. AddsContour false (edge_for t) (plain_points whole ps))
    (λ ps. ContourWeighsTooMuch false t (plain_points whole ps)) old new c.in_ok-points.points.items
    c.in_ok-points.ensures.ok c.add_contour.result
    (subst (λ ps. AddsContourAsAsked false t (plain_points whole ps) old new c.add_contour.result)
    c.deref.ensures.value c.add_contour.ensures.added)
