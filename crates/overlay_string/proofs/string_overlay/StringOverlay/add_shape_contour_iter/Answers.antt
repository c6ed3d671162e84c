-- What is added is what the iterator gives.
use Rattle.std.proofs.Common.{subst}
use Rattle.overlay_geom.specs.Edges.{weight}
use Rattle.overlay_geom.specs.Points.{plain_points}
use Rattle.overlay_builder.specs.BuilderCalls.{AddsPathAsAsked}
use Rattle.overlay_builder.specs.PathLists.{AddsOne, WouldWeighTooMuch}
use Rattle.overlay_builder.proofs.BuilderCalls.{given_added}
use Rattle.overlay_string.specs.StringBuilder.{held_by}
use Rattle.overlay_string.specs.StringPaths.{shape_contour}
use Rattle.overlay_string.proofs.string_overlay.StringOverlay.add_shape_contour_iter.Goals as goal

pub returns-clause-added : goal.returns-clause-added
returns-clause-added g c =
    let whole = g.I.IntNumber.whole in
    let old = held_by c.args.self.now in
    let new = held_by c.add_shape_contour.new.self in
    given_added weight g.P.Iterator.next_gives c.args.iter (λ ps. AddsOne (shape_contour (plain_points whole ps)))
    (λ ps. WouldWeighTooMuch weight (shape_contour (plain_points whole ps))) old new c.in_ok-points.points.items
    c.in_ok-points.ensures.ok c.add_shape_contour.result
    (subst (λ ps. AddsPathAsAsked weight (shape_contour (plain_points whole ps)) old new c.add_shape_contour.result)
    c.deref.ensures.value c.add_shape_contour.ensures.added)
