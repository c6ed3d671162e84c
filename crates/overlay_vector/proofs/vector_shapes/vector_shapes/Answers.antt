-- What shows the contours at their places is the answer.
use Rattle.std.proofs.Common.{All, length, refl, sym, subst}
use Rattle.std.proofs.lemmas.Result.{IfOk-weaker}
use Rattle.overlay_geom.specs.Edges.{all_ends}
use Rattle.overlay_plane.specs.BoundContours.{walks_in, AreShapesFound}
use Rattle.overlay_plane.specs.KeptContours.{CanBeBound}
use Rattle.overlay_plane.specs.PlacedContours.{walks_at, CanBePlaced}
use Rattle.overlay_graph.specs.Graphs.{graph_edges}
use Rattle.overlay_walk.specs.Asked.{asked, is_kept, selected_of}
use Rattle.overlay_walk.specs.GroupedContours.{plain_contours}
use Rattle.overlay_walk.specs.Steps.{filled_hand, IsLong, RunsAlong}
use Rattle.overlay_extract.specs.Places.{place_lists, AreInside}
use Rattle.overlay_extract.proofs.PlacedShapes.{can_be_placed}
use Rattle.overlay_extract.specs.Placed.{ArePlacedSomehow}
use Rattle.overlay_vector.specs.VectorShapes.{plain_vector_shapes, AreVectorContours, AreVectorShapes}
use Rattle.overlay_vector.proofs.VectorShapes.{vector_shapes_shown, without_groups}
use Rattle.overlay_vector.proofs.vector_shapes.vector_shapes.Goals as goal

pub bound_places-requires-clause-long : goal.bound_places-requires-clause-long
bound_places-requires-clause-long g c =
    subst (λ cs. All (All (IsLong g.I.IntNumber.limit)) (walks_in (plain_contours g.I.IntNumber.whole cs)))
    (sym c.deref.ensures.value) c.in_ok-contours.ensures.long

pub bound_places-requires-clause-bindable : goal.bound_places-requires-clause-bindable
bound_places-requires-clause-bindable g c =
    subst (λ cs. CanBeBound (filled_hand c.args.options.output_direction)
    (walks_in (plain_contours g.I.IntNumber.whole cs))) (sym c.deref.ensures.value)
    c.in_ok-contours.ensures.kept.bindable

pub bound_places-requires-clause-placeable : goal.bound_places-requires-clause-placeable
bound_places-requires-clause-placeable g c =
    let whole = g.I.IntNumber.whole in
    let filled = filled_hand c.args.options.output_direction in
    let q = without_groups (asked g.I.Wide.WideIntNumber.width g.I.WideUInt.UIntNumber.natural
    c.args.graph.now.fill_rule c.args.overlay_rule c.args.options) in
    let cs = c.in_ok-contours.contours.items in
    subst (λ ds. (shapes : _) → AreShapesFound filled (plain_contours whole ds) shapes
    → CanBePlaced (plain_contours whole ds) shapes) (sym c.deref.ensures.value)
    (λ shapes found. can_be_placed q.ogc filled (is_kept q) (selected_of q (graph_edges c.args.graph.now))
    (plain_contours whole cs) c.in_ok-contours.ensures.kept.cut shapes found)

pub assembled-requires-clause-along : goal.assembled-requires-clause-along
assembled-requires-clause-along g c =
    let along = RunsAlong g.I.IntNumber.whole (all_ends (graph_edges c.args.graph.now)) in
    subst (All (λ (k : _). All along k.steps.items)) (sym c.deref-2.ensures.value)
    (c.in_ok-contours.ensures.along refl)

pub assembled-requires-clause-inside : goal.assembled-requires-clause-inside
assembled-requires-clause-inside g c =
    let whole = g.I.IntNumber.whole in
    subst (λ cs. AreInside (length (plain_contours whole cs)) (place_lists c.deref-3.result.now))
    (sym c.deref-2.ensures.value)
    (subst (λ ps. AreInside (length (plain_contours whole c.in_ok-contours.contours.items)) (place_lists ps))
    (sym c.deref-3.ensures.value)
    (subst (λ cs. AreInside (length (plain_contours whole cs)) (place_lists c.in_ok-places.places.items))
    c.deref.ensures.value c.in_ok-places.ensures.placed.placed.inside))

pub returns-clause-shapes : goal.returns-clause-shapes
returns-clause-shapes g c =
    let whole = g.I.IntNumber.whole in
    let keep = c.args.options.preserve_output_collinear in
    let reverses = g.D.OverlayEdgeData.reverses in
    let eq = g.D.PartialEq.eq in
    let rule = c.args.graph.now.fill_rule in
    let xs = c.args.graph.now.edges in
    let q = asked g.I.Wide.WideIntNumber.width g.I.WideUInt.UIntNumber.natural rule c.args.overlay_rule
    c.args.options in
    let cs = c.in_ok-contours.contours.items in
    let places = c.in_ok-places.places.items in
    let are : ArePlacedSomehow (filled_hand c.args.options.output_direction) (plain_contours whole cs)
    (place_lists places) =
    subst (λ ds. ArePlacedSomehow (filled_hand c.args.options.output_direction) (plain_contours whole ds)
    (place_lists places)) c.deref.ensures.value c.in_ok-places.ensures.placed in
    IfOk-weaker c.assembled.result
    (λ v. AreVectorContours reverses eq rule keep xs
    (walks_at (plain_contours whole c.deref-2.result.now) (place_lists c.deref-3.result.now))
    (plain_vector_shapes whole v.items))
    (λ v. AreVectorShapes reverses eq q xs (plain_vector_shapes whole v.items))
    (λ v shown. vector_shapes_shown reverses eq q xs (plain_contours whole cs) c.in_ok-contours.ensures.kept are.shapes
    are.found (place_lists places) are.placed (plain_vector_shapes whole v.items)
    (subst (λ ps. AreVectorContours reverses eq rule keep xs (walks_at (plain_contours whole cs) (place_lists ps))
    (plain_vector_shapes whole v.items)) c.deref-3.ensures.value
    (subst (λ ds. AreVectorContours reverses eq rule keep xs
    (walks_at (plain_contours whole ds) (place_lists c.deref-3.result.now)) (plain_vector_shapes whole v.items))
    c.deref-2.ensures.value shown)))
    c.assembled.ensures.shapes
