-- The shapes of the contours at their places are the result, in a single list.
use Rattle.std.proofs.Common.{All, length, sym, subst}
use Rattle.std.proofs.lemmas.Result.{IfOk-weaker}
use Rattle.std.specs.Prelude.{IfOk}
use Rattle.overlay_geom.specs.Flat.{shapes_in}
use Rattle.overlay_plane.specs.BoundContours.{walks_in}
use Rattle.overlay_plane.specs.PlacedContours.{walks_at}
use Rattle.overlay_plane.specs.ShapeWindings.{points_of_shapes, AreKeptOrThinned}
use Rattle.overlay_graph.specs.Graphs.{graph_edges}
use Rattle.overlay_walk.specs.GroupedContours.{plain_contours}
use Rattle.overlay_walk.specs.Steps.{IsLong}
use Rattle.overlay_extract.specs.Places.{place_lists, AreInside}
use Rattle.overlay_extract.specs.Results.{asked}
use Rattle.overlay_extract.proofs.Results.{result_shown}
use Rattle.overlay_extract.proofs.extract.extract_flat_shapes.Goals as goal

pub flat_assembled-requires-clause-long : goal.flat_assembled-requires-clause-long
flat_assembled-requires-clause-long g c =
    subst (λ cs. All (All (IsLong g.I.IntNumber.limit)) (walks_in (plain_contours g.I.IntNumber.whole cs)))
    (sym c.deref.ensures.value) c.in_ok-placed.ensures.long

pub flat_assembled-requires-clause-inside : goal.flat_assembled-requires-clause-inside
flat_assembled-requires-clause-inside g c =
    let whole = g.I.IntNumber.whole in
    subst (λ cs. AreInside (length (plain_contours whole cs)) (place_lists c.deref-2.result.now))
    (sym c.deref.ensures.value)
    (subst (λ ps. AreInside (length (plain_contours whole c.in_ok-placed.placed.contours.items)) (place_lists ps))
    (sym c.deref-2.ensures.value) c.in_ok-placed.ensures.placed.placed.inside)

pub returns-clause-result : goal.returns-clause-result
returns-clause-result g c =
    let whole = g.I.IntNumber.whole in
    let keep = c.args.options.preserve_output_collinear in
    let q = asked g.I.Wide.WideIntNumber.width g.I.WideUInt.UIntNumber.natural c.args.graph.fill_rule
    c.args.overlay_rule c.args.options in
    let cs = plain_contours whole c.in_ok-placed.placed.contours.items in
    let places = c.in_ok-placed.placed.places.items in
    let are = c.in_ok-placed.ensures.placed in
    IfOk-weaker c.flat_assembled.result
    (λ b. AreKeptOrThinned keep (points_of_shapes (walks_at cs (place_lists places)))
    (shapes_in whole b.points.items b.contour_ranges.items b.shape_ranges.items)) _
    (λ b shown. result_shown q (graph_edges c.args.graph) cs are.kept are.shapes are.found (place_lists places)
    are.placed (shapes_in whole b.points.items b.contour_ranges.items b.shape_ranges.items) shown)
    (subst (λ ps. IfOk c.flat_assembled.result (λ b. AreKeptOrThinned keep
    (points_of_shapes (walks_at cs (place_lists ps)))
    (shapes_in whole b.points.items b.contour_ranges.items b.shape_ranges.items))) c.deref-2.ensures.value
    (subst (λ ds. IfOk c.flat_assembled.result (λ b. AreKeptOrThinned keep
    (points_of_shapes (walks_at (plain_contours whole ds) (place_lists c.deref-2.result.now)))
    (shapes_in whole b.points.items b.contour_ranges.items b.shape_ranges.items))) c.deref.ensures.value
    c.flat_assembled.ensures.shapes))
