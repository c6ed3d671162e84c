-- The shapes of the contours at their places are the result.
use Rattle.std.proofs.Common.{All, length, sym, subst}
use Rattle.std.proofs.lemmas.Result.{IfOk-weaker}
use Rattle.std.specs.Prelude.{IfOk}
use Rattle.overlay_geom.specs.Paths.{plain_shapes}
use Rattle.overlay_plane.specs.BoundContours.{walks_in}
use Rattle.overlay_plane.specs.PlacedContours.{walks_at}
use Rattle.overlay_plane.specs.ShapeWindings.{points_of_shapes, AreKeptOrThinned}
use Rattle.overlay_graph.specs.Graphs.{graph_edges}
use Rattle.overlay_walk.specs.GroupedContours.{plain_contours}
use Rattle.overlay_walk.specs.Steps.{IsLong}
use Rattle.overlay_extract.specs.Places.{place_lists, AreInside}
use Rattle.overlay_extract.specs.Results.{asked}
use Rattle.overlay_extract.proofs.Results.{result_shown}
use Rattle.overlay_extract.proofs.extract.extract_shapes.Goals as goal

pub assembled-requires-clause-long : goal.assembled-requires-clause-long
assembled-requires-clause-long g c =
    subst (λ cs. All (All (IsLong g.I.IntNumber.limit)) (walks_in (plain_contours g.I.IntNumber.whole cs)))
    (sym c.deref.ensures.value) c.in_ok-placed.ensures.long

pub assembled-requires-clause-inside : goal.assembled-requires-clause-inside
assembled-requires-clause-inside g c =
    let whole = g.I.IntNumber.whole in
    subst (λ cs. AreInside (length (plain_contours whole cs)) (place_lists c.deref-2.result.now))
    (sym c.deref.ensures.value)
    (subst (λ ps. AreInside (length (plain_contours whole c.in_ok-placed.placed.contours.items)) (place_lists ps))
    (sym c.deref-2.ensures.value) c.in_ok-placed.ensures.placed.placed.inside)

pub returns : goal.returns
returns g c = record {
  result = let whole = g.I.IntNumber.whole in
      let keep = c.args.options.preserve_output_collinear in
      let q = asked g.I.Wide.WideIntNumber.width g.I.WideUInt.UIntNumber.natural (g.G.AsGraph.graph
      c.args.graph).fill_rule
      c.args.overlay_rule c.args.options in
      let cs = plain_contours whole c.in_ok-placed.placed.contours.items in
      let places = c.in_ok-placed.placed.places.items in
      let are = c.in_ok-placed.ensures.placed in
      IfOk-weaker c.assembled.result _ _
      (λ v shown. result_shown q (graph_edges (g.G.AsGraph.graph c.args.graph)) cs are.kept are.shapes are.found
      (place_lists places)
      are.placed (plain_shapes whole v.items) shown)
      (subst (λ ps. IfOk c.assembled.result (λ v. AreKeptOrThinned keep
      (points_of_shapes (walks_at cs (place_lists ps))) (plain_shapes whole v.items)))
      c.deref-2.ensures.value
      (subst (λ ds. IfOk c.assembled.result (λ v. AreKeptOrThinned keep
      (points_of_shapes (walks_at (plain_contours whole ds) (place_lists c.deref-2.result.now)))
      (plain_shapes whole v.items))) c.deref.ensures.value c.assembled.ensures.shapes));
}
