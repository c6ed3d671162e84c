-- The contours of slices can be placed, and what shows them in the direction is the answer.
use Rattle.std.proofs.Common.{All, length, map, sym, ap, subst, ◌∙◌}
use Rattle.overlay_geom.specs.Paths.{plain_shapes}
use Rattle.overlay_plane.specs.BoundContours.{walks_in}
use Rattle.overlay_plane.specs.PlacedContours.{CanBePlaced, ArePlaced, walks_at}
use Rattle.overlay_plane.specs.ShapeWindings.{points_of_shapes}
use Rattle.overlay_plane.specs.Turn.Hand.{left}
use Rattle.overlay_graph.specs.Graphs.{graph_edges}
use Rattle.overlay_walk.specs.GroupedContours.{plain_contours}
use Rattle.overlay_walk.specs.Steps.{IsLong}
use Rattle.overlay_extract.specs.Places.{place_lists, AreInside}
use Rattle.overlay_extract.proofs.Results.{same_shapes}
use Rattle.overlay_extract.specs.Sliced.{in_direction, IsSliced}
use Rattle.overlay_extract.proofs.RoledLoops.{roles_can_be_placed}
use Rattle.overlay_extract.proofs.SidesByBits.{balanced_arrangement}
use Rattle.overlay_extract.proofs.SlicesShown.{sliced}
use Rattle.overlay_extract.proofs.slicing.sliced_shapes.sliced_shapes.Goals as goal

pub shape_places-requires : goal.shape_places-requires
shape_places-requires g c =
    let whole = g.I.IntNumber.whole in
    let slices = c.in_ok-slices.slices in
    let are = c.in_ok-slices.ensures.slices in
    subst (CanBePlaced (plain_contours whole c.deref.result.now)) (sym c.deref-2.ensures.value)
    (subst (λ ds. CanBePlaced (plain_contours whole ds) slices.shapes.items) (sym c.deref.ensures.value)
    (roles_can_be_placed left (plain_contours whole slices.contours.items) are.contours_are.roles slices.shapes.items
    are.bound))

pub assembled-requires-clause-long : goal.assembled-requires-clause-long
assembled-requires-clause-long g c =
    subst (λ cs. All (All (IsLong g.I.IntNumber.limit)) (walks_in (plain_contours g.I.IntNumber.whole cs)))
    (sym c.deref-3.ensures.value) c.in_ok-slices.ensures.long

pub assembled-requires-clause-inside : goal.assembled-requires-clause-inside
assembled-requires-clause-inside g c =
    let whole = g.I.IntNumber.whole in
    let slices = c.in_ok-slices.slices in
    let places = c.in_ok-places.places.items in
    let placed = rw (c.deref.ensures.value, c.deref-2.ensures.value) at c.in_ok-places.ensures.placed in
    subst (λ cs. AreInside (length (plain_contours whole cs)) (place_lists c.deref-4.result.now))
    (sym c.deref-3.ensures.value)
    (subst (λ ps. AreInside (length (plain_contours whole slices.contours.items)) (place_lists ps))
    (sym c.deref-4.ensures.value) placed.inside)

pub returns : goal.returns
returns g c = record {
  sliced = let whole = g.I.IntNumber.whole in
      let graph = c.args.graph.now in
      let es = graph_edges graph in
      let min = g.I.WideUInt.UIntNumber.natural c.args.min_output_area in
      let direction = c.args.direction in
      let slices = c.in_ok-slices.slices in
      let cs = plain_contours whole slices.contours.items in
      let are = c.in_ok-slices.ensures.slices in
      let placed : ArePlaced cs slices.shapes.items (place_lists c.in_ok-places.places.items)
      = rw (c.deref.ensures.value, c.deref-2.ensures.value) at c.in_ok-places.ensures.placed in
      let shapes = c.in_ok-shapes.shapes.items in
      let shown = rw (c.deref-3.ensures.value, c.deref-4.ensures.value) at c.in_ok-shapes.ensures.shapes in
      subst (IsSliced g.I.Wide.WideIntNumber.width min graph.fill_rule direction es)
      (sym (c.bring_in_direction.ensures
      ∙ ap (map (map (in_direction direction)))
      (same_shapes (points_of_shapes (walks_at cs (place_lists c.in_ok-places.places.items)))
      (plain_shapes whole shapes)
      shown ∙ ap points_of_shapes placed.are)))
      (sliced g.I.Wide.WideIntNumber.width min graph.fill_rule direction es
      (balanced_arrangement g.I.IntNumber.limit es c.allocator.ensures.arranged c.requires) cs slices.shapes.items are);
}
