-- The kept contours can be bound and placed.
use Rattle.std.proofs.Common.{All, sym, subst}
use Rattle.overlay_plane.specs.BoundContours.{walks_in, AreShapesFound}
use Rattle.overlay_plane.specs.KeptContours.{CanBeBound}
use Rattle.overlay_plane.specs.PlacedContours.{CanBePlaced}
use Rattle.overlay_graph.specs.Graphs.{graph_edges}
use Rattle.overlay_walk.specs.Asked.{asked, is_kept, selected_of}
use Rattle.overlay_walk.specs.GroupedContours.{plain_contours}
use Rattle.overlay_walk.specs.Steps.{filled_hand, IsLong}
use Rattle.overlay_extract.specs.Placed.{ArePlacedSomehow}
use Rattle.overlay_extract.specs.Places.{place_lists}
use Rattle.overlay_extract.proofs.PlacedShapes.{can_be_placed}
use Rattle.overlay_extract.proofs.binding.placed.placed_contours.Goals as goal

pub bound_places-requires-clause-long : goal.bound_places-requires-clause-long
bound_places-requires-clause-long g c =
    subst (λ cs. All (All (IsLong g.I.IntNumber.limit)) (walks_in (plain_contours g.I.IntNumber.whole cs)))
    (sym c.deref.ensures.value) c.in_ok-contours.ensures.long

pub bound_places-requires-clause-bindable : goal.bound_places-requires-clause-bindable
bound_places-requires-clause-bindable g c =
    subst (λ cs. CanBeBound (filled_hand c.args.options.output_direction)
    (walks_in (plain_contours g.I.IntNumber.whole cs))) (sym c.deref.ensures.value)
    c.in_ok-contours.ensures.kept.bindable

pub bound_places-requires-clause-placeable : goal.bound_places-requires-clause-placeable
bound_places-requires-clause-placeable g c =
    let whole = g.I.IntNumber.whole in
    let filled = filled_hand c.args.options.output_direction in
    let q = asked g.I.Wide.WideIntNumber.width g.I.WideUInt.UIntNumber.natural (g.G.AsGraph.graph
    c.args.graph).fill_rule
    c.args.overlay_rule c.args.options in
    let cs = c.in_ok-contours.contours.items in
    subst (λ ds. (shapes : _) → AreShapesFound filled (plain_contours whole ds) shapes
    → CanBePlaced (plain_contours whole ds) shapes) (sym c.deref.ensures.value)
    (λ shapes found. can_be_placed q.ogc filled (is_kept q) (selected_of q (graph_edges (g.G.AsGraph.graph
    c.args.graph)))
    (plain_contours whole cs) c.in_ok-contours.ensures.kept.cut shapes found)

pub returns-clause-placed : goal.returns-clause-placed
returns-clause-placed g c =
    let whole = g.I.IntNumber.whole in
    let filled = filled_hand c.args.options.output_direction in
    let places = c.in_ok-places.places.items in
    let are : ArePlacedSomehow filled (plain_contours whole c.in_ok-contours.contours.items) (place_lists places) =
    subst (λ ds. ArePlacedSomehow filled (plain_contours whole ds) (place_lists places)) c.deref.ensures.value
    c.in_ok-places.ensures.placed in
    record { kept = c.in_ok-contours.ensures.kept; shapes = are.shapes; found = are.found; placed = are.placed }
