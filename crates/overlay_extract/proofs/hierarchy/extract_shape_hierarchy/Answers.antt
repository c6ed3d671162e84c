-- The contours in the order of their shapes have the links.
use Rattle.std.proofs.Common.{◌≡◌, All, length, map, sym, ap, ◌∙◌, subst}
use Rattle.overlay_geom.specs.Paths.{plain_shapes}
use Rattle.overlay_plane.specs.BoundContours.{walks_in}
use Rattle.overlay_plane.specs.Islands.{AreInShapes, AreLinks}
use Rattle.overlay_plane.specs.KeptContours.{CanBeBound}
use Rattle.overlay_plane.specs.PlacedContours.{walks_at}
use Rattle.overlay_plane.specs.RoledContours.{group_contours_from}
use Rattle.overlay_plane.specs.ShapeWindings.{points_of_shapes, AreKeptOrThinned}
use Rattle.overlay_graph.specs.Graphs.{graph_edges}
use Rattle.overlay_walk.specs.GroupedContours.{plain_contours}
use Rattle.overlay_walk.specs.Steps.{filled_hand, IsLong}
use Rattle.overlay_extract.specs.ChildLinks.{plain_link}
use Rattle.overlay_extract.specs.InShapes.{AreBegun}
use Rattle.overlay_extract.specs.PlacedResults.{IsHierarchy}
use Rattle.overlay_extract.specs.Places.{place_lists, AreInside}
use Rattle.overlay_extract.specs.Results.{asked}
use Rattle.overlay_extract.proofs.GroupsInShapes.{groups_in_shapes}
use Rattle.overlay_extract.proofs.Hierarchies.{places_begun, ordered, ordered_have, ordered_bindable}
use Rattle.overlay_extract.proofs.Hierarchies.{hierarchy_shown}
use Rattle.overlay_extract.proofs.hierarchy.extract_shape_hierarchy.Goals as goal

pub assembled-requires-clause-long : goal.assembled-requires-clause-long
assembled-requires-clause-long g c =
    subst (λ cs. All (All (IsLong g.I.IntNumber.limit)) (walks_in (plain_contours g.I.IntNumber.whole cs)))
    (sym c.deref.ensures.value) c.in_ok-placed.ensures.long

pub assembled-requires-clause-inside : goal.assembled-requires-clause-inside
assembled-requires-clause-inside g c =
    let whole = g.I.IntNumber.whole in
    subst (λ cs. AreInside (length (plain_contours whole cs)) (place_lists c.deref-2.result.now))
    (sym c.deref.ensures.value)
    (subst (λ ps. AreInside (length (plain_contours whole c.in_ok-placed.placed.contours.items)) (place_lists ps))
    (sym c.deref-2.ensures.value) c.in_ok-placed.ensures.placed.placed.inside)

pub in_shapes-requires-clause-inside : goal.in_shapes-requires-clause-inside
in_shapes-requires-clause-inside g c =
    let whole = g.I.IntNumber.whole in
    subst (λ cs. AreInside (length (plain_contours whole cs)) (place_lists c.deref-4.result.now))
    (sym c.deref-3.ensures.value)
    (subst (λ ps. AreInside (length (plain_contours whole c.in_ok-placed.placed.contours.items)) (place_lists ps))
    (sym c.deref-4.ensures.value) c.in_ok-placed.ensures.placed.placed.inside)

pub in_shapes-requires-clause-begun : goal.in_shapes-requires-clause-begun
in_shapes-requires-clause-begun g c =
    let whole = g.I.IntNumber.whole in
    let q = asked g.I.Wide.WideIntNumber.width g.I.WideUInt.UIntNumber.natural c.args.graph.now.fill_rule
    c.args.overlay_rule c.args.options in
    subst (λ ps. AreBegun (place_lists ps)) (sym c.deref-4.ensures.value)
    (places_begun q (graph_edges c.args.graph.now) (plain_contours whole c.in_ok-placed.placed.contours.items)
    (place_lists c.in_ok-placed.placed.places.items) c.in_ok-placed.ensures.placed)

pub link_from-requires-clause-long : goal.link_from-requires-clause-long
link_from-requires-clause-long g c =
    let whole = g.I.IntNumber.whole in
    let q = asked g.I.Wide.WideIntNumber.width g.I.WideUInt.UIntNumber.natural c.args.graph.now.fill_rule
    c.args.overlay_rule c.args.options in
    let es = graph_edges c.args.graph.now in
    let cs = plain_contours whole c.in_ok-placed.placed.contours.items in
    let places = place_lists c.in_ok-placed.placed.places.items in
    let same : plain_contours whole c.deref-5.result.now ≡ ordered q es cs places c.in_ok-placed.ensures.placed =
    ap (plain_contours whole) c.deref-5.ensures.value ∙ c.in_ok-ordered.ensures.ok
    ∙ ap (λ ds. group_contours_from 0 (walks_at (plain_contours whole ds) (place_lists c.deref-4.result.now)))
    c.deref-3.ensures.value
    ∙ ap (λ ps. group_contours_from 0 (walks_at cs (place_lists ps))) c.deref-4.ensures.value in
    subst (λ ds. All (All (IsLong g.I.IntNumber.limit)) (walks_in ds)) (sym same)
    (ordered_have q es cs places c.in_ok-placed.ensures.placed (All (IsLong g.I.IntNumber.limit))
    c.in_ok-placed.ensures.long)

pub link_from-requires-clause-bindable : goal.link_from-requires-clause-bindable
link_from-requires-clause-bindable g c =
    let whole = g.I.IntNumber.whole in
    let q = asked g.I.Wide.WideIntNumber.width g.I.WideUInt.UIntNumber.natural c.args.graph.now.fill_rule
    c.args.overlay_rule c.args.options in
    let es = graph_edges c.args.graph.now in
    let cs = plain_contours whole c.in_ok-placed.placed.contours.items in
    let places = place_lists c.in_ok-placed.placed.places.items in
    let same : plain_contours whole c.deref-5.result.now ≡ ordered q es cs places c.in_ok-placed.ensures.placed =
    ap (plain_contours whole) c.deref-5.ensures.value ∙ c.in_ok-ordered.ensures.ok
    ∙ ap (λ ds. group_contours_from 0 (walks_at (plain_contours whole ds) (place_lists c.deref-4.result.now)))
    c.deref-3.ensures.value
    ∙ ap (λ ps. group_contours_from 0 (walks_at cs (place_lists ps))) c.deref-4.ensures.value in
    subst (λ ds. CanBeBound (filled_hand c.args.options.output_direction) (walks_in ds)) (sym same)
    (ordered_bindable q es cs places c.in_ok-placed.ensures.placed)

pub link_from-requires-clause-in_shapes : goal.link_from-requires-clause-in_shapes
link_from-requires-clause-in_shapes g c =
    let whole = g.I.IntNumber.whole in
    let q = asked g.I.Wide.WideIntNumber.width g.I.WideUInt.UIntNumber.natural c.args.graph.now.fill_rule
    c.args.overlay_rule c.args.options in
    let es = graph_edges c.args.graph.now in
    let cs = plain_contours whole c.in_ok-placed.placed.contours.items in
    let places = place_lists c.in_ok-placed.placed.places.items in
    let same : plain_contours whole c.deref-5.result.now ≡ ordered q es cs places c.in_ok-placed.ensures.placed =
    ap (plain_contours whole) c.deref-5.ensures.value ∙ c.in_ok-ordered.ensures.ok
    ∙ ap (λ ds. group_contours_from 0 (walks_at (plain_contours whole ds) (place_lists c.deref-4.result.now)))
    c.deref-3.ensures.value
    ∙ ap (λ ps. group_contours_from 0 (walks_at cs (place_lists ps))) c.deref-4.ensures.value in
    subst AreInShapes (sym same) (groups_in_shapes (walks_at cs places))

pub returns-clause-hierarchy : goal.returns-clause-hierarchy
returns-clause-hierarchy g c =
    let whole = g.I.IntNumber.whole in
    let q = asked g.I.Wide.WideIntNumber.width g.I.WideUInt.UIntNumber.natural c.args.graph.now.fill_rule
    c.args.overlay_rule c.args.options in
    let es = graph_edges c.args.graph.now in
    let cs = plain_contours whole c.in_ok-placed.placed.contours.items in
    let places = place_lists c.in_ok-placed.placed.places.items in
    let same : plain_contours whole c.deref-5.result.now ≡ ordered q es cs places c.in_ok-placed.ensures.placed =
    ap (plain_contours whole) c.deref-5.ensures.value ∙ c.in_ok-ordered.ensures.ok
    ∙ ap (λ ds. group_contours_from 0 (walks_at (plain_contours whole ds) (place_lists c.deref-4.result.now)))
    c.deref-3.ensures.value
    ∙ ap (λ ps. group_contours_from 0 (walks_at cs (place_lists ps))) c.deref-4.ensures.value in
    let keep = c.args.options.preserve_output_collinear in
    let links = map plain_link c.in_ok-links.links.items in
    let shapes = plain_shapes whole c.in_ok-shapes.shapes.items in
    let shown : AreKeptOrThinned keep (points_of_shapes (walks_at cs places)) shapes =
    subst (λ ps. AreKeptOrThinned keep (points_of_shapes (walks_at cs (place_lists ps))) shapes)
    c.deref-2.ensures.value
    (subst (λ ds. AreKeptOrThinned keep
    (points_of_shapes (walks_at (plain_contours whole ds) (place_lists c.deref-2.result.now))) shapes)
    c.deref.ensures.value c.in_ok-shapes.ensures.shapes) in
    subst (λ ss. IsHierarchy q es ss links)
    (sym (c.in-Ok.ensures.shapes ∙ ap (plain_shapes whole) c.deref-6.ensures.value))
    (hierarchy_shown q es cs places c.in_ok-placed.ensures.placed shapes shown links
    (subst (λ ds. AreLinks (filled_hand c.args.options.output_direction) ds links) same c.in_ok-links.ensures.links)
    c.in_ok-links.ensures.children)
