-- A further shape for a further list of places.
use Rattle.std.proofs.Common.{◌∷◌, ◌++◌, [], ◌+◌, ◌<◌, map, take, length, All, sym, ap, ◌∙◌, subst}
use Rattle.std.specs.List.{AllZip}
use Rattle.std.proofs.lemmas.List.{map-append}
use Rattle.std.proofs.lemmas.List.Elements.{AllZip-push}
use Rattle.overlay_geom.proofs.Mapped.{mapped_more, All-mapped_at}
use Rattle.overlay_geom.specs.Paths.{plain_shapes, paths_of_shape}
use Rattle.overlay_geom.specs.Plane.{points_of}
use Rattle.overlay_geom.specs.Thinned.{IsKeptOrThinned}
use Rattle.overlay_plane.specs.PlacedContours.{walk_at, walks_at}
use Rattle.overlay_plane.specs.ShapeWindings.{points_of_shapes, AreKeptOrThinned}
use Rattle.overlay_walk.specs.GroupedContours.{plain_contours}
use Rattle.overlay_extract.specs.Places.{place_list, place_lists}
use Rattle.overlay_extract.proofs.assemble.assembled.Goals as goal

pub shape_at-requires-clause-inside : goal.shape_at-requires-clause-inside
shape_at-requires-clause-inside g c =
    let cs = plain_contours g.I.IntNumber.whole c.args.contours.now in
    All-mapped_at (All (λ k. k < length cs)) place_list c.args.places.now c.loop-shape.shape-index
    c.shape-item.result c.loop-shape-test.true c.shape-item.is c.requires.inside

pub loop-shape-preserved : goal.loop-shape-preserved
loop-shape-preserved g c =
    let whole = g.I.IntNumber.whole in
    let keep = c.args.keeps_points in
    let cs = plain_contours whole c.args.contours.now in
    let k = c.loop-shape.shape-index in
    let ps = c.shape-item.result in
    let list = place_list ps in
    let before = place_lists (take k c.args.places.now) in
    let shape = c.in_ok-shape_at.field-0 in
    let shapes = c.loop-shape.shapes.items in
    subst (λ ss. AreKeptOrThinned keep
    (points_of_shapes (walks_at cs (place_lists (take (k + 1) c.args.places.now)))) ss)
    (sym (ap (plain_shapes whole) c.in_ok-push.ensures.items
    ∙ map-append (λ (s : _). paths_of_shape whole s.items) shapes (shape ∷ [])))
    (subst (λ ls. AreKeptOrThinned keep (points_of_shapes (walks_at cs ls))
    (plain_shapes whole shapes ++ paths_of_shape whole shape.items ∷ []))
    (sym (mapped_more place_list c.args.places.now k ps c.loop-shape-test.true c.shape-item.is))
    (subst (λ given. AreKeptOrThinned keep given (plain_shapes whole shapes ++ paths_of_shape whole shape.items ∷ []))
    (sym (ap points_of_shapes (map-append (map (walk_at cs)) before (list ∷ []))
    ∙ map-append (map points_of) (walks_at cs before) (map (walk_at cs) list ∷ [])))
    (AllZip-push (AllZip (IsKeptOrThinned keep)) (points_of_shapes (walks_at cs before)) (plain_shapes whole shapes)
    (map points_of (map (walk_at cs) list)) (paths_of_shape whole shape.items) c.loop-shape.invariant
    c.in_ok-shape_at.ensures.shape)))
