-- A further shape for a further list of places.
use Rattle.std.proofs.Common.{◌≡◌, ◌∷◌, ◌++◌, [], ◌+◌, ◌<◌, map, take, length, All, sym, ap, ◌∙◌, subst}
use Rattle.std.specs.List.{AllZip}
use Rattle.std.proofs.lemmas.List.{map-append}
use Rattle.std.proofs.lemmas.List.Elements.{AllZip-push}
use Rattle.overlay_geom.proofs.FlatShapes.{no_shapes_packed, shapes_added, packed_added}
use Rattle.overlay_geom.proofs.Mapped.{mapped_more, All-mapped_at}
use Rattle.overlay_geom.specs.Flat.{shapes_in}
use Rattle.overlay_geom.specs.FlatShapes.{AreShapesPacked}
use Rattle.overlay_geom.specs.Plane.{points_of}
use Rattle.overlay_geom.specs.Thinned.{IsKeptOrThinned}
use Rattle.overlay_plane.specs.PlacedContours.{walk_at, walks_at}
use Rattle.overlay_plane.specs.ShapeWindings.{points_of_shapes, AreKeptOrThinned}
use Rattle.overlay_walk.specs.GroupedContours.{plain_contours}
use Rattle.overlay_extract.specs.Places.{place_list, place_lists}
use Rattle.overlay_extract.proofs.flat_shapes.flat_assembled.Goals as goal

pub loop-shape-init : goal.loop-shape-init
loop-shape-init g c =
    let whole = g.I.IntNumber.whole in
    let keep = c.args.keeps_points in
    let b = c.in_ok-flat.flat in
    let none = c.in_ok-flat.ensures in
    record {
      shown = subst (λ ss. AreKeptOrThinned keep [] (shapes_in whole b.points.items b.contour_ranges.items ss))
          (sym none.shape_ranges) tt;
      packed = no_shapes_packed b.points.items b.contour_ranges.items b.shape_ranges.items none.points
          none.contour_ranges none.shape_ranges;
    }

pub push_shape-requires-clause-inside : goal.push_shape-requires-clause-inside
push_shape-requires-clause-inside g c =
    let cs = plain_contours g.I.IntNumber.whole c.args.contours.now in
    All-mapped_at (All (λ k. k < length cs)) place_list c.args.places.now c.loop-shape.shape-index
    c.shape-item.result c.loop-shape-test.true c.shape-item.is c.requires.inside

pub loop-shape-preserved : goal.loop-shape-preserved
loop-shape-preserved g c =
    let whole = g.I.IntNumber.whole in
    let keep = c.args.keeps_points in
    let cs = plain_contours whole c.args.contours.now in
    let k = c.loop-shape.shape-index in
    let ps = c.shape-item.result in
    let before = place_lists (take k c.args.places.now) in
    let old = c.loop-shape.flat in
    let new = c.push_shape.new.flat in
    let is = c.in_ok-push_shape.ensures in
    let packed = c.loop-shape.invariant.packed in
    let list = place_list ps in
    let shape = map points_of (map (walk_at cs) list) in
    let taken = is.contours in
    let given : points_of_shapes (walks_at cs before) ++ shape ∷ []
    ≡ points_of_shapes (walks_at cs (place_lists (take (k + 1) c.args.places.now)))
    = sym (ap (λ ls. points_of_shapes (walks_at cs ls)) (mapped_more place_list c.args.places.now k ps
    c.loop-shape-test.true c.shape-item.is)
    ∙ ap points_of_shapes (map-append (map (walk_at cs)) before (list ∷ []))
    ∙ map-append (map points_of) (walks_at cs before) (map (walk_at cs) list ∷ [])) in
    let shown : shapes_in whole old.points.items old.contour_ranges.items old.shape_ranges.items ++ taken.paths ∷ []
    ≡ shapes_in whole new.points.items new.contour_ranges.items new.shape_ranges.items
    = sym (ap (shapes_in whole new.points.items new.contour_ranges.items) is.shape
    ∙ shapes_added whole old.points.items new.points.items old.contour_ranges.items new.contour_ranges.items
    old.shape_ranges.items taken.paths taken.added packed) in
    record {
      shown = subst (λ gs. AreKeptOrThinned keep gs
          (shapes_in whole new.points.items new.contour_ranges.items new.shape_ranges.items)) given
          (subst (AreKeptOrThinned keep (points_of_shapes (walks_at cs before) ++ shape ∷ [])) shown
          (AllZip-push (AllZip (IsKeptOrThinned keep)) (points_of_shapes (walks_at cs before))
          (shapes_in whole old.points.items old.contour_ranges.items old.shape_ranges.items) shape taken.paths
          c.loop-shape.invariant.shown taken.taken));
      packed = subst (AreShapesPacked new.points.items new.contour_ranges.items) (sym is.shape)
          (packed_added whole old.points.items new.points.items old.contour_ranges.items new.contour_ranges.items
          old.shape_ranges.items taken.paths taken.added packed);
    }
