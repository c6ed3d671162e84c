-- One shape more stands at one list of places more.
use Rattle.std.proofs.Common.{◌∷◌, ◌++◌, [], ◌+◌, ◌<◌, map, take, length, All, sym, ap, ◌∙◌, subst, rules}
use Rattle.std.specs.List.{AllZip}
use Rattle.std.proofs.lemmas.List.{map-append}
use Rattle.overlay_geom.proofs.Mapped.{AllZip-more, mapped_more, All-mapped_at}
use Rattle.overlay_plane.specs.PlacedContours.{walk_at, walks_at}
use Rattle.overlay_parts.proofs.ReachedStores.{never_written, reached_on}
use Rattle.overlay_walk.specs.GroupedContours.{plain_contours}
use Rattle.overlay_extract.specs.Places.{place_list, place_lists}
use Rattle.overlay_vector.specs.VectorShapes.{plain_vector_shape, plain_vector_shapes, IsVectorContour}
use Rattle.overlay_vector.proofs.vector_contours.assembled.Goals as goal

pub shape_at-requires-clause-inside : goal.shape_at-requires-clause-inside
shape_at-requires-clause-inside g c =
    let cs = plain_contours g.I.IntNumber.whole c.args.contours.now in
    All-mapped_at (All (λ k. k < length cs)) place_list c.args.places.now c.loop-shape.shape-index
    c.shape-item.result c.loop-shape-test.true c.shape-item.is c.requires.inside

pub loop-shape-preserved : goal.loop-shape-preserved
loop-shape-preserved g c =
    let whole = g.I.IntNumber.whole in
    let is = IsVectorContour g.D.OverlayEdgeData.reverses g.D.PartialEq.eq c.args.graph.now.fill_rule
    c.args.keeps_edges c.args.graph.now.edges in
    let cs = plain_contours whole c.args.contours.now in
    let k = c.loop-shape.shape-index in
    let ps = c.shape-item.result in
    let list = place_list ps in
    let before = place_lists (take k c.args.places.now) in
    let shape = c.in_ok-shape_at.field-0 in
    let shapes = c.loop-shape.shapes.items in (
      subst (λ ss. AllZip (AllZip is) (walks_at cs (place_lists (take (k + 1) c.args.places.now))) ss)
          (sym (ap (plain_vector_shapes whole) c.in_ok-push.ensures.items
          ∙ map-append (λ (s : _). plain_vector_shape whole s.items) shapes (shape ∷ [])))
          (subst (λ ls. AllZip (AllZip is) (walks_at cs ls)
          (plain_vector_shapes whole shapes ++ plain_vector_shape whole shape.items ∷ []))
          (sym (mapped_more place_list c.args.places.now k ps c.loop-shape-test.true c.shape-item.is))
          (subst (λ given. AllZip (AllZip is) given
          (plain_vector_shapes whole shapes ++ plain_vector_shape whole shape.items ∷ []))
          (sym (map-append (map (walk_at cs)) before (list ∷ [])))
          (AllZip-more (AllZip is) (walks_at cs before) (plain_vector_shapes whole shapes) (map (walk_at cs) list)
          (plain_vector_shape whole shape.items) c.loop-shape.invariant.0 c.in_ok-shape_at.ensures.shape))),
      reached_on g.D.OverlayEdgeData.writes _ _ _ c.loop-shape.invariant.1 c.in_ok-shape_at.ensures.store,
    )

pub loop-shape-init : goal.loop-shape-init
loop-shape-init g c = (search rules, never_written g.D.OverlayEdgeData.writes c.args.store.now)

pub returns-in_err-shape_at-clause-store : goal.returns-in_err-shape_at-clause-store
returns-in_err-shape_at-clause-store g c =
    reached_on g.D.OverlayEdgeData.writes _ _ _ c.loop-shape.invariant.1 c.in_err-shape_at.ensures.store

pub returns-in_err-push-clause-store : goal.returns-in_err-push-clause-store
returns-in_err-push-clause-store g c =
    reached_on g.D.OverlayEdgeData.writes _ _ _ c.loop-shape.invariant.1 c.in_ok-shape_at.ensures.store
