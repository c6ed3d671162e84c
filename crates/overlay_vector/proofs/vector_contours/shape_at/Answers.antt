-- One contour more stands at one place more.
use Rattle.std.proofs.Common.{◌∷◌, ◌++◌, [], ◌+◌, ◌<◌, map, take, length, All, sym, ap, ◌∙◌, subst}
use Rattle.std.proofs.Common.{arith, rules}
use Rattle.std.specs.List.{AllZip}
use Rattle.std.proofs.lemmas.List.{length-map, map-append, take_all}
use Rattle.overlay_geom.specs.Edges.{all_ends}
use Rattle.overlay_geom.proofs.Mapped.{AllZip-more, read_mapped}
use Rattle.overlay_plane.specs.PlacedContours.{walk_at}
use Rattle.overlay_graph.specs.Graphs.{graph_edges}
use Rattle.overlay_parts.proofs.ReachedStores.{never_written, reached_on}
use Rattle.overlay_walk.specs.GroupedContours.{plain_contour, plain_contours}
use Rattle.overlay_walk.specs.Steps.{plain_steps, RunsAlong}
use Rattle.overlay_extract.specs.Places.{place_list}
use Rattle.overlay_extract.proofs.HolesPlaced.{walk_there, place_inside, place_behind}
use Rattle.overlay_vector.specs.DataVectors.{plain_data_vectors}
use Rattle.overlay_vector.specs.VectorShapes.{plain_vector_shape, IsVectorContour}
use Rattle.overlay_vector.proofs.vector_contours.shape_at.Goals as goal

pub bounds-contours-place : goal.bounds-contours-place
bounds-contours-place g c =
    let long = length-map c.args.contours.now (plain_contour g.I.IntNumber.whole) in
    let places = place_list c.args.places.now in
    let inside = place_inside places c.loop-i.i c.place-place.result c.place-place.ensures
    (omega (arith, c.loop-i-test.true, c.count-i-end.ensures))
    (length (plain_contours g.I.IntNumber.whole c.args.contours.now)) c.requires.inside in
    omega (arith, long, inside)

pub contour-requires : goal.contour-requires
contour-requires g c =
    let whole = g.I.IntNumber.whole in
    let plain = plain_contour whole in
    let cs = plain_contours whole c.args.contours.now in
    let places = place_list c.args.places.now in
    let place = c.place-place.result in
    let here : c.loop-i.i < length places = omega (arith, c.loop-i-test.true, c.count-i-end.ensures) in
    let x = c.index-contours-place.result in
    let long = length-map c.args.contours.now plain in
    let along = RunsAlong whole (all_ends (graph_edges c.args.graph.now)) in
    let inside : place < length cs =
    place_inside places c.loop-i.i place c.place-place.ensures here (length cs) c.requires.inside in
    subst (All along) (sym c.deref.ensures.value) (c.requires.along place x (omega (arith, inside, long)))

pub loop-i-preserved : goal.loop-i-preserved
loop-i-preserved g c =
    let whole = g.I.IntNumber.whole in
    let plain = plain_contour whole in
    let is = IsVectorContour g.D.OverlayEdgeData.reverses g.D.PartialEq.eq c.args.graph.now.fill_rule
    c.args.keeps_edges c.args.graph.now.edges in
    let cs = plain_contours whole c.args.contours.now in
    let i = c.loop-i.i in
    let places = place_list c.args.places.now in
    let place = c.place-place.result in
    let here : c.loop-i.i < length places = omega (arith, c.loop-i-test.true, c.count-i-end.ensures) in
    let x = c.index-contours-place.result in
    let long = length-map c.args.contours.now plain in
    let inside : place < length cs =
    place_inside places c.loop-i.i place c.place-place.ensures here (length cs) c.requires.inside in
    let walk = walk_there cs place (plain x) inside
    (read_mapped plain c.args.contours.now place x (plain x) (omega (arith, inside, long)) c.index-contours-place.is) in
    let contour = c.in_ok-contour.field-0 in
    let before = take i places in
    let shape = c.loop-i.shape.items in
    let taken : is (walk_at cs place) (plain_data_vectors whole contour.items) =
    subst (λ w. is w (plain_data_vectors whole contour.items)) (sym walk)
    (subst (λ ss. is (plain_steps whole ss) (plain_data_vectors whole contour.items))
    (c.deref.ensures.value ∙ ap (λ (y : _). y.steps.items) (sym c.index-contours-place.is))
    c.in_ok-contour.ensures.ok) in (
      subst (AllZip is (map (walk_at cs) (take (i + 1) places)))
          (sym (ap (plain_vector_shape whole) c.in_ok-push.ensures.items
          ∙ map-append (λ (k : _). plain_data_vectors whole k.items) shape (contour ∷ [])))
          (subst (λ given. AllZip is given
          (plain_vector_shape whole shape ++ plain_data_vectors whole contour.items ∷ []))
          (sym (ap (map (walk_at cs)) (place_behind places i place c.place-place.ensures here)
          ∙ map-append (walk_at cs) before (place ∷ [])))
          (AllZip-more is (map (walk_at cs) before) (plain_vector_shape whole shape)
          (walk_at cs place) (plain_data_vectors whole contour.items) c.loop-i.invariant.0 taken)),
      reached_on g.D.OverlayEdgeData.writes _ _ _ c.loop-i.invariant.1 c.in_ok-contour.ensures.store,
    )

pub returns-clause-shape : goal.returns-clause-shape
returns-clause-shape g c =
    let whole = g.I.IntNumber.whole in
    subst (λ ps. AllZip (IsVectorContour g.D.OverlayEdgeData.reverses g.D.PartialEq.eq c.args.graph.now.fill_rule
    c.args.keeps_edges c.args.graph.now.edges)
    (map (walk_at (plain_contours whole c.args.contours.now)) ps) (plain_vector_shape whole c.loop-i.shape.items))
    (take_all c.loop-i.i (place_list c.args.places.now)
    (let past = c.loop-i-test.false in omega (arith, past, c.count-i-end.ensures))) c.loop-i.invariant.0

pub loop-i-init : goal.loop-i-init
loop-i-init g c = (search rules, never_written g.D.OverlayEdgeData.writes c.args.store.now)

pub returns-in_err-contour-clause-store : goal.returns-in_err-contour-clause-store
returns-in_err-contour-clause-store g c =
    reached_on g.D.OverlayEdgeData.writes _ _ _ c.loop-i.invariant.1 c.in_err-contour.ensures.store

pub returns-in_err-push-clause-store : goal.returns-in_err-push-clause-store
returns-in_err-push-clause-store g c =
    reached_on g.D.OverlayEdgeData.writes _ _ _ c.loop-i.invariant.1 c.in_ok-contour.ensures.store
