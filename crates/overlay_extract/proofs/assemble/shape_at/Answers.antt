-- A further contour for a further place.
use Rattle.std.proofs.Common.{◌∷◌, ◌++◌, [], ◌+◌, ◌<◌, map, take, length, All, sym, ap, ◌∙◌, subst, arith}
use Rattle.std.specs.List.{AllZip}
use Rattle.std.proofs.lemmas.List.{length-map, map-append, take_all}
use Rattle.std.proofs.lemmas.List.Elements.{AllZip-push}
use Rattle.overlay_geom.proofs.Mapped.{read_mapped}
use Rattle.overlay_geom.specs.Paths.{paths_of_shape}
use Rattle.overlay_geom.specs.Plane.{points_of}
use Rattle.overlay_geom.specs.Points.{plain_points}
use Rattle.overlay_geom.specs.Thinned.{IsKeptOrThinned}
use Rattle.overlay_plane.specs.PlacedContours.{walk_at}
use Rattle.overlay_walk.specs.GroupedContours.{plain_contour, plain_contours}
use Rattle.overlay_walk.specs.Steps.{plain_steps, IsLong}
use Rattle.overlay_extract.specs.Places.{place_list}
use Rattle.overlay_extract.proofs.HolesPlaced.{walk_there, place_inside, place_behind}
use Rattle.overlay_extract.proofs.PlacedShapes.{walk_has}
use Rattle.overlay_extract.proofs.assemble.shape_at.Goals as goal

pub bounds-contours-place : goal.bounds-contours-place
bounds-contours-place g c =
    let long = length-map c.args.contours.now (plain_contour g.I.IntNumber.whole) in
    let places = place_list c.args.places.now in
    let inside = place_inside places c.loop-i.i c.place-place.result c.place-place.ensures
    (omega (arith, c.loop-i-test.true, c.count-count.ensures))
    (length (plain_contours g.I.IntNumber.whole c.args.contours.now)) c.requires.inside in
    omega (arith, long, inside)

pub contour_in-requires : goal.contour_in-requires
contour_in-requires g c =
    let whole = g.I.IntNumber.whole in
    let plain = plain_contour whole in
    let cs = plain_contours whole c.args.contours.now in
    let places = place_list c.args.places.now in
    let place = c.place-place.result in
    let here : c.loop-i.i < length places = omega (arith, c.loop-i-test.true, c.count-count.ensures) in
    let x = c.index-contours-place.result in
    let long = length-map c.args.contours.now plain in
    let inside : place < length cs =
    place_inside places c.loop-i.i place c.place-place.ensures here (length cs) c.requires.inside in
    let walk = walk_there cs place (plain x) inside
    (read_mapped plain c.args.contours.now place x (plain x) (omega (arith, inside, long)) c.index-contours-place.is) in
    subst (λ ss. All (IsLong g.I.IntNumber.limit) (plain_steps whole ss))
    (sym (c.deref.ensures.value ∙ ap (λ (y : _). y.steps.items) (sym c.index-contours-place.is)))
    (subst (All (IsLong g.I.IntNumber.limit)) walk
    (walk_has (All (IsLong g.I.IntNumber.limit)) cs place c.requires.long inside))

pub loop-i-preserved : goal.loop-i-preserved
loop-i-preserved g c =
    let whole = g.I.IntNumber.whole in
    let plain = plain_contour whole in
    let keep = c.args.keeps_points in
    let cs = plain_contours whole c.args.contours.now in
    let i = c.loop-i.i in
    let places = place_list c.args.places.now in
    let place = c.place-place.result in
    let here : c.loop-i.i < length places = omega (arith, c.loop-i-test.true, c.count-count.ensures) in
    let x = c.index-contours-place.result in
    let long = length-map c.args.contours.now plain in
    let inside : place < length cs =
    place_inside places c.loop-i.i place c.place-place.ensures here (length cs) c.requires.inside in
    let walk = walk_there cs place (plain x) inside
    (read_mapped plain c.args.contours.now place x (plain x) (omega (arith, inside, long)) c.index-contours-place.is) in
    let contour = c.in_ok-contour_in.field-0 in
    let before = take i places in
    let shape = c.loop-i.shape.items in
    let taken : IsKeptOrThinned keep (points_of (walk_at cs place)) (plain_points whole contour.items) =
    subst (λ w. IsKeptOrThinned keep (points_of w) (plain_points whole contour.items)) (sym walk)
    (subst (λ ss. IsKeptOrThinned keep (points_of (plain_steps whole ss)) (plain_points whole contour.items))
    (c.deref.ensures.value ∙ ap (λ (y : _). y.steps.items) (sym c.index-contours-place.is))
    c.in_ok-contour_in.ensures.ok) in
    subst (AllZip (IsKeptOrThinned keep) (map points_of (map (walk_at cs) (take (i + 1) places))))
    (sym (ap (paths_of_shape whole) c.in_ok-push.ensures.items
    ∙ map-append (λ (k : _). plain_points whole k.items) shape (contour ∷ [])))
    (subst (λ given. AllZip (IsKeptOrThinned keep) given
    (paths_of_shape whole shape ++ plain_points whole contour.items ∷ []))
    (sym (ap (λ ps. map points_of (map (walk_at cs) ps)) (place_behind places i place c.place-place.ensures here)
    ∙ ap (map points_of) (map-append (walk_at cs) before (place ∷ []))
    ∙ map-append points_of (map (walk_at cs) before) (walk_at cs place ∷ [])))
    (AllZip-push (IsKeptOrThinned keep) (map points_of (map (walk_at cs) before)) (paths_of_shape whole shape)
    (points_of (walk_at cs place)) (plain_points whole contour.items) c.loop-i.invariant taken))

pub returns : goal.returns
returns g c = record {
  shape = let whole = g.I.IntNumber.whole in
      subst (λ ps. AllZip (IsKeptOrThinned c.args.keeps_points)
      (map points_of (map (walk_at (plain_contours whole c.args.contours.now)) ps))
      (paths_of_shape whole c.loop-i.shape.items))
      (take_all c.loop-i.i (place_list c.args.places.now)
      (let past = c.loop-i-test.false in omega (arith, past, c.count-count.ensures))) c.loop-i.invariant;
}
