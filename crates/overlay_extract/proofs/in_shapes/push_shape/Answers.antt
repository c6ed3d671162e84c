-- A further contour for a further place; the first is the outline.
use Rattle.std.proofs.Common.{◌≡◌, List, ◌∷◌, ◌++◌, [], ◌<◌, map, take, length, sym, ap, ap₂, ◌∙◌, arith}
use Rattle.std.proofs.Common.{append_assoc, append-nil}
use Rattle.std.proofs.lemmas.List.{length-map, map-append, take_all}
use Rattle.overlay_geom.specs.Plane.{Step}
use Rattle.overlay_geom.proofs.Mapped.{read_mapped}
use Rattle.overlay_plane.specs.PlacedContours.{walk_at}
use Rattle.overlay_plane.specs.RoledContours.{Role}
use Rattle.overlay_walk.specs.GroupedContours.{plain_contour, plain_contours, plain_role, contours_of_group}
use Rattle.overlay_walk.specs.Steps.{plain_steps}
use Rattle.overlay_extract.proofs.GroupsInShapes.{group_longer, role_next, role_of_next}
use Rattle.overlay_extract.specs.Places.{place_list}
use Rattle.overlay_extract.proofs.HolesPlaced.{walk_there, place_inside, place_behind}
use Rattle.overlay_extract.proofs.in_shapes.push_shape.Goals as goal

pub bounds-contours-place : goal.bounds-contours-place
bounds-contours-place g c =
    let long = length-map c.args.contours.now (plain_contour g.I.IntNumber.whole) in
    let places = place_list c.args.places.now in
    let inside = place_inside places c.loop-i.i c.place-place.result c.place-place.ensures
    (omega (arith, c.loop-i-test.true, c.count-i-end.ensures))
    (length (plain_contours g.I.IntNumber.whole c.args.contours.now)) c.requires.inside in
    omega (arith, long, inside)

pub loop-i-init : goal.loop-i-init
loop-i-init g c = sym (append-nil (plain_contours g.I.IntNumber.whole c.args.ordered.now.items))

pub loop-i-preserved : goal.loop-i-preserved
loop-i-preserved g c =
    let whole = g.I.IntNumber.whole in
    let plain = plain_contour whole in
    let cs = plain_contours whole c.args.contours.now in
    let n = c.args.number in
    let i = c.loop-i.i in
    let places = place_list c.args.places.now in
    let place = c.place-place.result in
    let here : c.loop-i.i < length places = omega (arith, c.loop-i-test.true, c.count-i-end.ensures) in
    let x = c.index-contours-place.result in
    let long = length-map c.args.contours.now plain in
    let inside : place < length cs =
    place_inside places c.loop-i.i place c.place-place.ensures here (length cs) c.requires.inside in
    let walk = walk_there cs place (plain x) inside
    (read_mapped plain c.args.contours.now place x (plain x) (omega (arith, inside, long)) c.index-contours-place.is) in
    let before = map (walk_at cs) (take i places) in
    let one : plain_role c.role_at-role.result ≡ role_next n before =
    c.role_at-role.ensures ∙ sym (role_of_next (walk_at cs) n i places here) in
    let two : plain_steps whole c.extend_from_slice.new.self.items ≡ walk_at cs place =
    ap (plain_steps whole) (c.in_ok-extend_from_slice.ensures.items
    ∙ ap (λ ss. ss ++ c.deref.result.now) c.new-steps.ensures.items ∙ c.deref.ensures.value
    ∙ ap (λ (y : _). y.steps.items) (sym c.index-contours-place.is)) ∙ sym walk in
    let old = plain_contours whole c.args.ordered.now.items in
    ap (plain_contours whole) c.in_ok-push.ensures.items
    ∙ map-append plain c.loop-i.ordered.items _
    ∙ ap₂ (λ ds d. ds ++ d ∷ []) c.loop-i.invariant
    (ap₂ (λ (r : Role) (w : List Step). record { role = r; steps = w }) one two)
    ∙ append_assoc old (contours_of_group n before) _
    ∙ ap (λ ds. old ++ ds) (sym (group_longer n before (walk_at cs place))
    ∙ ap (contours_of_group n) (sym (map-append (walk_at cs) (take i places) (place ∷ []))
    ∙ ap (map (walk_at cs)) (sym (place_behind places i place c.place-place.ensures here))))

pub returns : goal.returns
returns g c = record {
  pushed = let whole = g.I.IntNumber.whole in
      c.loop-i.invariant
      ∙ ap (λ ps. plain_contours whole c.args.ordered.now.items
      ++ contours_of_group c.args.number (map (walk_at (plain_contours whole c.args.contours.now)) ps))
      (take_all c.loop-i.i (place_list c.args.places.now)
      (let past = c.loop-i-test.false in omega (arith, past, c.count-i-end.ensures)));
}
