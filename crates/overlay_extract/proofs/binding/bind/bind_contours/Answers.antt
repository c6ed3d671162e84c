-- The shape of each hole is found.
use Rattle.std.proofs.Common.{◌≡◌, false, All, AllPairs, map, length, sym, ap, ◌∙◌, subst}
use Rattle.std.proofs.lemmas.List.{length-map}
use Rattle.std.proofs.lemmas.Result.{IfOk-weaker}
use Rattle.overlay_geom.specs.Plane.{edge_of, edge_eq}
use Rattle.overlay_geom.specs.Settled.{IsSettledBy}
use Rattle.overlay_plane.specs.Anchors.{HasEachEdgeOnce}
use Rattle.overlay_plane.specs.Binding.{all_filled_above}
use Rattle.overlay_plane.specs.BoundContours.{known_in, AreShapesFound}
use Rattle.overlay_plane.specs.Contours.{IsContour, all_steps}
use Rattle.overlay_plane.specs.RoledContours.{Contour, stands_in}
use Rattle.overlay_walk.specs.GroupedContours.{plain_contour, plain_contours, walk_of}
use Rattle.overlay_extract.specs.Parents.{HasShapeNumber}
use Rattle.overlay_walk.specs.Steps.{filled_hand, IsLong}
use Rattle.overlay_extract.proofs.BoundRoles.{first_for_all, each_by_sweep}
use Rattle.overlay_extract.proofs.RolesRead.{walks_alike}
use Rattle.overlay_extract.proofs.binding.bind.bind_contours.Goals as goal

pub returns-then-shape_count-eq1 : goal.returns-then-shape_count-eq1
returns-then-shape_count-eq1 g c = record {
  found = let filled = filled_hand c.args.direction in
      let contours = plain_contours g.I.IntNumber.whole c.args.contours.now in
      IfOk-weaker c.all_in_first.result _ (λ v. AreShapesFound filled contours v.items)
      (λ v all. first_for_all filled contours v.items
      (all.0 ∙ sym (length-map c.args.contours.now (plain_contour g.I.IntNumber.whole)))
      (sym c.shape_count.ensures ∙ c.if-shape_count-eq1.true) all.1)
      c.all_in_first.ensures.ok;
}

pub parents_by_sweep-requires-clause-long : goal.parents_by_sweep-requires-clause-long
parents_by_sweep-requires-clause-long g c =
    subst (All (All (IsLong g.I.IntNumber.limit))) (walks_alike g.I.IntNumber.whole c.args.contours.now) c.requires.long

pub parents_by_sweep-requires-clause-contours : goal.parents_by_sweep-requires-clause-contours
parents_by_sweep-requires-clause-contours g c =
    subst (All IsContour) (walks_alike g.I.IntNumber.whole c.args.contours.now) c.requires.bindable.contours

pub parents_by_sweep-requires-clause-single : goal.parents_by_sweep-requires-clause-single
parents_by_sweep-requires-clause-single g c =
    subst (All HasEachEdgeOnce) (walks_alike g.I.IntNumber.whole c.args.contours.now) c.requires.bindable.single

pub parents_by_sweep-requires-clause-distinct : goal.parents_by_sweep-requires-clause-distinct
parents_by_sweep-requires-clause-distinct g c =
    subst (λ ws. AllPairs (λ e f. edge_eq e f ≡ false) (all_filled_above (filled_hand c.args.direction) ws))
    (walks_alike g.I.IntNumber.whole c.args.contours.now) c.requires.bindable.distinct_above

pub parents_by_sweep-requires-clause-settled : goal.parents_by_sweep-requires-clause-settled
parents_by_sweep-requires-clause-settled g c =
    subst (λ ws. IsSettledBy edge_of (all_steps ws)) (walks_alike g.I.IntNumber.whole c.args.contours.now)
    c.requires.bindable.settled

pub parents_by_sweep-requires-clause-known : goal.parents_by_sweep-requires-clause-known
parents_by_sweep-requires-clause-known g c =
    let contours = plain_contours g.I.IntNumber.whole c.args.contours.now in
    ap length (c.deref.ensures.value ∙ c.in_ok-known.ensures.ok)
    ∙ length-map contours (λ (k : Contour). stands_in k.role)
    ∙ length-map c.args.contours.now (plain_contour g.I.IntNumber.whole)

pub returns : goal.returns
returns g c = record {
  found = let whole = g.I.IntNumber.whole in
      let filled = filled_hand c.args.direction in
      let contours = plain_contours whole c.args.contours.now in
      let shapes = c.in_ok-shapes.shapes.items in
      each_by_sweep filled contours shapes
      (c.in_ok-shapes.ensures.counted ∙ sym (length-map c.args.contours.now (plain_contour whole)))
      (λ one. c.if-shape_count-eq1.false (c.shape_count.ensures ∙ one))
      (λ n. subst (λ ws. HasShapeNumber filled ws (known_in contours) shapes n)
      (sym (walks_alike whole c.args.contours.now))
      (subst (λ known. HasShapeNumber filled (map (walk_of whole) c.args.contours.now) known shapes n)
      (c.deref.ensures.value ∙ c.in_ok-known.ensures.ok) (c.in_ok-shapes.ensures.numbers n)));
}
