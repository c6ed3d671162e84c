-- The hole round each outline is found.
use Rattle.std.proofs.Common.{◌≡◌, ◌∙◌, false, All, AllPairs, map, length, sym, ap, subst}
use Rattle.std.proofs.lemmas.List.{length-map}
use Rattle.std.proofs.lemmas.Result.{IfOk-weaker}
use Rattle.overlay_geom.specs.Plane.{edge_of, edge_eq}
use Rattle.overlay_geom.specs.Settled.{IsSettledBy}
use Rattle.overlay_plane.specs.Anchors.{HasEachEdgeOnce}
use Rattle.overlay_plane.specs.Binding.{all_filled_above}
use Rattle.overlay_plane.specs.Contours.{IsContour, all_steps}
use Rattle.overlay_plane.specs.Islands.{hole_places, AreHolesRound}
use Rattle.overlay_plane.specs.Turn.{other_hand}
use Rattle.overlay_plane.proofs.HolePlaces.{places_counted}
use Rattle.overlay_walk.specs.GroupedContours.{plain_contour, plain_contours, walk_of}
use Rattle.overlay_extract.specs.HolePlaces.{at_outlines}
use Rattle.overlay_extract.specs.Parents.{HasShapeNumber}
use Rattle.overlay_walk.specs.Steps.{filled_hand, IsLong}
use Rattle.overlay_extract.proofs.HolesRound.{holes_found}
use Rattle.overlay_extract.proofs.RolesRead.{walks_alike}
use Rattle.overlay_extract.proofs.binding.islands.holes_round.Goals as goal

pub parents_by_sweep-requires-clause-long : goal.parents_by_sweep-requires-clause-long
parents_by_sweep-requires-clause-long g c =
    subst (All (All (IsLong g.I.IntNumber.limit))) (walks_alike g.I.IntNumber.whole c.args.contours.now) c.requires.long

pub parents_by_sweep-requires-clause-contours : goal.parents_by_sweep-requires-clause-contours
parents_by_sweep-requires-clause-contours g c =
    subst (All IsContour) (walks_alike g.I.IntNumber.whole c.args.contours.now) c.requires.bindable.contours

pub parents_by_sweep-requires-clause-single : goal.parents_by_sweep-requires-clause-single
parents_by_sweep-requires-clause-single g c =
    subst (All HasEachEdgeOnce) (walks_alike g.I.IntNumber.whole c.args.contours.now) c.requires.bindable.single

pub parents_by_sweep-requires-clause-distinct : goal.parents_by_sweep-requires-clause-distinct
parents_by_sweep-requires-clause-distinct g c =
    let walks = map (walk_of g.I.IntNumber.whole) c.args.contours.now in
    subst (λ h. AllPairs (λ e f. edge_eq e f ≡ false) (all_filled_above h walks)) (sym c.other_direction-below.ensures)
    (subst (λ ws. AllPairs (λ e f. edge_eq e f ≡ false)
    (all_filled_above (other_hand (filled_hand c.args.direction)) ws))
    (walks_alike g.I.IntNumber.whole c.args.contours.now) c.requires.bindable.distinct_below)

pub parents_by_sweep-requires-clause-settled : goal.parents_by_sweep-requires-clause-settled
parents_by_sweep-requires-clause-settled g c =
    subst (λ ws. IsSettledBy edge_of (all_steps ws)) (walks_alike g.I.IntNumber.whole c.args.contours.now)
    c.requires.bindable.settled

pub parents_by_sweep-requires-clause-known : goal.parents_by_sweep-requires-clause-known
parents_by_sweep-requires-clause-known g c =
    let contours = plain_contours g.I.IntNumber.whole c.args.contours.now in
    ap length (c.deref.ensures.value ∙ c.in_ok-places.ensures.ok)
    ∙ places_counted 0 contours
    ∙ length-map c.args.contours.now (plain_contour g.I.IntNumber.whole)

pub at_outlines-requires : goal.at_outlines-requires
at_outlines-requires g c = ap length c.deref-2.ensures.value ∙ c.in_ok-found.ensures.counted

pub returns : goal.returns
returns g c = record {
  round = let whole = g.I.IntNumber.whole in
      let filled = filled_hand c.args.direction in
      let contours = plain_contours whole c.args.contours.now in
      let found = c.in_ok-found.found.items in
      let round = holes_found filled contours found
      (c.in_ok-found.ensures.counted ∙ sym (length-map c.args.contours.now (plain_contour whole)))
      (λ n. subst (λ ws. HasShapeNumber (other_hand filled) ws (hole_places 0 contours) found n)
      (sym (walks_alike whole c.args.contours.now))
      (subst (λ known. HasShapeNumber (other_hand filled) (map (walk_of whole) c.args.contours.now) known found n)
      (c.deref.ensures.value ∙ c.in_ok-places.ensures.ok)
      (subst (λ h. HasShapeNumber h (map (walk_of whole) c.args.contours.now) c.deref.result.now found n)
      c.other_direction-below.ensures (c.in_ok-found.ensures.numbers n)))) in
      IfOk-weaker c.at_outlines.result _ (λ v. AreHolesRound filled contours v.items)
      (λ v is. subst (AreHolesRound filled contours) (sym (is ∙ ap (at_outlines contours) c.deref-2.ensures.value))
      round)
      c.at_outlines.ensures.ok;
}
