-- The contours can be placed in whichever shapes are found for them.
use Rattle.std.proofs.Common.{sym, subst}
use Rattle.std.proofs.lemmas.Result.{IfOk-weaker}
use Rattle.overlay_plane.specs.PlacedContours.{CanBePlaced, ArePlaced}
use Rattle.overlay_walk.specs.GroupedContours.{plain_contours}
use Rattle.overlay_walk.specs.Steps.{filled_hand}
use Rattle.overlay_extract.specs.Places.{place_lists}
use Rattle.overlay_extract.specs.Placed.{ArePlacedSomehow}
use Rattle.overlay_extract.proofs.binding.placed.bound_places.Goals as goal

pub shape_places-requires : goal.shape_places-requires
shape_places-requires g c =
    let cs = plain_contours g.I.IntNumber.whole c.args.contours.now in
    subst (CanBePlaced cs) (sym c.deref.ensures.value)
    (c.requires.placeable c.in_ok-found.found.items c.in_ok-found.ensures.found)

pub returns : goal.returns
returns g c = record {
  placed = let cs = plain_contours g.I.IntNumber.whole c.args.contours.now in
      IfOk-weaker c.shape_places.result (λ v. ArePlaced cs c.deref.result.now (place_lists v.items))
      (λ v. ArePlacedSomehow (filled_hand c.args.direction) cs (place_lists v.items))
      (λ v placed. record {
        shapes = c.in_ok-found.found.items;
        found = c.in_ok-found.ensures.found;
        placed = subst (λ ss. ArePlaced cs ss (place_lists v.items)) c.deref.ensures.value placed;
      })
      c.shape_places.ensures.placed;
}
