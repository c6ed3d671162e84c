-- The places are those of the outlines so far.
use Rattle.std.proofs.Common.{◌≡◌, ◌∷◌, [], map, take, length}
use Rattle.std.specs.List.{filter}
use Rattle.overlay_plane.specs.PlacedContours.{walks_at}
use Rattle.overlay_plane.specs.RoledContours.{Contour, is_outline}
use Rattle.overlay_walk.specs.GroupedContours.{plain_contours}
use Rattle.overlay_extract.specs.Places.{place_lists, AreInside}
use Rattle.overlay_extract.proofs.binding.places.outline_places.Given as goal

abbrev pub invariant-loop-i : goal.invariant-loop-i
invariant-loop-i g l =
    let contours = plain_contours g.I.IntNumber.whole l.contours in
    AreInside (length contours) (place_lists l.places.items) ×
    (walks_at contours (place_lists l.places.items) ≡ map (λ (c : Contour). c.steps ∷ [])
    (filter (λ (c : Contour). is_outline c.role) (plain_contours g.I.IntNumber.whole (take l.i l.contours))))
