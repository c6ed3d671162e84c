-- Where a point lies by the edges of a shape's contours, it lies in the shape.
use Rattle.std.proofs.Common.{◌≡◌, List, [], ◌∷◌, ◌++◌, refl, sym, ap, ap₂, ◌∙◌, subst}
use Rattle.overlay_geom.specs.Plane.{Point, PlanePoint, Edge, is_strictly_below, steps_of}
use Rattle.overlay_geom.specs.Resolved.{edges_of}
use Rattle.overlay_relate.proofs.Parities.{differ-assoc, odd_winding}
use Rattle.overlay_relate.specs.Locations.{differ, odd_below, is_in_shape, shape_edges, IsLocated, IsLocatedBy}
use Rattle.overlay_relate.specs.Locations.{IsLocatedIn}
use Rattle.overlay_relate.specs.declared.location.PointLocation.{PointLocation}

odd_below_append : (es fs : List Edge) (p : PlanePoint) → odd_below (es ++ fs) p ≡
    differ (odd_below es p) (odd_below fs p)
odd_below_append [] fs p = refl
odd_below_append (e ∷ es) fs p = ap (differ (is_strictly_below e p)) (odd_below_append es fs p)
    ∙ differ-assoc (is_strictly_below e p) (odd_below es p) (odd_below fs p)

odd_below_shape : (cs : List (List Point)) (p : PlanePoint) → odd_below (shape_edges cs) p ≡ is_in_shape cs p
odd_below_shape [] p = refl
odd_below_shape (c ∷ cs) p = odd_below_append (edges_of c) (shape_edges cs) p
    ∙ ap₂ differ (sym (odd_winding (steps_of c) p)) (odd_below_shape cs p)

pub located_in_shape : (cs : List (List Point)) (es : List Edge) → es ≡ shape_edges cs → (p : PlanePoint)
    (l : PointLocation) → IsLocatedBy es p l → IsLocatedIn cs p l
located_in_shape cs es is p l at = subst (λ t. IsLocated (shape_edges cs) t p l) (odd_below_shape cs p)
    (subst (λ fs. IsLocatedBy fs p l) is at)
