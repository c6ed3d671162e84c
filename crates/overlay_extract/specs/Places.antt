-- Contours placed in shapes in two passes: first the holes of outlines' groups, then the holes whose shape is found.
use Rattle.std.specs.Prelude.{◌≡◌, ◌<◌, ℕ, List, [], ◌∷◌, ◌++◌, map, length, set, get_or, All, Option, Some}
use Rattle.std.specs.Prelude.{None}
use Rattle.overlay_geom.specs.Plane.{Step}
use Rattle.overlay_plane.specs.RoledContours.{Role, outline, own_hole, free_hole, Contour}
use Rattle.overlay_plane.specs.BoundContours.{BoundContour, own_holes, found_holes}
use Rattle.overlay_plane.specs.PlacedContours.{walk_at}
use Rattle.overlay_extract.specs.declared.binding.places.ShapePlaces.{ShapePlaces}
use Rattle.overlay_extract.specs.declared.binding.places.Holes.{Holes}
use Rattle.overlay_extract.specs.declared.binding.places.Holes.TheVariants.{OfGroups, Found}

-- the places of a shape's contours: that of its outline, then those of its holes
abbrev pub place_list : {A : Type 0} → ShapePlaces A → List ℕ
place_list shape = shape.outline ∷ shape.holes.items

-- the lists of places, shape by shape
abbrev pub place_lists : {A : Type 0} → List (ShapePlaces A) → List (List ℕ)
place_lists places = map place_list places

-- the places are those of contours
abbrev pub AreInside : ℕ → List (List ℕ) → Type 0
AreInside count places = All (All (λ k. k < count)) places

-- the lists with the place added to that of the shape with the number, if there is one
abbrev pub with_place : Option ℕ → ℕ → List (List ℕ) → List (List ℕ)
with_place None place lists = lists
with_place (Some n) place lists = set lists n (get_or lists n [] ++ place ∷ [])

-- the number of the shape in which a contour is a hole of this kind, by its role and the shape found for it
abbrev pub number_as : Holes → Role → Option ℕ → Option ℕ
number_as OfGroups (outline n) found = None
number_as OfGroups (own_hole n) found = Some n
number_as OfGroups free_hole found = None
number_as Found (outline n) found = None
number_as Found (own_hole n) found = None
number_as Found free_hole found = found

-- the holes of this kind of the n-th shape, in their order
abbrev pub holes_as : Holes → List BoundContour → ℕ → List (List Step)
holes_as OfGroups bound n = own_holes bound n
holes_as Found bound n = found_holes bound n

-- each shape's list is extended by its holes of this kind
pub record HasHolesAdded (holes : Holes) (contours : List Contour) (bound : List BoundContour)
    (old new : List (List ℕ)) : Type 0 where
  pub counted : length new ≡ length old
  pub inside : AreInside (length contours) new
  pub added : (n : ℕ) → n < length old → map (walk_at contours) (get_or new n []) ≡
      map (walk_at contours) (get_or old n []) ++ holes_as holes bound n
