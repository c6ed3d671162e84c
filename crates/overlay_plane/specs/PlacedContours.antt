-- Places of contours in the shapes to which they are bound.
use Rattle.std.specs.Prelude.{◌≡◌, ◌<◌, ℕ, List, [], map, length, All, slice_get, slice_index_or, Option, Some, None}
use Rattle.std.specs.Prelude.{IfSome}
use Rattle.overlay_geom.specs.Plane.{Step}
use Rattle.overlay_plane.specs.RoledContours.{Contour, free_hole}
use Rattle.overlay_plane.specs.BoundContours.{walks_in, contours_bound, shapes_bound}
use Rattle.overlay_plane.specs.ContourNumbers.{AreNumbers, outline_count}

-- the contours can be placed in the shapes found for them: each number is that of an outline
pub record CanBePlaced (contours : List Contour) (shapes : List (Option ℕ)) : Type 0 where
  pub counted : length shapes ≡ length contours
  pub numbered : AreNumbers 0 contours
  pub found : (i : ℕ) (c : Contour) → slice_get contours i ≡ Some c → c.role ≡ free_hole →
      IfSome (slice_index_or shapes i None) (λ m. m < outline_count contours)

-- the walk at a place of contours, and the walks of shapes given by the places of their contours
abbrev pub walk_at : List Contour → ℕ → List Step
walk_at contours k = slice_index_or (walks_in contours) k []

abbrev pub walks_at : List Contour → List (List ℕ) → List (List (List Step))
walks_at contours places = map (map (walk_at contours)) places

-- the lists of places are those of the shapes to which the contours are bound
pub record ArePlaced (contours : List Contour) (shapes : List (Option ℕ)) (places : List (List ℕ)) : Type 0 where
  pub inside : All (All (λ k. k < length contours)) places
  pub are : walks_at contours places ≡ shapes_bound (contours_bound contours shapes)
