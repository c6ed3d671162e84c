-- Contours bound to shapes: each hole without a shape from the start is bound to the shape found for it.
use Rattle.std.specs.Prelude.{◌≡◌, ℕ, ◌==◌, Bool, ◌&&◌, List, [], ◌∷◌, ◌++◌, map, length, filter, slice_get}
use Rattle.std.specs.Prelude.{slice_index_or, Option, Some, None, MatchBool}
use Rattle.std.specs.List.{flat_map}
use Rattle.overlay_geom.specs.Plane.{Step}
use Rattle.overlay_plane.specs.Binding.{IsFoundBelow, is_number}
use Rattle.overlay_plane.specs.RoledContours.{Role, outline, own_hole, free_hole, Contour, stands_in, is_outline}
use Rattle.overlay_plane.specs.RoledContours.{is_own_hole_of, is_free_hole}
use Rattle.overlay_plane.specs.Turn.{Hand}

-- the walks of contours, and the shapes that are known from the start
abbrev pub walks_in : List Contour → List (List Step)
walks_in contours = map (λ c. c.steps) contours

abbrev pub known_in : List Contour → List (Option ℕ)
known_in contours = map (λ c. stands_in c.role) contours

-- the parent of the hole at place i, or none, for a hole whose shape is to be found. The next filled-above edge below
-- the hole's anchor decides: its contour's known shape, or the parent of the hole with that edge
abbrev pub IsParent : Hand → List Contour → ℕ → Option ℕ → Type 0
IsParent filled contours i shape = IsFoundBelow filled (walks_in contours) (known_in contours) i shape

-- there is exactly one outline
abbrev pub has_one_shape : List Contour → Bool
has_one_shape contours = length (filter (λ c. is_outline c.role) contours) == 1

-- the contours' shapes, as far as they are to be found: where there is one shape alone, that shape; else each hole's
-- parent. The entries of other contours are left open
pub record AreShapesFound (filled : Hand) (contours : List Contour) (shapes : List (Option ℕ)) : Type 0 where
  pub counted : length shapes ≡ length contours
  pub found : (i : ℕ) (c : Contour) → slice_get contours i ≡ Some c → c.role ≡ free_hole →
      MatchBool (has_one_shape contours) (slice_index_or shapes i None ≡ Some 0)
      (IsParent filled contours i (slice_index_or shapes i None))

-- ---- shapes

-- a contour, and the shape found for it
pub record BoundContour : Type 0 where
  pub contour : Contour
  pub shape : Option ℕ

-- the contours, each with the shape found for it
abbrev pub contours_bound : List Contour → List (Option ℕ) → List BoundContour
contours_bound [] shapes = []
contours_bound (c ∷ cs) [] = []
contours_bound (c ∷ cs) (s ∷ shapes) = record { contour = c; shape = s } ∷ contours_bound cs shapes

-- the holes of the n-th outline's group, and the holes for which the n-th shape is found, each kind in order
abbrev pub own_holes : List BoundContour → ℕ → List (List Step)
own_holes bound n = map (λ b. b.contour.steps) (filter (λ b. is_own_hole_of n b.contour.role) bound)

abbrev pub found_holes : List BoundContour → ℕ → List (List Step)
found_holes bound n = map (λ b. b.contour.steps)
    (filter (λ b. is_free_hole b.contour.role && is_number n b.shape) bound)

-- the shape that a contour begins, if it is an outline: the outline, the holes of its own group, and the holes found
-- for it
abbrev pub shape_begun_by : List BoundContour → Role → List Step → List (List (List Step))
shape_begun_by bound (outline n) steps = (steps ∷ own_holes bound n ++ found_holes bound n) ∷ []
shape_begun_by bound (own_hole n) steps = []
shape_begun_by bound free_hole steps = []

-- the shapes, in the order of their outlines
abbrev pub shapes_bound : List BoundContour → List (List (List Step))
shapes_bound bound = flat_map (λ b. shape_begun_by bound b.contour.role b.contour.steps) bound

-- no hole is left out
abbrev pub NoHoleIsLost : List Contour → List (Option ℕ) → Type 0
NoHoleIsLost contours shapes = (i : ℕ) (c : Contour) → slice_get contours i ≡ Some c → c.role ≡ free_hole →
    ¬ (slice_index_or shapes i None ≡ None)
