-- The links that follow from the holes round outlines.
use Rattle.std.specs.Prelude.{ℕ, suc, List, [], ◌∷◌, ◌++◌, Option, Some, None, slice_index_or}
use Rattle.overlay_plane.specs.BoundContours.{known_in}
use Rattle.overlay_plane.specs.Islands.{ChildLink}
use Rattle.overlay_plane.specs.RoledContours.{Contour}

-- the link of a shape to the contour at a place, if that contour belongs to a shape
abbrev pub link_to : ℕ → ℕ → Option ℕ → Option ChildLink
link_to child place None = None
link_to child place (Some shape) = Some (record {
  parent_shape = shape;
  parent_contour = place;
  child_shape = child;
})

-- the link of a shape by the place of the hole round it, if there is one
abbrev pub link_at : List Contour → ℕ → Option ℕ → Option ChildLink
link_at contours child None = None
link_at contours child (Some place) = link_to child place (slice_index_or (known_in contours) place None)

-- a list of the link, or an empty list
abbrev pub one_or_none : Option ChildLink → List ChildLink
one_or_none None = []
one_or_none (Some link) = link ∷ []

-- the links of the shapes, numbered from n on, to these holes round them
abbrev pub links_from : List Contour → ℕ → List (Option ℕ) → List ChildLink
links_from contours n [] = []
links_from contours n (hole ∷ holes) = one_or_none (link_at contours n hole) ++ links_from contours (suc n) holes
