-- Shapes by the points of their contours, each as it is or thinned, and their steps.
use Rattle.std.specs.Prelude.{Bool, List, map}
use Rattle.std.specs.List.{AllZip, flat_map}
use Rattle.overlay_geom.specs.Plane.{Point, Step, steps_of, points_of}
use Rattle.overlay_geom.specs.Thinned.{IsKeptOrThinned}

-- the points of the shapes' contours
abbrev pub points_of_shapes : List (List (List Step)) → List (List (List Point))
points_of_shapes shapes = map (map points_of) shapes

-- the steps of all contours of shapes given by their points
abbrev pub steps_of_shapes : List (List (List Point)) → List Step
steps_of_shapes shapes = flat_map (flat_map steps_of) shapes

-- each contour of the shapes is taken as it is, or thinned
abbrev pub AreKeptOrThinned : Bool → List (List (List Point)) → List (List (List Point)) → Type 0
AreKeptOrThinned keep given taken = AllZip (AllZip (IsKeptOrThinned keep)) given taken
