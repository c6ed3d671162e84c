-- The paths of lists of contours, and of lists of shapes, as whole points.
use Rattle.std.specs.Prelude.{◌-◌, ◌^◌, ℤ, List, map, take, flat_map, Vec}
use Rattle.overlay_geom.specs.Plane.{Point}
use Rattle.overlay_geom.specs.Points.{plain_points}
use Rattle.overlay_geom.specs.declared.point.IntPoint.{IntPoint}

-- the whole points of each contour of a shape
abbrev pub paths_of_shape : {I A : Type 0} → (I → ℤ) → List (Vec (IntPoint I) A) → List (List Point)
paths_of_shape whole contours = map (λ c. plain_points whole c.items) contours

-- the whole points of each contour of all shapes, shape by shape
abbrev pub paths_of_shapes : {I A : Type 0} → (I → ℤ) → List (Vec (Vec (IntPoint I) A) A) → List (List Point)
paths_of_shapes whole shapes = flat_map (λ s. paths_of_shape whole s.items) shapes

-- the first paths, as many as usize can count
abbrev pub counted_paths : List (List Point) → List (List Point)
counted_paths ps = take (2 ^ 64 - 1) ps

-- the whole points of the contours of each shape
abbrev pub plain_shapes : {I A : Type 0} → (I → ℤ) → List (Vec (Vec (IntPoint I) A) A) → List (List (List Point))
plain_shapes whole shapes = map (λ s. paths_of_shape whole s.items) shapes
