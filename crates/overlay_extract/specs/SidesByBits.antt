-- The filled sides of an edge, by its fill bits.
use Rattle.std.specs.Prelude.{Bool, true, false, cond, List, [], ◌∷◌, ◌++◌}
use Rattle.overlay_geom.specs.Plane.{Step}
use Rattle.overlay_plane.specs.SelectedSteps.{step_with_left}
use Rattle.overlay_order.specs.Counts.{has_bit}
use Rattle.overlay_order.specs.Vectors.{Vector}
use Rattle.overlay_walk.specs.Selection.{ends}

-- the step, where the test holds
abbrev pub step_if : Bool → Step → List Step
step_if holds s = cond holds (s ∷ []) []

-- the steps along the edge with the subject's filled side on their left
abbrev pub sides_by_bits : Vector → List Step
sides_by_bits v = step_if (has_bit v.fill 0) (step_with_left true (ends v))
    ++ step_if (has_bit v.fill 1) (step_with_left false (ends v))
