use Rattle.std.proofs.Common.{◌≡◌, ◌++◌, take, string_bytes}
use Rattle.std.specs.List.{flat_map}
use Rattle.overlay_geom.specs.Flat.{paths_in}
use Rattle.polyover_text.specs.Printed.{contour_line}
use Rattle.polyover_text.proofs.flat_shape_text.push_flat_shape.Given as goal

-- the lines of the contours so far came to the text
abbrev pub invariant-loop-range : goal.invariant-loop-range
invariant-loop-range g l = string_bytes l.text ≡ string_bytes l.initial.text ++ flat_map contour_line
    (paths_in (λ z. z) l.points (take l.range-index l.contours))
