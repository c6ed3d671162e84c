use Rattle.std.proofs.Common.{◌≡◌, ◌++◌, take, string_bytes}
use Rattle.std.specs.List.{flat_map}
use Rattle.overlay_geom.specs.Paths.{paths_of_shape}
use Rattle.polyover_text.specs.Printed.{contour_line}
use Rattle.polyover_text.proofs.shape_text.push_shape.Given as goal

-- the lines of the contours so far came to the text
abbrev pub invariant-loop-contour : goal.invariant-loop-contour
invariant-loop-contour g l = string_bytes l.text ≡ string_bytes l.initial.text ++ flat_map contour_line
    (paths_of_shape (λ z. z) (take l.contour-index l.shape))
