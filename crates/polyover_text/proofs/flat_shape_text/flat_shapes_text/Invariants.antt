use Rattle.std.proofs.Common.{◌≡◌, take, string_bytes}
use Rattle.overlay_geom.specs.Flat.{shapes_in}
use Rattle.polyover_text.specs.Printed.{lines_of_shapes}
use Rattle.polyover_text.proofs.flat_shape_text.flat_shapes_text.Given as goal

-- the text so far is that of the shapes so far
abbrev pub invariant-loop-range : goal.invariant-loop-range
invariant-loop-range g l = string_bytes l.text ≡ lines_of_shapes (shapes_in (λ z. z) l.shapes.points.items
    l.shapes.contour_ranges.items (take l.range-index l.shapes.shape_ranges.items))
