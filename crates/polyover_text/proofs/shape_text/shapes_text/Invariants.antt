use Rattle.std.proofs.Common.{◌≡◌, take, string_bytes}
use Rattle.overlay_geom.specs.Paths.{plain_shapes}
use Rattle.polyover_text.specs.Printed.{lines_of_shapes}
use Rattle.polyover_text.proofs.shape_text.shapes_text.Given as goal

-- the text so far is that of the shapes so far
abbrev pub invariant-loop-shape : goal.invariant-loop-shape
invariant-loop-shape g l = string_bytes l.text ≡ lines_of_shapes (plain_shapes (λ z. z) (take l.shape-index l.shapes))
