use Rattle.std.proofs.Common.{[], string_bytes}
use Rattle.overlay_geom.specs.Paths.{paths_of_shape}
use Rattle.polyover_text.specs.Printed.{shape_lines}
use Rattle.polyover_text.proofs.Printing.{all_items}
use Rattle.polyover_text.proofs.shape_text.shapes_text.Goals as goal

pub returns : goal.returns
returns g c =
    all_items shape_lines (λ s. paths_of_shape (λ z. z) s.items) c.args.shapes.now c.loop-shape.shape-index []
    (string_bytes c.loop-shape.text)
    c.loop-shape-test.false c.loop-shape.invariant
