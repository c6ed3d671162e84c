use Rattle.overlay_geom.specs.Flat.{shapes_in}
use Rattle.polyover_engine.proofs.overlay.overlay_text.Goals as goal

pub returns : goal.returns
returns g c =
    let b = c.in_ok-shapes.shapes in (
      shapes_in (λ z. z) b.points.items b.contour_ranges.items b.shape_ranges.items,
      c.in_ok-shapes.ensures,
      c.in_ok-flat_shapes_text.ensures,
    )
