-- Options as the three switches that the constructors set.
use Rattle.std.specs.Prelude.{◌≡◌, ℕ, Bool}
use Rattle.overlay_geom.specs.declared.options.ContourDirection.TheVariants.{CounterClockwise}
use Rattle.overlay_geom.specs.declared.options.IntOverlayOptions.{IntOverlayOptions}

-- input points and output points stay as named, contours are for OGC as named, outlines run counterclockwise, and every
-- area is kept
pub record AreOptions {U : Type 0} (natural : U → ℕ) (input output is_ogc : Bool)
    (o : IntOverlayOptions U) : Type 0 where
  pub input_kept : o.preserve_input_collinear ≡ input
  pub direction : o.output_direction ≡ CounterClockwise
  pub output_kept : o.preserve_output_collinear ≡ output
  pub area : natural o.min_output_area ≡ 0
  pub for_ogc : o.ogc ≡ is_ogc
