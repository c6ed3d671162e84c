-- What a query answers that uses the builder up.
use Rattle.std.specs.Prelude.{◌≡◌, ℕ, ℤ, [], Result, IfOk}
use Rattle.overlay_extract.specs.GivenRegion.{WindsRoundGiven}
use Rattle.overlay_extract.specs.Results.{Asked, IsResult}
use Rattle.overlay_geom.specs.Flat.{shapes_in}
use Rattle.overlay_geom.specs.declared.error.OverlayError.{OverlayError}
use Rattle.overlay_geom.specs.declared.flat.shapes.FlatShapesBuffer.{FlatShapesBuffer}
use Rattle.overlay_plane.specs.ShapeWindings.{steps_of_shapes}
use Rattle.i_overlay.specs.Builder.{Builder}
use Rattle.i_overlay.specs.Queries.{BuilderExtracts}

-- shapes in one list: a query that extracts contours leaves some builder, which is dropped, and the shapes are the
-- result over its edges
pub record GivesFlatShapes {U I A : Type 0} (whole : I → ℤ) (limit : ℕ) (q : Asked) (old : Builder U)
    (result : Result (FlatShapesBuffer I A) OverlayError) : Type 0 where
  pub after : Builder U
  pub extracts : BuilderExtracts limit old after result
  pub is_result : IfOk result (λ b. IsResult q after.edges
      (shapes_in whole b.points.items b.contour_ranges.items b.shape_ranges.items))
  -- they wind as asked of the edges before, far from these
  pub given : IfOk result (λ b. WindsRoundGiven q old.solver old.edges after.edges
      (steps_of_shapes (shapes_in whole b.points.items b.contour_ranges.items b.shape_ranges.items)))
  -- over no edges there is no shape
  pub empty : after.edges ≡ [] → IfOk result (λ b. b.shape_ranges.items ≡ [])
