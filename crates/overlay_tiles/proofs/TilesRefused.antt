-- What refuses to slice along the lines of a grid.
use Rattle.std.proofs.Common.{ℤ, List}
use Rattle.std.specs.Prelude.{Result, Ok, Err, IfErr}
use Rattle.overlay_geom.specs.Plane.{Point}
use Rattle.overlay_geom.specs.declared.error.OverlayError.{OverlayError}
use Rattle.overlay_geom.specs.declared.error.OverlayError.TheVariants.{Memory, NotSettled, TooManyEdges, Failed}
use Rattle.overlay_geom.specs.declared.solver.Solver.{Solver}
use Rattle.overlay_string.specs.OneShot.{shape_and_strings, MayRefusePaths}
use Rattle.overlay_tiles.specs.Grids.{AreGridLines}
use Rattle.overlay_tiles.specs.Spans.{points_of_paths}
use Rattle.overlay_tiles.specs.Tiles.{MayRefuseTiles}

module _ (solver : Solver) (wide high : ℤ) (paths lines : List (List Point))
    (are : AreGridLines wide high (points_of_paths paths) lines) where
  -- what refuses the paths and the lines
  refused : (e : OverlayError) → MayRefusePaths solver (shape_and_strings paths lines) e →
      MayRefuseTiles solver wide high paths e
  refused Memory may = tt
  refused NotSettled may = record { lines = lines; are_lines = are; refused = may }
  refused TooManyEdges may = record { lines = lines; are_lines = are; refused = may }
  refused Failed may = may

  pub tiles_refused : {V : Type 0} (r : Result V OverlayError) →
      IfErr r (MayRefusePaths solver (shape_and_strings paths lines)) → IfErr r (MayRefuseTiles solver wide high paths)
  tiles_refused (Ok v) may = tt
  tiles_refused (Err e) may = refused e may
