-- What a shape is sliced into along the lines of a grid: tiles, each in one cell.
use Rattle.std.specs.Prelude.{ℤ, List, All, Contains}
use Rattle.std.specs.Int.{Width}
use Rattle.overlay_geom.specs.Plane.{Point, Step}
use Rattle.overlay_geom.specs.declared.error.OverlayError.{OverlayError}
use Rattle.overlay_geom.specs.declared.error.OverlayError.TheVariants.{Memory, NotSettled, TooManyEdges, Failed}
use Rattle.overlay_geom.specs.declared.solver.Solver.{Solver}
use Rattle.overlay_geom.specs.declared.fill_rule.FillRule.{FillRule}
use Rattle.overlay_geom.specs.declared.options.ContourDirection.TheVariants.{CounterClockwise}
use Rattle.overlay_plane.specs.BesideOrbits.{HasEachOnce}
use Rattle.overlay_plane.specs.ShapeWindings.{steps_of_shapes}
use Rattle.overlay_extract.specs.Sliced.{WindsRoundFilled, left_steps_of_shapes, sides_under}
use Rattle.overlay_string.specs.FarSlices.{WindsRoundFarShape}
use Rattle.overlay_string.specs.OneShot.{shape_and_strings, MayRefusePaths}
use Rattle.overlay_string.specs.StringSlices.{AreSlicedOfPaths}
use Rattle.overlay_tiles.specs.Cells.{LieInOneCell, RunsAlongGrid}
use Rattle.overlay_tiles.specs.Grids.{AreGridLines}
use Rattle.overlay_tiles.specs.Spans.{Bounds, IsBoxOf, points_of_paths}

-- the shapes are those into which the lines of a grid, of cells of this width and height, slice the shape of these
-- paths, where the solver splits edges
pub record AreTiles (solver : Solver) (width : Width) (fill : FillRule) (wide high : ℤ) (paths : List (List Point))
    (result : List (List (List Point))) : Type 0 where
  pub lines : List (List Point)
  pub are_lines : AreGridLines wide high (points_of_paths paths) lines
  pub sliced : AreSlicedOfPaths solver width fill (shape_and_strings paths lines) result
  -- round each point off the edges they wind once where the shape is filled, and zero times elsewhere
  pub winds : WindsRoundFilled fill CounterClockwise sliced.sliced.arrangement (steps_of_shapes result)
  -- and round each point more than k/2 away from the contours as given and from the lines, in x or in y, as these
  -- contours ask: k rounds moved some point
  pub far : WindsRoundFarShape sliced.sliced.arranged.moving fill paths lines (steps_of_shapes result)
  -- the points of each contour lie in one cell
  pub one_cell : All (All (LieInOneCell wide high)) result
  -- no filled side along a line of the grid is missing, and none stands twice in the result
  pub seams : (b : Bounds) → IsBoxOf (points_of_paths paths) b → (s : Step) →
      Contains (sides_under fill sliced.sliced.arrangement) s → RunsAlongGrid wide high b s →
      Contains (left_steps_of_shapes CounterClockwise result) s
  pub at_most_once : HasEachOnce (left_steps_of_shapes CounterClockwise result)

-- slicing it along the lines of the grid may be refused so
pub record MayRefuseLines (solver : Solver) (wide high : ℤ) (paths : List (List Point)) (e : OverlayError)
    : Type 0 where
  pub lines : List (List Point)
  pub are_lines : AreGridLines wide high (points_of_paths paths) lines
  pub refused : MayRefusePaths solver (shape_and_strings paths lines) e

-- and finding them too
abbrev pub MayRefuseTiles : Solver → ℤ → ℤ → List (List Point) → OverlayError → Type 0
MayRefuseTiles solver wide high paths Memory = Unit {0}
MayRefuseTiles solver wide high paths NotSettled = MayRefuseLines solver wide high paths NotSettled
MayRefuseTiles solver wide high paths TooManyEdges = MayRefuseLines solver wide high paths TooManyEdges
MayRefuseTiles solver wide high paths Failed = ⊥
