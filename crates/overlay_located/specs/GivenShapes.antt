-- Shapes as they are given, and where points lie in them.
use Rattle.std.specs.Prelude.{◌≡◌, false, List}
use Rattle.overlay_geom.specs.Edges.{CountedEdge}
use Rattle.overlay_geom.specs.Plane.{PlanePoint}
use Rattle.overlay_geom.specs.Rules.{is_filled}
use Rattle.overlay_geom.specs.declared.fill_rule.FillRule.{FillRule}
use Rattle.overlay_builder.specs.GivenPaths.{GivenPath, added_paths}
use Rattle.overlay_builder.specs.PathLists.{HoldsPaths}
use Rattle.overlay_relate.specs.declared.location.PointLocation.{PointLocation}
use Rattle.overlay_sectors.specs.Located.{LiesIn}
use Rattle.overlay_located.specs.Located.{LiesInPaths}

-- a shape: its fill rule, and the counted edges of its contours
pub record GivenShape : Type 0 where
  pub fill_rule : FillRule
  pub edges : List CountedEdge

-- it is that of the paths under the rule
pub record IsShapeOf (fill : FillRule) (paths : List GivenPath) (s : GivenShape) : Type 0 where
  pub rule : s.fill_rule ≡ fill
  pub holds : HoldsPaths (added_paths false paths) s.edges

-- p lies so in it, and in whichever paths it is of
pub record TellsLocation (s : GivenShape) (p : PlanePoint) (l : PointLocation) : Type 0 where
  pub edges : LiesIn (is_filled s.fill_rule) s.edges p l
  pub paths : (fill : FillRule) (paths : List GivenPath) → IsShapeOf fill paths s →
      LiesInPaths (is_filled fill) paths p l
