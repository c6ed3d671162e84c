-- By snap rounding one round moves points at most. So answers wind as asked of what was given round each point more
-- than 1/2 away from it, in x or in y.
use Rattle.std.specs.Prelude.{◌≡◌, Bool, ℤ, List}
use Rattle.std.specs.Int.{Width}
use Rattle.overlay_geom.specs.Edges.{CountedEdge}
use Rattle.overlay_geom.specs.Plane.{Point, Step}
use Rattle.overlay_geom.specs.declared.solver.Solver.TheVariants.{Snapping}
use Rattle.overlay_geom.specs.declared.fill_rule.FillRule.{FillRule}
use Rattle.overlay_geom.specs.declared.options.ShapeType.TheVariants.{Subject}
use Rattle.overlay_plane.specs.Islands.{ChildLink}
use Rattle.overlay_plane.specs.ShapeWindings.{steps_of_shapes}
use Rattle.overlay_builder.specs.GivenPaths.{GivenPath, paths_for}
use Rattle.overlay_extract.specs.GivenRegion.{WindsRoundFarPoints, WindsRoundGiven}
use Rattle.overlay_extract.specs.Results.{Asked}
use Rattle.overlay_string.specs.FarSlices.{WindsRoundFarShape}
use Rattle.overlay_string.specs.OneShot.{shape_and_strings}
use Rattle.overlay_string.specs.StringSlices.{AreSlicedOfPaths}
use Rattle.overlay_tiles.specs.Tiles.{AreTiles}
use Rattle.i_overlay.specs.OneShot.{IsResultOfPaths, IsHierarchyOfPaths, WindsRoundFarPaths}
use Rattle.i_overlay.specs.Simplified.{IsSimplifiedAlone}

-- so do the contours of a query, of the edges that the builder held before
abbrev pub SnappedWindsRoundGiven : Type 0
SnappedWindsRoundGiven = (q : Asked) (given es : List CountedEdge) (steps : List Step) →
    WindsRoundGiven q Snapping given es steps → q.min_output_area ≡ 0 → WindsRoundFarPoints 1 q given steps

-- so does a result, of the paths in the arguments
abbrev pub SnappedResultWinds : Type 0
SnappedResultWinds = (q : Asked) (paths : List GivenPath) (result : List (List (List Point))) →
    IsResultOfPaths Snapping q paths result → q.min_output_area ≡ 0 →
    WindsRoundFarPaths 1 q paths (steps_of_shapes result)

-- and a hierarchy
abbrev pub SnappedHierarchyWinds : Type 0
SnappedHierarchyWinds = (q : Asked) (paths : List GivenPath) (shapes : List (List (List Point)))
    (links : List ChildLink) → IsHierarchyOfPaths Snapping q paths shapes links → q.min_output_area ≡ 0 →
    WindsRoundFarPaths 1 q paths (steps_of_shapes shapes)

-- and what paths are simplified to
abbrev pub SnappedSimplifiedWinds : Type 0
SnappedSimplifiedWinds = (q : Asked) (keep : Bool) (paths : List (List Point)) (shapes : List (List (List Point))) →
    IsSimplifiedAlone Snapping q keep paths shapes → q.min_output_area ≡ 0 →
    WindsRoundFarPaths 1 q (paths_for Subject paths) (steps_of_shapes shapes)

-- so do slices, of the contours of the shape
abbrev pub SnappedSlicesWind : Type 0
SnappedSlicesWind = (width : Width) (fill : FillRule) (shape strings : List (List Point))
    (result : List (List (List Point))) →
    AreSlicedOfPaths Snapping width fill (shape_and_strings shape strings) result →
    WindsRoundFarShape 1 fill shape strings (steps_of_shapes result)

-- and tiles
abbrev pub SnappedTilesWind : Type 0
SnappedTilesWind = (width : Width) (fill : FillRule) (wide high : ℤ) (paths : List (List Point))
    (result : List (List (List Point))) → (tiles : AreTiles Snapping width fill wide high paths result) →
    WindsRoundFarShape 1 fill paths tiles.lines (steps_of_shapes result)
