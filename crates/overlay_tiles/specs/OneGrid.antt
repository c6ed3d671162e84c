-- The lines of a grid and the tiles along them are the only ones.
use Rattle.std.specs.Prelude.{◌≡◌, ℤ, List}
use Rattle.std.specs.Int.{Width}
use Rattle.overlay_geom.specs.Plane.{Point}
use Rattle.overlay_geom.specs.declared.error.OverlayError.{OverlayError}
use Rattle.overlay_geom.specs.declared.error.OverlayError.TheVariants.{Memory}
use Rattle.overlay_geom.specs.declared.solver.Solver.{Solver}
use Rattle.overlay_geom.specs.declared.solver.Solver.TheVariants.{Snapping}
use Rattle.overlay_geom.specs.declared.fill_rule.FillRule.{FillRule}
use Rattle.overlay_tiles.specs.Grids.{AreGridLines}
use Rattle.overlay_tiles.specs.Tiles.{AreTiles, MayRefuseTiles}

-- two lists of the lines of a grid across one list of points are one
abbrev pub OneGrid : Type 0
OneGrid = (wide high : ℤ) (ps : List Point) (lines others : List (List Point)) → AreGridLines wide high ps lines →
    AreGridLines wide high ps others → lines ≡ others

-- two lists of tiles over one arrangement are one, with the parts in them
abbrev pub OneTiling : Type 0
OneTiling = (solver : Solver) (width : Width) (fill : FillRule) (wide high : ℤ) (paths : List (List Point))
    (first second : List (List (List Point))) (a : AreTiles solver width fill wide high paths first)
    (b : AreTiles solver width fill wide high paths second) →
    a.sliced.sliced.arrangement ≡ b.sliced.sliced.arrangement → first ≡ second

-- by snap rounding two lists of tiles of the same paths are one
abbrev pub OneTilingOfPaths : Type 0
OneTilingOfPaths = (width : Width) (fill : FillRule) (wide high : ℤ) (paths : List (List Point))
    (first second : List (List (List Point))) → AreTiles Snapping width fill wide high paths first →
    AreTiles Snapping width fill wide high paths second → first ≡ second

-- and memory alone may refuse tiles of paths where some are given
abbrev pub TiledPathsAreRefusedByMemoryAlone : Type 0
TiledPathsAreRefusedByMemoryAlone = (width : Width) (fill : FillRule) (wide high : ℤ) (paths : List (List Point))
    (result : List (List (List Point))) → AreTiles Snapping width fill wide high paths result → (e : OverlayError) →
    MayRefuseTiles Snapping wide high paths e → e ≡ Memory
