-- Laws of where points lie in shapes as they are given.
use Rattle.std.specs.Prelude.{◌≡◌, Bool, ℤ, List}
use Rattle.overlay_geom.specs.Edges.{CountedEdge}
use Rattle.overlay_geom.specs.Plane.{PlanePoint}
use Rattle.overlay_builder.specs.GivenPaths.{GivenPath, added_paths}
use Rattle.overlay_builder.specs.PathLists.{HoldsPaths}
use Rattle.overlay_relate.specs.declared.location.PointLocation.{PointLocation}
use Rattle.overlay_sectors.specs.Located.{LiesIn}
use Rattle.overlay_located.specs.Located.{LiesInPaths}

-- what is told of the edges that paths give, with points on one line kept or dropped, is told of the paths
abbrev pub ContentsLocateOfPaths : Type 0
ContentsLocateOfPaths = (keep : Bool) (paths : List GivenPath) (content : List CountedEdge) →
    HoldsPaths (added_paths keep paths) content → (filled : ℤ → Bool) (p : PlanePoint) (l : PointLocation) →
    LiesIn filled content p l → LiesInPaths filled paths p l

-- two locations of a point in the shape of one list of edges are one
abbrev pub OneLocation : Type 0
OneLocation = (filled : ℤ → Bool) (es : List CountedEdge) (p : PlanePoint) (l m : PointLocation) →
    LiesIn filled es p l → LiesIn filled es p m → l ≡ m

-- and two in the shape of the same paths
abbrev pub OneLocationInPaths : Type 0
OneLocationInPaths = (filled : ℤ → Bool) (paths : List GivenPath) (p : PlanePoint) (l m : PointLocation) →
    LiesInPaths filled paths p l → LiesInPaths filled paths p m → l ≡ m
