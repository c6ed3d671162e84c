-- Relations of closed paths as they were added, and what answers of a builder that holds just these tell of them.
use Rattle.std.specs.Prelude.{◌≡◌, ◌↔◌, ℕ, ℤ, Bool, true, false, ◌&&◌, List, IsTrue}
use Rattle.overlay_geom.specs.Edges.{CountedEdge}
use Rattle.overlay_geom.specs.Plane.{PlanePoint}
use Rattle.overlay_geom.specs.declared.options.ShapeType.{ShapeType}
use Rattle.overlay_geom.specs.declared.options.ShapeType.TheVariants.{Subject, Clip}
use Rattle.overlay_geom.specs.declared.solver.Solver.{Solver}
use Rattle.overlay_plane.specs.Meetings.{MeetInWholePoints}
use Rattle.overlay_plane.specs.Predicates.{Intersects, InteriorsIntersect, Touches, PointIntersects, IsWithin, Covers}
use Rattle.overlay_plane.specs.Predicates.{IsDisjoint, IsFillable}
use Rattle.overlay_graph.specs.Arranged.{IsArranged}
use Rattle.overlay_builder.specs.GivenPaths.{GivenPath, added_paths}
use Rattle.overlay_builder.specs.PathLists.{HoldsPaths}
use Rattle.overlay_builder.specs.PathWindings.{winding_of_paths, IsFarFromPaths}
use Rattle.overlay_relate.specs.Closures.{ClosuresMeet, ClosuresTouch, ClosuresMeetInPoints, AreClosuresApart}

-- the side fills the point
abbrev pub path_fills : (ℤ → Bool) → List GivenPath → ShapeType → PlanePoint → Bool
path_fills filled paths side p = filled (winding_of_paths side paths p)

-- the side fills p, which is on none of the paths
abbrev pub IsInPathInterior : (ℤ → Bool) → List GivenPath → ShapeType → PlanePoint → Type 0
IsInPathInterior filled paths side p = IsFarFromPaths 0 paths p × (path_fills filled paths side p ≡ true)

-- some point off the paths is filled by both sides
abbrev pub PathInteriorsIntersect : (ℤ → Bool) → List GivenPath → Type 0
PathInteriorsIntersect filled paths =
    (p : PlanePoint) × IsFarFromPaths 0 paths p × (path_fills filled paths Subject p ≡ true)
    × (path_fills filled paths Clip p ≡ true)

-- some point off the paths is filled by the inner side, and each such point is filled by the outer side
pub record PathLiesWithin (filled : ℤ → Bool) (paths : List GivenPath) (inner outer : ShapeType) : Type 0 where
  pub some : (p : PlanePoint) × IsFarFromPaths 0 paths p × (path_fills filled paths inner p ≡ true)
  pub each : (p : PlanePoint) → IsFarFromPaths 0 paths p → path_fills filled paths inner p ≡ true →
      path_fills filled paths outer p ≡ true

-- the answer whether the interiors intersect, by an arrangement of what the paths give for which k rounds moved some
-- point
pub record TellsOfPathInteriors (k : ℕ) (filled : ℤ → Bool) (paths : List GivenPath) (content : List CountedEdge)
    (answer : Bool) : Type 0 where
  -- where the edges held meet only in whole points or overlap, it is the one of the paths
  pub exact : MeetInWholePoints content → (IsTrue answer ↔ PathInteriorsIntersect filled paths)
  -- it is yes where both sides fill a point more than k/2 away from the paths, in x or in y
  pub both : (p : PlanePoint) → IsFarFromPaths k paths p → path_fills filled paths Subject p ≡ true →
      path_fills filled paths Clip p ≡ true → IsTrue answer
  -- so where it is no, both fill no such point
  pub apart : answer ≡ false → (p : PlanePoint) → IsFarFromPaths k paths p →
      (path_fills filled paths Subject p && path_fills filled paths Clip p) ≡ false

-- the answer whether the inner side lies within the outer
pub record TellsOfPathWithin (k : ℕ) (filled : ℤ → Bool) (paths : List GivenPath) (content : List CountedEdge)
    (inner outer : ShapeType) (answer : Bool) : Type 0 where
  -- where the edges held meet only in whole points or overlap, it is the one of the paths
  pub exact : MeetInWholePoints content → (IsTrue answer ↔ PathLiesWithin filled paths inner outer)
  -- where it is yes, the outer side fills each point that the inner one fills more than k/2 away from the paths
  pub far : IsTrue answer → (p : PlanePoint) → IsFarFromPaths k paths p → path_fills filled paths inner p ≡ true →
      path_fills filled paths outer p ≡ true

-- the answer whether the closures of the interiors meet
pub record TellsOfPathMeeting (k : ℕ) (filled : ℤ → Bool) (paths : List GivenPath) (content : List CountedEdge)
    (answer : Bool) : Type 0 where
  -- where the edges held meet only in whole points or overlap, it is the one of the paths
  pub exact : MeetInWholePoints content → (IsTrue answer ↔
      ClosuresMeet (IsInPathInterior filled paths Subject) (IsInPathInterior filled paths Clip))
  -- it is yes where both sides fill a point more than k/2 away from the paths, in x or in y
  pub both : (p : PlanePoint) → IsFarFromPaths k paths p → path_fills filled paths Subject p ≡ true →
      path_fills filled paths Clip p ≡ true → IsTrue answer
  -- so where it is no, both fill no such point
  pub apart : answer ≡ false → (p : PlanePoint) → IsFarFromPaths k paths p →
      (path_fills filled paths Subject p && path_fills filled paths Clip p) ≡ false

-- the answer to a relation of the interiors and their closures, for sides whose interiors do not meet
pub record TellsOfPathApart (k : ℕ) (filled : ℤ → Bool) (paths : List GivenPath) (content : List CountedEdge)
    (relation : (first second : PlanePoint → Type 0) → Type 0) (answer : Bool) : Type 0 where
  -- where the edges held meet only in whole points or overlap, it is the one of the paths
  pub exact : MeetInWholePoints content → (IsTrue answer ↔
      relation (IsInPathInterior filled paths Subject) (IsInPathInterior filled paths Clip))
  -- where it is yes, both sides fill no point more than k/2 away from the paths
  pub apart : IsTrue answer → (p : PlanePoint) → IsFarFromPaths k paths p →
      (path_fills filled paths Subject p && path_fills filled paths Clip p) ≡ false

-- ---- laws

-- answers of an arrangement of what the paths give tell so of the paths, with points on one line kept or dropped
pub record ArrangementsTellOfPaths : Type 0 where
  pub interiors_intersect : (keep : Bool) (paths : List GivenPath) (solver : Solver)
      (content edges : List CountedEdge) (filled : ℤ → Bool) (answer : Bool) →
      HoldsPaths (added_paths keep paths) content → (arranged : IsArranged solver content edges) →
      (IsTrue answer ↔ InteriorsIntersect filled edges) →
      TellsOfPathInteriors arranged.moving filled paths content answer
  pub within : (keep : Bool) (paths : List GivenPath) (solver : Solver)
      (content edges : List CountedEdge) (filled : ℤ → Bool) (answer : Bool) →
      HoldsPaths (added_paths keep paths) content → (arranged : IsArranged solver content edges) →
      (IsTrue answer ↔ IsWithin filled edges) →
      TellsOfPathWithin arranged.moving filled paths content Subject Clip answer
  pub covers : (keep : Bool) (paths : List GivenPath) (solver : Solver)
      (content edges : List CountedEdge) (filled : ℤ → Bool) (answer : Bool) →
      HoldsPaths (added_paths keep paths) content → (arranged : IsArranged solver content edges) →
      (IsTrue answer ↔ Covers filled edges) →
      TellsOfPathWithin arranged.moving filled paths content Clip Subject answer

-- so do answers about closed regions, where the arrangement's edges are planar, with balanced counts
pub record ArrangementsTellOfPathClosures : Type 0 where
  pub intersects : (keep : Bool) (paths : List GivenPath) (solver : Solver)
      (content edges : List CountedEdge) (filled : ℤ → Bool) (answer : Bool) →
      HoldsPaths (added_paths keep paths) content → (arranged : IsArranged solver content edges) →
      IsFillable filled edges → (IsTrue answer ↔ Intersects filled edges) →
      TellsOfPathMeeting arranged.moving filled paths content answer
  pub touches : (keep : Bool) (paths : List GivenPath) (solver : Solver)
      (content edges : List CountedEdge) (filled : ℤ → Bool) (answer : Bool) →
      HoldsPaths (added_paths keep paths) content → (arranged : IsArranged solver content edges) →
      IsFillable filled edges → (IsTrue answer ↔ Touches filled edges) →
      TellsOfPathApart arranged.moving filled paths content ClosuresTouch answer
  pub point_intersects : (keep : Bool) (paths : List GivenPath) (solver : Solver)
      (content edges : List CountedEdge) (filled : ℤ → Bool) (answer : Bool) →
      HoldsPaths (added_paths keep paths) content → (arranged : IsArranged solver content edges) →
      IsFillable filled edges → (IsTrue answer ↔ PointIntersects filled edges) →
      TellsOfPathApart arranged.moving filled paths content ClosuresMeetInPoints answer
  pub disjoint : (keep : Bool) (paths : List GivenPath) (solver : Solver)
      (content edges : List CountedEdge) (filled : ℤ → Bool) (answer : Bool) →
      HoldsPaths (added_paths keep paths) content → (arranged : IsArranged solver content edges) →
      IsFillable filled edges → (IsTrue answer ↔ IsDisjoint filled edges) →
      TellsOfPathApart arranged.moving filled paths content AreClosuresApart answer
