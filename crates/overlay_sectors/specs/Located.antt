-- Where a point lies in the shape of edges as they are given: told by the points near it.
use Rattle.std.specs.Prelude.{◌≡◌, ℕ, ℤ, Bool, false, List}
use Rattle.overlay_geom.specs.Edges.{CountedEdge, all_ends, subj_of}
use Rattle.overlay_geom.specs.Plane.{PlanePoint, IsOff}
use Rattle.overlay_plane.specs.Predicates.{fills_at}
use Rattle.overlay_relate.specs.Closures.{AreWithinPart, IsInClosure, IsInInterior}
use Rattle.overlay_relate.specs.declared.location.PointLocation.{PointLocation}
use Rattle.overlay_relate.specs.declared.location.PointLocation.TheVariants.{Inside, Boundary, Outside}

-- for some n, the set has no point at most 1/n away from p, in x and in y
abbrev pub HasNoneNear : (PlanePoint → Type 0) → PlanePoint → Type 0
HasNoneNear points p = (n : ℕ) × ((q : PlanePoint) → points q → AreWithinPart n q p → ⊥)

-- where p lies, by the filled points off the edges, and by the others off the edges: inside where none of the others is
-- near, outside where none of the filled ones is, and on the boundary where both sets have points however near
abbrev pub IsLocatedNear : (interior exterior : PlanePoint → Type 0) → PlanePoint → PointLocation → Type 0
IsLocatedNear interior exterior p Inside = HasNoneNear exterior p
IsLocatedNear interior exterior p Boundary = IsInClosure interior p × IsInClosure exterior p
IsLocatedNear interior exterior p Outside = HasNoneNear interior p

-- the shape does not fill p, which is on none of the edges
abbrev pub IsInExterior : (ℤ → Bool) → List CountedEdge → (CountedEdge → ℤ) → PlanePoint → Type 0
IsInExterior filled es shape p = IsOff (all_ends es) p × (fills_at filled es shape p ≡ false)

-- where p lies in the shape of the edges as they are, which may cross and overlap
abbrev pub LiesIn : (ℤ → Bool) → List CountedEdge → PlanePoint → PointLocation → Type 0
LiesIn filled es p l = IsLocatedNear (IsInInterior filled es subj_of) (IsInExterior filled es subj_of) p l
