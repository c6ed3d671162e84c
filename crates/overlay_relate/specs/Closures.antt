-- Closures of sets of points of the plane, and how two sets meet in theirs. The interiors of shapes are such sets, of
-- any list of edges, whether it is an arrangement or not.
use Rattle.std.specs.Prelude.{◌≡◌, ◌↔◌, ℕ, ℤ, pos, ◌-ℤ◌, ◌*ℤ◌, ◌≤ℤ◌, Bool, true, List}
use Rattle.overlay_geom.specs.Edges.{CountedEdge, all_ends, subj_of, clip_of}
use Rattle.overlay_geom.specs.Plane.{PlanePoint, SamePlace, IsOff}
use Rattle.overlay_plane.specs.Predicates.{fills_at, IsInClosedRegion, Intersects, Touches, PointIntersects, IsDisjoint}
use Rattle.overlay_plane.specs.Predicates.{IsFillable}

-- the two points are at most 1/n apart in x and in y
pub record AreWithinPart (n : ℕ) (p q : PlanePoint) : Type 0 where
  pub right : (pos n *ℤ (p.x *ℤ q.d -ℤ q.x *ℤ p.d)) ≤ℤ (p.d *ℤ q.d)
  pub left : (pos n *ℤ (q.x *ℤ p.d -ℤ p.x *ℤ q.d)) ≤ℤ (p.d *ℤ q.d)
  pub up : (pos n *ℤ (p.y *ℤ q.d -ℤ q.y *ℤ p.d)) ≤ℤ (p.d *ℤ q.d)
  pub down : (pos n *ℤ (q.y *ℤ p.d -ℤ p.y *ℤ q.d)) ≤ℤ (p.d *ℤ q.d)

-- p is in the closure of the set: for each n, the set has a point at most 1/n away from p
abbrev pub IsInClosure : (PlanePoint → Type 0) → PlanePoint → Type 0
IsInClosure points p = (n : ℕ) → (q : PlanePoint) × points q × AreWithinPart n q p

-- some point is in both closures
abbrev pub ClosuresMeet : (first second : PlanePoint → Type 0) → Type 0
ClosuresMeet first second = (p : PlanePoint) × IsInClosure first p × IsInClosure second p

-- the closures meet, but the sets have no point in common
abbrev pub ClosuresTouch : (first second : PlanePoint → Type 0) → Type 0
ClosuresTouch first second = ClosuresMeet first second × ((p : PlanePoint) → first p → second p → ⊥)

-- the closures meet, and near each point of both there is no other
abbrev pub ClosuresMeetInPoints : (first second : PlanePoint → Type 0) → Type 0
ClosuresMeetInPoints first second = ClosuresMeet first second ×
    ((p : PlanePoint) → IsInClosure first p → IsInClosure second p → (n : ℕ) × ((q : PlanePoint) →
    IsInClosure first q → IsInClosure second q → AreWithinPart n q p → SamePlace q p))

-- no point is in both closures
abbrev pub AreClosuresApart : (first second : PlanePoint → Type 0) → Type 0
AreClosuresApart first second = ¬ (ClosuresMeet first second)

-- the shape fills p, which is on none of the edges
abbrev pub IsInInterior : (ℤ → Bool) → List CountedEdge → (CountedEdge → ℤ) → PlanePoint → Type 0
IsInInterior filled es shape p = IsOff (all_ends es) p × (fills_at filled es shape p ≡ true)

-- ---- laws

-- in an arrangement the closures of the interiors are the closed regions, so the relations are those of the closures
pub record ClosuresTell (filled : ℤ → Bool) (es : List CountedEdge) : Type 0 where
  pub subject : (p : PlanePoint) →
      IsInClosure (IsInInterior filled es subj_of) p ↔ IsInClosedRegion filled es subj_of p
  pub clip : (p : PlanePoint) →
      IsInClosure (IsInInterior filled es clip_of) p ↔ IsInClosedRegion filled es clip_of p
  pub intersects : Intersects filled es ↔
      ClosuresMeet (IsInInterior filled es subj_of) (IsInInterior filled es clip_of)
  pub touches : Touches filled es ↔ ClosuresTouch (IsInInterior filled es subj_of) (IsInInterior filled es clip_of)
  pub point_intersects : PointIntersects filled es ↔
      ClosuresMeetInPoints (IsInInterior filled es subj_of) (IsInInterior filled es clip_of)
  pub disjoint : IsDisjoint filled es ↔
      AreClosuresApart (IsInInterior filled es subj_of) (IsInInterior filled es clip_of)

abbrev pub ClosuresAreClosedRegions : Type 0
ClosuresAreClosedRegions = (filled : ℤ → Bool) (es : List CountedEdge) → IsFillable filled es → ClosuresTell filled es
