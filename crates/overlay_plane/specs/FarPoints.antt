-- Points far from all edges: an arrangement has no edge there, and it winds round them as the edges did that were
-- given.
use Rattle.std.specs.Prelude.{◌≡◌, ℕ, Bool, ℤ, pos, ◌-ℤ◌, ◌*ℤ◌, ◌≤ℤ◌, List, All, map}
use Rattle.overlay_geom.specs.Plane.{PlanePoint, Step, IsOn, IsOff, winding}
use Rattle.overlay_geom.specs.Edges.{CountedEdge, ends_of, subj_of, clip_of, winding_by}
use Rattle.overlay_geom.specs.declared.solver.Solver.{Solver}
use Rattle.overlay_plane.specs.Arrangements.{IsReachedBy}
use Rattle.overlay_plane.specs.ContourWindings.{wanted_winding}
use Rattle.overlay_plane.specs.EdgeLists.{IsForwardBy}
use Rattle.overlay_plane.specs.Rounds.{Round, MovingRounds}
use Rattle.overlay_plane.specs.Turn.{Hand}

-- the two points are at most k/2 apart in x and in y
pub record AreWithinHalves (k : ℕ) (p q : PlanePoint) : Type 0 where
  pub right : (pos 2 *ℤ (p.x *ℤ q.d -ℤ q.x *ℤ p.d)) ≤ℤ (pos k *ℤ (p.d *ℤ q.d))
  pub left : (pos 2 *ℤ (q.x *ℤ p.d -ℤ p.x *ℤ q.d)) ≤ℤ (pos k *ℤ (p.d *ℤ q.d))
  pub up : (pos 2 *ℤ (p.y *ℤ q.d -ℤ q.y *ℤ p.d)) ≤ℤ (pos k *ℤ (p.d *ℤ q.d))
  pub down : (pos 2 *ℤ (q.y *ℤ p.d -ℤ p.y *ℤ q.d)) ≤ℤ (pos k *ℤ (p.d *ℤ q.d))

-- each point of the edge is more than k/2 away from p, in x or in y
abbrev pub IsFarFromEdge : ℕ → PlanePoint → CountedEdge → Type 0
IsFarFromEdge k p e = (q : PlanePoint) → IsOn (ends_of e) q → ¬ (AreWithinHalves k q p)

-- so it is with all edges of the list
abbrev pub IsFarFrom : ℕ → List CountedEdge → PlanePoint → Type 0
IsFarFrom k es p = All (IsFarFromEdge k p) es

-- p is off the second edges, and they wind round it as the first do
pub record WindsAsGiven (old new : List CountedEdge) (p : PlanePoint) : Type 0 where
  pub off : IsOff (map ends_of new) p
  pub subj : winding_by subj_of new p ≡ winding_by subj_of old p
  pub clip : winding_by clip_of new p ≡ winding_by clip_of old p

-- this holds at each point more than k/2 away from the first edges
abbrev pub KeepsFarPoints : ℕ → (old new : List CountedEdge) → Type 0
KeepsFarPoints k old new = (p : PlanePoint) → IsFarFrom k old p → WindsAsGiven old new p

-- ---- laws

-- k rounds that move points leave each point more than k/2 away as it is
abbrev pub ArrangementsKeepFarPoints : Type 0
ArrangementsKeepFarPoints = (solver : Solver) (rounds : List Round) (k : ℕ) (old new : List CountedEdge) →
    IsForwardBy ends_of old → IsReachedBy solver rounds old new → MovingRounds rounds k → KeepsFarPoints k old new

-- hence steps that wind as rules want off the arrangement's edges wind at far points as they want of the edges as given
abbrev pub FarPointsWindAsWanted : Type 0
FarPointsWindAsWanted = (holds : ℤ → ℤ → Bool) (filled : Hand) (k : ℕ) (old new : List CountedEdge)
    (steps : List Step) → KeepsFarPoints k old new →
    ((p : PlanePoint) → IsOff (map ends_of new) p →
    winding steps p ≡ wanted_winding holds subj_of clip_of filled new p) →
    (p : PlanePoint) → IsFarFrom k old p → winding steps p ≡ wanted_winding holds subj_of clip_of filled old p
