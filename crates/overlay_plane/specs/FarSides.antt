-- Points far from the edges of a side: this side's winding stays there, wherever the edges of the other side lie.
use Rattle.std.specs.Prelude.{◌≡◌, ◌⊎◌, ℕ, ◌≤◌, ℤ, pos, List, All, length}
use Rattle.overlay_geom.specs.Plane.{PlanePoint}
use Rattle.overlay_geom.specs.Edges.{CountedEdge, ends_of, subj_of, clip_of, winding_by}
use Rattle.overlay_geom.specs.declared.solver.Solver.{Solver}
use Rattle.overlay_geom.specs.declared.solver.Solver.TheVariants.{Snapping}
use Rattle.overlay_plane.specs.Arrangements.{IsReachedBy}
use Rattle.overlay_plane.specs.EdgeLists.{IsForwardBy}
use Rattle.overlay_plane.specs.FarPoints.{IsFarFromEdge}
use Rattle.overlay_plane.specs.Rounds.{Round, MovingRounds}
use Rattle.overlay_plane.specs.Snaps.{MeetsSquareRound}

-- each edge with such counts is more than k/2 away from p, in x or in y
abbrev pub IsFarFromSide : (CountedEdge → ℤ) → ℕ → List CountedEdge → PlanePoint → Type 0
IsFarFromSide count k es p = All (λ e. (count e ≡ pos 0) ⊎ IsFarFromEdge k p e) es

-- no edge with such counts has a point in the unit square round p, which includes its left and lower sides
abbrev pub IsBesideSide : (CountedEdge → ℤ) → List CountedEdge → PlanePoint → Type 0
IsBesideSide count es p = All (λ e. (count e ≡ pos 0) ⊎ (¬ (MeetsSquareRound (ends_of e) p))) es

-- each side winds as before round the points more than k/2 away from the first edges of this side
pub record KeepsFarSides (k : ℕ) (old new : List CountedEdge) : Type 0 where
  pub subj : (p : PlanePoint) → IsFarFromSide subj_of k old p → winding_by subj_of new p ≡ winding_by subj_of old p
  pub clip : (p : PlanePoint) → IsFarFromSide clip_of k old p → winding_by clip_of new p ≡ winding_by clip_of old p

-- each side winds as before round the points in whose unit squares no first edge of this side has a point
pub record KeepsSidesBeside (old new : List CountedEdge) : Type 0 where
  pub subj : (p : PlanePoint) → IsBesideSide subj_of old p → winding_by subj_of new p ≡ winding_by subj_of old p
  pub clip : (p : PlanePoint) → IsBesideSide clip_of old p → winding_by clip_of new p ≡ winding_by clip_of old p

-- ---- laws

-- k rounds that move points leave each side as it is more than k/2 away from its edges
abbrev pub ArrangementsKeepFarSides : Type 0
ArrangementsKeepFarSides = (solver : Solver) (rounds : List Round) (k : ℕ) (old new : List CountedEdge) →
    IsForwardBy ends_of old → IsReachedBy solver rounds old new → MovingRounds rounds k → KeepsFarSides k old new

-- a round of snap rounding leaves each side as it is at points in whose unit squares it has no edge
abbrev pub SnapsKeepSidesBeside : Type 0
SnapsKeepSidesBeside = (rounds : List Round) (old new : List CountedEdge) → length rounds ≤ 1 →
    IsForwardBy ends_of old → IsReachedBy Snapping rounds old new → KeepsSidesBeside old new
