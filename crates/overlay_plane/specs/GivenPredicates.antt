-- Relations of the edges as given, told by an arrangement of them, which winds round points away from them as they do.
use Rattle.std.specs.Prelude.{◌≡◌, ◌↔◌, ℕ, ℤ, Bool, true, false, ◌&&◌, List}
use Rattle.overlay_geom.specs.Plane.{PlanePoint, IsOff}
use Rattle.overlay_geom.specs.Edges.{CountedEdge, all_ends, subj_of, clip_of, winding_by}
use Rattle.overlay_plane.specs.FarPoints.{IsFarFrom, WindsAsGiven, KeepsFarPoints}
use Rattle.overlay_plane.specs.Predicates.{fills_at, HoldsSomewhere, InteriorsIntersect, IsWithin, Covers}

-- at each point off the first edges there is no second edge, and no winding changes
abbrev pub KeepsPointsOff : (old new : List CountedEdge) → Type 0
KeepsPointsOff old new = (p : PlanePoint) → IsOff (all_ends old) p → WindsAsGiven old new p

-- the relations that speak of points off the edges hold of both lists or of neither
pub record HaveSameInteriors (filled : ℤ → Bool) (old new : List CountedEdge) : Type 0 where
  pub interiors_intersect : InteriorsIntersect filled old ↔ InteriorsIntersect filled new
  pub within : IsWithin filled old ↔ IsWithin filled new
  pub covers : Covers filled old ↔ Covers filled new

-- what these relations of the second list tell of the points more than k/2 away from the first edges
pub record TellOfFarPoints (k : ℕ) (filled : ℤ → Bool) (old new : List CountedEdge) : Type 0 where
  -- where both shapes fill such a point, the interiors intersect
  pub interiors_intersect : (p : PlanePoint) → IsFarFrom k old p → fills_at filled old subj_of p ≡ true →
      fills_at filled old clip_of p ≡ true → InteriorsIntersect filled new
  -- so where they do not, no such point is filled by both
  pub apart : ¬ (InteriorsIntersect filled new) → (p : PlanePoint) → IsFarFrom k old p →
      (fills_at filled old subj_of p && fills_at filled old clip_of p) ≡ false
  -- where the subject lies within the clip, the clip fills each such point that the subject fills
  pub within : IsWithin filled new → (p : PlanePoint) → IsFarFrom k old p → fills_at filled old subj_of p ≡ true →
      fills_at filled old clip_of p ≡ true
  -- and the subject those that the clip fills, where it covers the clip
  pub covers : Covers filled new → (p : PlanePoint) → IsFarFrom k old p → fills_at filled old clip_of p ≡ true →
      fills_at filled old subj_of p ≡ true

-- ---- laws

-- a point is off all edges exactly where no edge has a point at its place
abbrev pub OffIsFarByNothing : Type 0
OffIsFarByNothing = (es : List CountedEdge) (p : PlanePoint) → IsOff (all_ends es) p ↔ IsFarFrom 0 es p

-- a list that keeps the points off the edges has the same relations, and a rule holds somewhere of both or of neither
pub record KeptPointsKeepRelations : Type 0 where
  pub relations : (filled : ℤ → Bool) (old new : List CountedEdge) → KeepsPointsOff old new →
      HaveSameInteriors filled old new
  pub rules : (holds : ℤ → ℤ → Bool) (old new : List CountedEdge) → KeepsPointsOff old new →
      HoldsSomewhere holds subj_of clip_of old ↔ HoldsSomewhere holds subj_of clip_of new

-- a list that keeps the points more than k/2 away from the edges has relations that tell of these
pub record FarPointsTellRelations : Type 0 where
  pub relations : (filled : ℤ → Bool) (k : ℕ) (old new : List CountedEdge) → KeepsFarPoints k old new →
      TellOfFarPoints k filled old new
  -- where a rule holds of the windings at such a point, it holds somewhere of the second list
  pub rules : (holds : ℤ → ℤ → Bool) (k : ℕ) (old new : List CountedEdge) → KeepsFarPoints k old new →
      (p : PlanePoint) → IsFarFrom k old p → holds (winding_by subj_of old p) (winding_by clip_of old p) ≡ true →
      HoldsSomewhere holds subj_of clip_of new
