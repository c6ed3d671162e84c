-- Relations of a subject and a clip, as statements on the points of the plane. A count names a shape, and a test on
-- windings tells the points that it fills.
use Rattle.std.specs.Prelude.{◌≡◌, ◌⊎◌, Bool, true, false, ◌&&◌, ◌||◌, ℤ, pos, List, Contains}
use Rattle.overlay_geom.specs.Plane.{PlanePoint, IsOn, IsOff}
use Rattle.overlay_geom.specs.Edges.{CountedEdge, ends_of, all_ends, subj_of, clip_of, winding_by, winding_below}
use Rattle.overlay_geom.specs.Edges.{winding_above}
use Rattle.overlay_plane.specs.Balance.{HasBalancedCounts}
use Rattle.overlay_plane.specs.Regions.{IsPlanar}

-- the shape fills the point
abbrev pub fills_at : (ℤ → Bool) → List CountedEdge → (CountedEdge → ℤ) → PlanePoint → Bool
fills_at filled es shape p = filled (winding_by shape es p)

-- the shape fills the side above the edge, and the side below it
abbrev pub fills_above : (ℤ → Bool) → List CountedEdge → (CountedEdge → ℤ) → CountedEdge → Bool
fills_above filled es shape e = filled (winding_above shape es e)

abbrev pub fills_below : (ℤ → Bool) → List CountedEdge → (CountedEdge → ℤ) → CountedEdge → Bool
fills_below filled es shape e = filled (winding_below shape es e)

-- the shape fills a side of the edge
abbrev pub fills_a_side : (ℤ → Bool) → List CountedEdge → (CountedEdge → ℤ) → CountedEdge → Bool
fills_a_side filled es shape e = fills_above filled es shape e || fills_below filled es shape e

-- p lies on an edge with a side that the shape fills
pub record IsBesideShape (filled : ℤ → Bool) (es : List CountedEdge) (shape : CountedEdge → ℤ)
    (p : PlanePoint) : Type 0 where
  pub edge : CountedEdge
  pub entry : Contains es edge
  pub on : IsOn (ends_of edge) p
  pub fills : fills_a_side filled es shape edge ≡ true

-- p lies in the closed region of the shape: the shape fills p, or a side of an edge on which p lies
abbrev pub IsInClosedRegion : (ℤ → Bool) → List CountedEdge → (CountedEdge → ℤ) → PlanePoint → Type 0
IsInClosedRegion filled es shape p = (fills_at filled es shape p ≡ true) ⊎ IsBesideShape filled es shape p

-- some point lies in both closed regions
abbrev pub Intersects : (ℤ → Bool) → List CountedEdge → Type 0
Intersects filled es = (p : PlanePoint) × IsInClosedRegion filled es subj_of p × IsInClosedRegion filled es clip_of p

-- the rule holds of the two windings at some point off the edges
abbrev pub HoldsSomewhere : (ℤ → ℤ → Bool) → (subj clip : CountedEdge → ℤ) → List CountedEdge → Type 0
HoldsSomewhere holds subj clip es = (p : PlanePoint) × IsOff (all_ends es) p
    × (holds (winding_by subj es p) (winding_by clip es p) ≡ true)

-- some point off the edges is filled by both
abbrev pub InteriorsIntersect : (ℤ → Bool) → List CountedEdge → Type 0
InteriorsIntersect filled es =
    (p : PlanePoint) × IsOff (all_ends es) p × (fills_at filled es subj_of p ≡ true)
    × (fills_at filled es clip_of p ≡ true)

-- the shapes meet, but not in their interiors
abbrev pub Touches : (ℤ → Bool) → List CountedEdge → Type 0
Touches filled es = Intersects filled es × (¬ (InteriorsIntersect filled es))

-- the shapes meet, and no edge has a side filled by the subject and a side filled by the clip
abbrev pub PointIntersects : (ℤ → Bool) → List CountedEdge → Type 0
PointIntersects filled es = Intersects filled es ×
    ((e : CountedEdge) → Contains es e → (fills_a_side filled es subj_of e && fills_a_side filled es clip_of e) ≡ false)

-- some point off the edges is filled by the inner shape, and each such point is filled by the outer shape
pub record LiesWithin (filled : ℤ → Bool) (es : List CountedEdge) (inner outer : CountedEdge → ℤ) : Type 0 where
  pub some : (p : PlanePoint) × IsOff (all_ends es) p × (fills_at filled es inner p ≡ true)
  pub each : (p : PlanePoint) → IsOff (all_ends es) p → fills_at filled es inner p ≡ true →
      fills_at filled es outer p ≡ true

-- the subject lies within the clip
abbrev pub IsWithin : (ℤ → Bool) → List CountedEdge → Type 0
IsWithin filled es = LiesWithin filled es subj_of clip_of

-- the subject covers the clip
abbrev pub Covers : (ℤ → Bool) → List CountedEdge → Type 0
Covers filled es = LiesWithin filled es clip_of subj_of

-- no point lies in both closed regions
abbrev pub IsDisjoint : (ℤ → Bool) → List CountedEdge → Type 0
IsDisjoint filled es = ¬ (Intersects filled es)

-- ---- arrangements on which they are asked

-- a planar list with balanced counts, and a test that fails for winding 0
pub record IsFillable (filled : ℤ → Bool) (es : List CountedEdge) : Type 0 where
  pub planar : IsPlanar es
  pub balanced : HasBalancedCounts es
  pub none : filled (pos 0) ≡ false
