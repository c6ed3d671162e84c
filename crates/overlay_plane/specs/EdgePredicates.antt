-- Relations of a subject and a clip, told by the filled sides of the edges alone.
use Rattle.std.specs.Prelude.{◌≡◌, ◌⊎◌, ◌↔◌, Bool, true, cond, not, ◌&&◌, ◌||◌, ℤ, List, Contains}
use Rattle.overlay_geom.specs.Plane.{Point}
use Rattle.overlay_geom.specs.Edges.{CountedEdge, subj_of, clip_of}
use Rattle.overlay_plane.specs.Predicates.{fills_above, fills_below, fills_a_side, Intersects, InteriorsIntersect}
use Rattle.overlay_plane.specs.Predicates.{Touches, PointIntersects, IsWithin}
use Rattle.overlay_plane.specs.Predicates.{HoldsSomewhere, IsFillable}
use Rattle.overlay_plane.specs.Regions.{holds_above, holds_below, IsRuled}

-- some edge of the list passes the test
abbrev pub SomeEdge : (CountedEdge → Bool) → List CountedEdge → Type 0
SomeEdge test es = (e : CountedEdge) × Contains es e × (test e ≡ true)

-- the edge has a side that the subject fills and a side that the clip fills. Each side of an edge is filled or not, by
-- the subject and by the clip
abbrev pub has_both : (ℤ → Bool) → List CountedEdge → CountedEdge → Bool
has_both filled es e = fills_a_side filled es subj_of e && fills_a_side filled es clip_of e

-- both fill one side of the edge
abbrev pub has_common_side : (ℤ → Bool) → List CountedEdge → CountedEdge → Bool
has_common_side filled es e = (fills_above filled es subj_of e && fills_above filled es clip_of e) ||
    (fills_below filled es subj_of e && fills_below filled es clip_of e)

-- the own shape fills exactly one side of the edge, and the other shape fills none
abbrev pub is_border_of : (ℤ → Bool) → List CountedEdge → (own other : CountedEdge → ℤ) → CountedEdge → Bool
is_border_of filled es own other e =
    cond (fills_above filled es own e) (not (fills_below filled es own e)) (fills_below filled es own e) && not
    (fills_a_side filled es other e)

-- the subject fills a side that the clip does not fill
abbrev pub pokes_out : (ℤ → Bool) → List CountedEdge → CountedEdge → Bool
pokes_out filled es e =
    (fills_above filled es subj_of e && not (fills_above filled es clip_of e)) ||
    (fills_below filled es subj_of e && not (fills_below filled es clip_of e))

-- the point is an end of the edge
abbrev pub EndsAt : Point → CountedEdge → Type 0
EndsAt v e = (e.a ≡ v) ⊎ (e.b ≡ v)

-- a shared end: an end of an edge where the subject alone fills exactly one side, and of an edge where the clip alone
-- does
pub record HasSharedEnd (filled : ℤ → Bool) (es : List CountedEdge) : Type 0 where
  pub end : Point
  pub of_subj : CountedEdge
  pub of_clip : CountedEdge
  pub subj_entry : Contains es of_subj
  pub clip_entry : Contains es of_clip
  pub subj_at : EndsAt end of_subj
  pub clip_at : EndsAt end of_clip
  pub subj_border : is_border_of filled es subj_of clip_of of_subj ≡ true
  pub clip_border : is_border_of filled es clip_of subj_of of_clip ≡ true

-- ---- points and edges tell the same

-- a rule holds somewhere off the edges exactly where it holds beside some edge
abbrev pub RegionsReachEdges : Type 0
RegionsReachEdges = (holds : ℤ → ℤ → Bool) (subj clip : CountedEdge → ℤ) (es : List CountedEdge) →
    IsRuled holds subj clip es →
    HoldsSomewhere holds subj clip es ↔ SomeEdge
    (λ e. holds_above holds subj clip es e || holds_below holds subj clip es e) es

-- the predicates on points are equivalent to predicates on edges
pub record EdgesTell (filled : ℤ → Bool) (es : List CountedEdge) : Type 0 where
  pub intersects : Intersects filled es ↔ (SomeEdge (has_both filled es) es ⊎ HasSharedEnd filled es)
  pub interiors_intersect : InteriorsIntersect filled es ↔ SomeEdge (has_common_side filled es) es
  pub touches : Touches filled es ↔ ((SomeEdge (has_both filled es) es ⊎ HasSharedEnd filled es)
      × (¬ (SomeEdge (has_common_side filled es) es)))
  pub point_intersects : PointIntersects filled es ↔ (HasSharedEnd filled es × (¬ (SomeEdge (has_both filled es) es)))
  pub within : IsWithin filled es
      ↔ (SomeEdge (fills_a_side filled es subj_of) es × (¬ (SomeEdge (pokes_out filled es) es)))

-- this holds in a settled list without equal edges, with balanced counts
abbrev pub EdgesTellPredicates : Type 0
EdgesTellPredicates = (filled : ℤ → Bool) (es : List CountedEdge) → IsFillable filled es → EdgesTell filled es
