-- How the predicates of one arrangement hang together, and what they have to do with overlays.
use Rattle.std.specs.Prelude.{◌≡◌, ◌↔◌, false, List, [], map}
use Rattle.overlay_geom.specs.Plane.{PlanePoint, IsOff}
use Rattle.overlay_geom.specs.Edges.{CountedEdge, all_ends, subj_of, clip_of}
use Rattle.overlay_geom.specs.Rules.{is_filled, rules_hold}
use Rattle.overlay_geom.specs.declared.fill_rule.FillRule.{FillRule}
use Rattle.overlay_geom.specs.declared.overlay_rule.OverlayRule.TheVariants.{Subject, Intersect, Difference}
use Rattle.overlay_plane.specs.Balance.{HasBalancedCounts}
use Rattle.overlay_plane.specs.Predicates.{fills_at, HoldsSomewhere, Intersects, InteriorsIntersect, Touches}
use Rattle.overlay_plane.specs.Predicates.{PointIntersects, IsWithin, Covers, IsDisjoint}
use Rattle.overlay_plane.specs.Regions.{IsPlanar}

-- shapes touch exactly where they intersect and their interiors do not
abbrev pub TouchesIsIntersectsAlone : Type 0
TouchesIsIntersectsAlone = (fill : FillRule) (es : List CountedEdge) →
    Touches (is_filled fill) es ↔ (Intersects (is_filled fill) es × (¬ (InteriorsIntersect (is_filled fill) es)))

-- of a planar list with balanced counts, shapes that meet in single points alone touch
abbrev pub PointIntersectsTouches : Type 0
PointIntersectsTouches = (fill : FillRule) (es : List CountedEdge) → IsPlanar es → HasBalancedCounts es →
    PointIntersects (is_filled fill) es → Touches (is_filled fill) es

-- where the subject lies within the clip, the interiors intersect
abbrev pub WithinInteriorsIntersect : Type 0
WithinInteriorsIntersect = (fill : FillRule) (es : List CountedEdge) → IsWithin (is_filled fill) es →
    InteriorsIntersect (is_filled fill) es

-- a subject that fills no point off the edges lies within nothing
abbrev pub EmptyIsWithinNothing : Type 0
EmptyIsWithinNothing = (fill : FillRule) (es : List CountedEdge) →
    ((p : PlanePoint) → IsOff (all_ends es) p → fills_at (is_filled fill) es subj_of p ≡ false) →
    ¬ (IsWithin (is_filled fill) es)

-- shapes are disjoint exactly where they do not intersect
abbrev pub DisjointIsNoIntersection : Type 0
DisjointIsNoIntersection = (fill : FillRule) (es : List CountedEdge) →
    IsDisjoint (is_filled fill) es ↔ (¬ (Intersects (is_filled fill) es))

-- the edge with the counts of the subject and of the clip exchanged
abbrev pub exchanged : CountedEdge → CountedEdge
exchanged e = record e { counts = record e.counts { subj = e.counts.clip; clip = e.counts.subj } }

-- the subject covers the clip exactly where, with the two exchanged, the subject lies within the clip
abbrev pub CoversIsWithinExchanged : Type 0
CoversIsWithinExchanged = (fill : FillRule) (es : List CountedEdge) → Covers (is_filled fill) es ↔ IsWithin
    (is_filled fill) (map exchanged es)

-- the predicates by the regions of overlays: the interiors intersect exactly where that of Intersect has a point off
-- the edges, and the subject lies within the clip exactly where that of Subject has one, and that of Difference has
-- none
pub record PredicatesByRegions (fill : FillRule) (es : List CountedEdge) : Type 0 where
  pub interiors : InteriorsIntersect (is_filled fill) es ↔ HoldsSomewhere (rules_hold fill Intersect) subj_of clip_of es
  pub within : IsWithin (is_filled fill) es ↔
      (HoldsSomewhere (rules_hold fill Subject) subj_of clip_of es
      × (¬ (HoldsSomewhere (rules_hold fill Difference) subj_of clip_of es)))

abbrev pub RegionsTellPredicates : Type 0
RegionsTellPredicates = (fill : FillRule) (es : List CountedEdge) → PredicatesByRegions fill es

-- without edges no predicate holds
pub record NothingHolds (fill : FillRule) (es : List CountedEdge) : Type 0 where
  pub intersects : ¬ (Intersects (is_filled fill) es)
  pub interiors_intersect : ¬ (InteriorsIntersect (is_filled fill) es)
  pub touches : ¬ (Touches (is_filled fill) es)
  pub point_intersects : ¬ (PointIntersects (is_filled fill) es)
  pub within : ¬ (IsWithin (is_filled fill) es)
  pub covers : ¬ (Covers (is_filled fill) es)

abbrev pub NothingHoldsWithoutEdges : Type 0
NothingHoldsWithoutEdges = (fill : FillRule) → NothingHolds fill []
