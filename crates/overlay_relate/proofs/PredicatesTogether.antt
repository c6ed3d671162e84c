-- How the predicates of one arrangement hang together.
use Rattle.std.proofs.Common.{◌≡◌, inl, inr, ⊎_elim, ℤ, Bool, true, false, cond, not, ◌&&◌, pos, ◌+ℤ◌, List, [], ◌∷◌}
use Rattle.std.proofs.Common.{map, refl, sym, ap, ◌∙◌, subst}
use Rattle.std.proofs.lemmas.Bool.{false≢true, and_parts, and_from, or_cases, or_left, or_right, both_ways}
use Rattle.overlay_geom.specs.Plane.{Edge, PlanePoint, IsOff, is_strictly_below}
use Rattle.overlay_geom.specs.Edges.{CountedEdge, ends_of, all_ends, subj_of, clip_of, winding_by}
use Rattle.overlay_geom.specs.Rules.{is_filled}
use Rattle.overlay_geom.specs.declared.fill_rule.FillRule.{FillRule}
use Rattle.overlay_plane.specs.EdgePredicates.{has_both, has_common_side}
use Rattle.overlay_plane.specs.Predicates.{fills_at, fills_above, fills_below, fills_a_side, IsInClosedRegion}
use Rattle.overlay_plane.specs.Predicates.{LiesWithin}
use Rattle.overlay_plane.proofs.EdgesTell.{edges_tell_predicates}
use Rattle.overlay_order.proofs.RuledContents.{zero_is_empty}
use Rattle.overlay_relate.specs.PredicateLaws.{TouchesIsIntersectsAlone, PointIntersectsTouches}
use Rattle.overlay_relate.specs.PredicateLaws.{WithinInteriorsIntersect, EmptyIsWithinNothing}
use Rattle.overlay_relate.specs.PredicateLaws.{DisjointIsNoIntersection, exchanged, CoversIsWithinExchanged}
use Rattle.overlay_relate.specs.PredicateLaws.{RegionsTellPredicates, NothingHoldsWithoutEdges}
use Rattle.overlay_relate.proofs.ToldByEdges.{fillable}

pub touches_is_intersects_alone : TouchesIsIntersectsAlone
touches_is_intersects_alone fill es = (λ h. h, λ h. h)

-- an edge with a side in common has sides of both
common_side_is_both : (filled : ℤ → Bool) (es : List CountedEdge) (e : CountedEdge) →
    has_common_side filled es e ≡ true → has_both filled es e ≡ true
common_side_is_both filled es e t = ⊎_elim
    (λ above. let both = and_parts (fills_above filled es subj_of e) (fills_above filled es clip_of e) above in
    and_from (fills_a_side filled es subj_of e) (fills_a_side filled es clip_of e)
    (or_left (fills_above filled es subj_of e) (fills_below filled es subj_of e) both.0)
    (or_left (fills_above filled es clip_of e) (fills_below filled es clip_of e) both.1))
    (λ below. let both = and_parts (fills_below filled es subj_of e) (fills_below filled es clip_of e) below in
    and_from (fills_a_side filled es subj_of e) (fills_a_side filled es clip_of e)
    (or_right (fills_above filled es subj_of e) (fills_below filled es subj_of e) both.0)
    (or_right (fills_above filled es clip_of e) (fills_below filled es clip_of e) both.1))
    (or_cases (fills_above filled es subj_of e && fills_above filled es clip_of e)
    (fills_below filled es subj_of e && fills_below filled es clip_of e) t)

pub point_intersects_touches : PointIntersectsTouches
point_intersects_touches fill es planar balanced (meets, none) = (
  meets,
  λ inside.
      let some = (edges_tell_predicates (is_filled fill) es (fillable fill es planar balanced)).interiors_intersect.0
      inside in
      both_ways (has_both (is_filled fill) es some.0) (none some.0 some.1)
      (common_side_is_both (is_filled fill) es some.0 some.2),
)

pub within_interiors_intersect : WithinInteriorsIntersect
within_interiors_intersect fill es lies =
    let at = lies.some in
    (at.0, at.1, at.2, lies.each at.0 at.1 at.2)

pub empty_is_within_nothing : EmptyIsWithinNothing
empty_is_within_nothing fill es empty lies =
    let at = lies.some in
    false≢true (sym (empty at.0 at.1) ∙ at.2)

pub disjoint_is_no_intersection : DisjointIsNoIntersection
disjoint_is_no_intersection fill es = (λ h. h, λ h. h)

-- ---- exchanged

-- what a count sums up to, below a point, is what the exchanged one does of the exchanged edges
subj_exchanged : (es : List CountedEdge) (p : PlanePoint) →
    winding_by subj_of (map exchanged es) p ≡ winding_by clip_of es p
subj_exchanged [] p = refl
subj_exchanged (e ∷ es) p = ap (λ z. cond (is_strictly_below (ends_of e) p) e.counts.clip (pos 0) +ℤ z)
    (subj_exchanged es p)

clip_exchanged : (es : List CountedEdge) (p : PlanePoint) →
    winding_by clip_of (map exchanged es) p ≡ winding_by subj_of es p
clip_exchanged [] p = refl
clip_exchanged (e ∷ es) p = ap (λ z. cond (is_strictly_below (ends_of e) p) e.counts.subj (pos 0) +ℤ z)
    (clip_exchanged es p)

same_ends : (es : List CountedEdge) → all_ends (map exchanged es) ≡ all_ends es
same_ends [] = refl
same_ends (e ∷ es) = ap (λ fs. ends_of e ∷ fs) (same_ends es)

pub covers_is_within_exchanged : CoversIsWithinExchanged
covers_is_within_exchanged fill es = (forth, back)
  where
    off_there : (p : PlanePoint) → IsOff (all_ends es) p → IsOff (all_ends (map exchanged es)) p
    off_there p off = subst (λ (fs : List Edge). IsOff fs p) (sym (same_ends es)) off

    off_here : (p : PlanePoint) → IsOff (all_ends (map exchanged es)) p → IsOff (all_ends es) p
    off_here p off = subst (λ (fs : List Edge). IsOff fs p) (same_ends es) off

    forth : LiesWithin (is_filled fill) es clip_of subj_of →
        LiesWithin (is_filled fill) (map exchanged es) subj_of clip_of
    forth lies = record {
      some = let at = lies.some in (at.0, off_there at.0 at.1, ap (is_filled fill) (subj_exchanged es at.0) ∙ at.2);
      each = λ p off s. ap (is_filled fill) (clip_exchanged es p)
          ∙ lies.each p (off_here p off) (sym (ap (is_filled fill) (subj_exchanged es p)) ∙ s);
    }

    back : LiesWithin (is_filled fill) (map exchanged es) subj_of clip_of →
        LiesWithin (is_filled fill) es clip_of subj_of
    back lies = record {
      some = let at = lies.some in (
        at.0,
        off_here at.0 at.1,
        sym (ap (is_filled fill) (subj_exchanged es at.0))
            ∙ at.2,
      );
      each = λ p off s. sym (ap (is_filled fill) (clip_exchanged es p))
          ∙ lies.each p (off_there p off) (ap (is_filled fill) (subj_exchanged es p) ∙ s);
    }

-- ---- regions

pub regions_tell_predicates : RegionsTellPredicates
regions_tell_predicates fill es = record {
  interiors = (
    λ (p, off, s, k). (p, off, and_from (at subj_of p) (at clip_of p) s k),
    λ (p, off, t). let both = and_parts (at subj_of p) (at clip_of p) t in (p, off, both.0, both.1),
  );
  within = (
    λ lies. (
      lies.some,
      λ (p, off, t).
          let both = and_parts (at subj_of p) (not (at clip_of p)) t in
          false≢true (sym (ap not (lies.each p off both.0)) ∙ both.1),
    ),
    λ (some, none). record { some = some; each = λ p off s. each none p off s (at clip_of p) refl },
  );
}
  where
    at : (CountedEdge → ℤ) → PlanePoint → Bool
    at shape p = fills_at (is_filled fill) es shape p

    each : ¬ ((p : PlanePoint) × IsOff (all_ends es) p
        × ((fills_at (is_filled fill) es subj_of p && not (fills_at (is_filled fill) es clip_of p)) ≡ true)) →
        (p : PlanePoint) → IsOff (all_ends es) p → fills_at (is_filled fill) es subj_of p ≡ true →
        (t : Bool) → fills_at (is_filled fill) es clip_of p ≡ t →
        fills_at (is_filled fill) es clip_of p ≡ true
    each none p off s true is = is
    each none p off s false is = absurd
        (none (
          p,
          off,
          and_from (fills_at (is_filled fill) es subj_of p) (not (fills_at (is_filled fill) es clip_of p))
              s (ap not is),
        ))

-- ---- no edges

-- no point is in a closed region
no_region : (fill : FillRule) (shape : CountedEdge → ℤ) (p : PlanePoint) →
    ¬ (IsInClosedRegion (is_filled fill) [] shape p)
no_region fill shape p (inl is) = false≢true (sym (zero_is_empty fill) ∙ is)
no_region fill shape p (inr beside) = elim beside.entry.1 [ ]

pub nothing_holds_without_edges : NothingHoldsWithoutEdges
nothing_holds_without_edges fill = record {
  intersects = λ h. no_region fill subj_of h.0 h.1;
  interiors_intersect = λ h. false≢true (sym (zero_is_empty fill) ∙ h.2);
  touches = λ h. no_region fill subj_of h.0.0 h.0.1;
  point_intersects = λ h. no_region fill subj_of h.0.0 h.0.1;
  within = λ h. false≢true (sym (zero_is_empty fill) ∙ h.some.2);
  covers = λ h. false≢true (sym (zero_is_empty fill) ∙ h.some.2);
}
