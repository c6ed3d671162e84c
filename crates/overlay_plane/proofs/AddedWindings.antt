-- The counted edges of an added contour make its winding, as given or thinned, in its own count, and none in the other
-- count.
use Rattle.std.proofs.Common.{◌≡◌, Bool, true, false, cond, ℤ, pos, ◌+ℤ◌, List, ◌++◌, map, refl, ap, ◌∙◌}
use lib.IntN.{+ℤ_idr}
use Rattle.overlay_geom.specs.Plane.{Point, PlanePoint, Step, is_strictly_below, steps_of, winding}
use Rattle.overlay_geom.specs.Edges.{CountedEdge, ends_of, subj_of, clip_of, subject_edge, clip_edge, winding_by}
use Rattle.overlay_geom.specs.Edges.{AddsContour}
use Rattle.overlay_geom.specs.Thinned.{IsKeptOrThinned}
use Rattle.overlay_plane.specs.Adding.{AddsWinding, AddingAddsWindings}
use Rattle.overlay_plane.proofs.JoinedLists.{total-append, total-map, nothing_taken}
use Rattle.overlay_plane.proofs.StraightOn.{thinning_keeps_windings}
use Rattle.overlay_plane.proofs.Totals.{total-zero}

-- kept as it is or thinned, a contour winds as it was given
pub winding-taken : (keep : Bool) (given taken : List Point) → IsKeptOrThinned keep given taken →
    (p : PlanePoint) → winding (steps_of taken) p ≡ winding (steps_of given) p
winding-taken true given taken is p = ap (λ ps. winding (steps_of ps) p) is
winding-taken false given taken thinned p = thinning_keeps_windings given taken thinned p

-- a list with further edges has the windings of both
winding_by-append : (count : CountedEdge → ℤ) (old added : List CountedEdge) (p : PlanePoint) →
    winding_by count (old ++ added) p ≡ winding_by count old p +ℤ winding_by count added p
winding_by-append count old added p = total-append (λ e. cond (is_strictly_below (ends_of e) p) (count e) (pos 0)) old
    added

-- edges without counts wind round nothing
winding_by-none : (count : CountedEdge → ℤ) (edge_for : Step → CountedEdge) (ss : List Step) →
    ((s : Step) → count (edge_for s) ≡ pos 0) → (p : PlanePoint) →
    winding_by count (map edge_for ss) p ≡ pos 0
winding_by-none count edge_for ss none p = total-map (λ e. cond (is_strictly_below (ends_of e) p) (count e) (pos 0))
    edge_for ss
    ∙ total-zero (λ s. cond (is_strictly_below (ends_of (edge_for s)) p) (count (edge_for s)) (pos 0)) ss
    (λ s at. ap (λ z. cond (is_strictly_below (ends_of (edge_for s)) p) z (pos 0)) (none s)
    ∙ nothing_taken (is_strictly_below (ends_of (edge_for s)) p))

module _ (keep : Bool) (given : List Point) (old new : List CountedEdge) where
  -- a count whose edges make the winding of their steps rises, and one that they do not have stays
  adds_winding : (edge_for : Step → CountedEdge) (risen kept : CountedEdge → ℤ) →
      ((ss : List Step) (p : PlanePoint) → winding_by risen (map edge_for ss) p ≡ winding ss p) →
      ((s : Step) → kept (edge_for s) ≡ pos 0) →
      AddsContour keep edge_for given old new → AddsWinding risen kept given old new
  adds_winding edge_for risen kept winds none adds = record {
    rises = λ p. ap (λ es. winding_by risen es p) adds.content
        ∙ winding_by-append risen old (map edge_for (steps_of adds.taken)) p
        ∙ ap (λ z. winding_by risen old p +ℤ z) (winds (steps_of adds.taken) p
        ∙ winding-taken keep given adds.taken adds.thinned p);
    stays = λ p. ap (λ es. winding_by kept es p) adds.content
        ∙ winding_by-append kept old (map edge_for (steps_of adds.taken)) p
        ∙ ap (λ z. winding_by kept old p +ℤ z) (winding_by-none kept edge_for (steps_of adds.taken) none p)
        ∙ +ℤ_idr (winding_by kept old p);
  }

-- the law of added windings
pub adding_adds_windings : AddingAddsWindings
adding_adds_windings = record {
  subject = λ keep given old new. adds_winding keep given old new subject_edge subj_of clip_of
      (λ ss p. total-map (λ e. cond (is_strictly_below (ends_of e) p) (subj_of e) (pos 0)) subject_edge ss) (λ s. refl);
  clip = λ keep given old new. adds_winding keep given old new clip_edge clip_of subj_of
      (λ ss p. total-map (λ e. cond (is_strictly_below (ends_of e) p) (clip_of e) (pos 0)) clip_edge ss) (λ s. refl);
}
