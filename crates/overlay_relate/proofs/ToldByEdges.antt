-- What the edges of an arrangement tell of its two shapes.
use Rattle.std.proofs.Common.{◌⊎◌, ⊎_elim, inr, ℕ, ℤ, Bool, true, false, not, ◌&&◌, List, refl}
use Rattle.std.proofs.lemmas.Bool.{false≢true, and_parts, and_from, both_ways, false_from_ne_true, not_from_false}
use Rattle.std.proofs.lemmas.Bool.{not-true}
use Rattle.std.specs.Prelude.{◌↔◌, IsTrue}
use Rattle.overlay_geom.specs.Edges.{CountedEdge, subj_of, clip_of}
use Rattle.overlay_geom.specs.Settled.{IsSettled}
use Rattle.overlay_geom.specs.Rules.{is_filled}
use Rattle.overlay_geom.specs.declared.fill_rule.FillRule.{FillRule}
use Rattle.overlay_plane.specs.Balance.{HasBalancedCounts}
use Rattle.overlay_plane.specs.EdgePredicates.{SomeEdge, HasSharedEnd, has_both, has_common_side, pokes_out, EdgesTell}
use Rattle.overlay_plane.specs.Predicates.{fills_a_side, Intersects, IsDisjoint, IsFillable}
use Rattle.overlay_plane.specs.Regions.{IsPlanar}
use Rattle.overlay_plane.proofs.EdgesTell.{edges_tell_predicates}
use Rattle.overlay_order.specs.Content.{IsContent, IsAscending}
use Rattle.overlay_order.proofs.RuledContents.{zero_is_empty, planar_content}
use Rattle.overlay_graph.specs.Graphs.{IsArrangement}
use Rattle.overlay_relate.specs.EdgeTests.{clip_pokes_out}
use Rattle.overlay_relate.specs.Found.{IsFoundUnder, answer_by, relations_by}
use Rattle.overlay_relate.specs.PredicateQueries.{Holds, AreRelations}
use Rattle.overlay_relate.specs.declared.found.Found.{Found}
use Rattle.overlay_relate.specs.declared.predicate.Predicate.{Predicate}
use Rattle.overlay_relate.specs.declared.predicate.Predicate.TheVariants.{Intersect, InteriorsIntersect as Interiors}
use Rattle.overlay_relate.specs.declared.predicate.Predicate.TheVariants.{Touch, PointIntersect, Within, Cover}
use Rattle.overlay_relate.proofs.CoversByEdges.{covers_by_edges}

-- predicates may be asked of a planar list with balanced counts
pub fillable : (rule : FillRule) (es : List CountedEdge) → IsPlanar es → HasBalancedCounts es →
    IsFillable (is_filled rule) es
fillable rule es planar balanced = record { planar = planar; balanced = balanced; none = zero_is_empty rule }

-- so they may of what a content holds that ascends and is settled
pub fillable_content : (limit : ℕ) (rule : FillRule) (es : List CountedEdge) → IsContent limit es → IsAscending es →
    IsSettled es → HasBalancedCounts es → IsFillable (is_filled rule) es
fillable_content limit rule es content ascending settled balanced =
    fillable rule es (planar_content limit es content ascending settled) balanced

-- the one test tells P and the other one Q: then the one without the other tells P without Q
one_alone : {P Q : Type 0} (t u : Bool) → (IsTrue t ↔ P) → (IsTrue u ↔ Q) → IsTrue (t && not u) ↔ (P × (¬ Q))
one_alone t u tells also = (
  λ e. let both = and_parts t (not u) e in
      (tells.0 both.0, λ q. both_ways u (not-true u both.1) (also.1 q)),
  λ of. and_from t (not u) (tells.1 of.0) (not_from_false u (false_from_ne_true u (λ e. of.1 (also.0 e)))),
)

module _ (limit : ℕ) (es : List CountedEdge) (arranged : IsArrangement limit es) (balanced : HasBalancedCounts es)
    (rule : FillRule) where
  pub fillable_arrangement : IsFillable (is_filled rule) es
  fillable_arrangement =
      fillable_content limit rule es arranged.content arranged.ascending arranged.settled balanced

  -- its edges tell them
  pub told_by_edges : EdgesTell (is_filled rule) es
  told_by_edges = edges_tell_predicates (is_filled rule) es fillable_arrangement

  abbrev filled : ℤ → Bool
  filled = is_filled rule

  -- ---- what is found of them

  module _ (f : Found)
      (meet : IsTrue f.meet ↔ (SomeEdge (has_both filled es) es ⊎ HasSharedEnd filled es))
      (both : IsTrue f.has_both ↔ SomeEdge (has_both filled es) es)
      (common : IsTrue f.has_common_side ↔ SomeEdge (has_common_side filled es) es)
      (subject : IsTrue f.has_subject ↔ SomeEdge (fills_a_side filled es subj_of) es)
      (outside : IsTrue f.subject_pokes_out ↔ SomeEdge (pokes_out filled es) es)
      (clip : IsTrue f.has_clip ↔ SomeEdge (fills_a_side filled es clip_of) es)
      (clip_outside : IsTrue f.clip_pokes_out ↔ SomeEdge (clip_pokes_out filled es) es) where
    -- it answers each predicate
    answers : (p : Predicate) → IsTrue (answer_by f p) ↔ Holds p filled es
    answers Intersect = (λ t. told_by_edges.intersects.1 (meet.0 t), λ meets. meet.1 (told_by_edges.intersects.0 meets))
    answers Interiors = (
      λ t. told_by_edges.interiors_intersect.1 (common.0 t),
      λ inside. common.1 (told_by_edges.interiors_intersect.0 inside),
    )
    answers Touch =
        let it = one_alone f.meet f.has_common_side meet common in (
          λ t. told_by_edges.touches.1 (it.0 t),
          λ touch. it.1 (told_by_edges.touches.0 touch),
        )
    answers PointIntersect =
        let it = one_alone f.meet f.has_both meet both in (
          λ t. let of = it.0 t in
              told_by_edges.point_intersects.1 (⊎_elim (λ some. absurd (of.1 some)) (λ shared. shared) of.0, of.1),
          λ meets. let of = told_by_edges.point_intersects.0 meets in it.1 (inr of.0, of.1),
        )
    answers Within =
        let it = one_alone f.has_subject f.subject_pokes_out subject outside in (
          λ t. told_by_edges.within.1 (it.0 t),
          λ lies. it.1 (told_by_edges.within.0 lies),
        )
    answers Cover =
        let it = one_alone f.has_clip f.clip_pokes_out clip clip_outside in
        let told = covers_by_edges filled es fillable_arrangement in (
          λ t. told.1 (it.0 t),
          λ lies. it.1 (told.0 lies),
        )

    pub is_found : IsFoundUnder rule es f
    is_found = record { fillable = fillable_arrangement; answers = answers }

-- ---- all relations

-- where one answer tells whether the shapes intersect, the opposite one tells whether they are disjoint
pub opposite_tells : (filled : ℤ → Bool) (es : List CountedEdge) (meets : Bool) →
    (IsTrue meets ↔ Intersects filled es) → IsTrue (not meets) ↔ IsDisjoint filled es
opposite_tells filled es true tells = ((λ t. absurd (false≢true t)), (λ none. absurd (none (tells.0 refl))))
opposite_tells filled es false tells = ((λ t. λ meets. false≢true (tells.1 meets)), (λ none. refl))

-- what is found tells of each relation whether it holds
pub relations_found : (rule : FillRule) (es : List CountedEdge) (f : Found) → IsFoundUnder rule es f →
    AreRelations (is_filled rule) es (relations_by f)
relations_found rule es f found = record {
  intersects = found.answers Intersect;
  interiors_intersect = found.answers Interiors;
  touches = found.answers Touch;
  point_intersects = found.answers PointIntersect;
  within = found.answers Within;
  disjoint = opposite_tells (is_filled rule) es (answer_by f Intersect) (found.answers Intersect);
  covers = found.answers Cover;
}
