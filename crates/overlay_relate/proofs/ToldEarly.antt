-- An edge that passes the test of a predicate answers it. Where no edge does, sides alone answer three predicates.
use Rattle.std.proofs.Common.{◌≡◌, inl, ℕ, ℤ, Bool, true, false, List, map, refl, sym, ◌∙◌, subst}
use Rattle.std.proofs.lemmas.Bool.{false≢true}
use Rattle.std.specs.Prelude.{◌↔◌, IsTrue}
use Rattle.overlay_geom.specs.Edges.{CountedEdge, subj_of, clip_of}
use Rattle.overlay_geom.specs.Rules.{is_filled, fill_bits}
use Rattle.overlay_geom.specs.declared.fill_rule.FillRule.{FillRule}
use Rattle.overlay_plane.specs.Balance.{HasBalancedCounts}
use Rattle.overlay_plane.specs.EdgePredicates.{SomeEdge, EdgesTell}
use Rattle.overlay_plane.specs.Predicates.{fills_a_side, IsFillable}
use Rattle.overlay_plane.proofs.EdgesTell.{edges_tell_predicates}
use Rattle.overlay_order.specs.Content.{IsContent}
use Rattle.overlay_graph.specs.FillTests.{some_fill_passes}
use Rattle.overlay_graph.specs.Arranged.{WasArranged}
use Rattle.overlay_relate.specs.EdgeTests.{bits_pass, edge_passes}
use Rattle.overlay_relate.specs.Findings.{telling_test, is_told, Tells}
use Rattle.overlay_relate.specs.Found.{IsFoundUnder, answer_by}
use Rattle.overlay_relate.specs.PredicateQueries.{Holds}
use Rattle.overlay_relate.specs.declared.found.Found.{Found}
use Rattle.overlay_relate.specs.declared.predicate.Predicate.{Predicate}
use Rattle.overlay_relate.specs.declared.predicate.Predicate.TheVariants.{Intersect, InteriorsIntersect as Interiors}
use Rattle.overlay_relate.specs.declared.predicate.Predicate.TheVariants.{Touch, PointIntersect, Within, Cover}
use Rattle.overlay_relate.proofs.BitsTell.{some_by_bits, bits_of_some}
use Rattle.overlay_relate.proofs.CoversByEdges.{covers_by_edges}
use Rattle.overlay_relate.proofs.ToldByEdges.{fillable_content}

module _ (rule : FillRule) (es : List CountedEdge) (fillable : IsFillable (is_filled rule) es) where
  abbrev filled : ℤ → Bool
  filled = is_filled rule

  tell : EdgesTell filled es
  tell = edges_tell_predicates filled es fillable

  -- an edge that passes
  answered : (p : Predicate) → SomeEdge (edge_passes (telling_test p) filled es) es →
      IsTrue (is_told p) ↔ Holds p filled es
  answered Intersect some = ((λ t. tell.intersects.1 (inl some)), (λ h. refl))
  answered Interiors some = ((λ t. tell.interiors_intersect.1 some), (λ h. refl))
  answered Touch some = ((λ t. absurd (false≢true t)), (λ h. absurd ((tell.touches.0 h).1 some)))
  answered PointIntersect some = ((λ t. absurd (false≢true t)), (λ h. absurd ((tell.point_intersects.0 h).1 some)))
  answered Within some = ((λ t. absurd (false≢true t)), (λ h. absurd ((tell.within.0 h).1 some)))
  answered Cover some = (
    (λ t. absurd (false≢true t)),
    (λ h. absurd (((covers_by_edges filled es fillable).0 h).1 some)),
  )

  pub told_early : (p : Predicate) → some_fill_passes (bits_pass (telling_test p)) rule es ≡ true →
      Tells rule es p (is_told p)
  told_early p passes = record {
    fillable = fillable;
    right = answered p (some_by_bits (telling_test p) rule es (map (fill_bits rule es) es) refl passes);
  }

  -- no edge passes
  none : (p : Predicate) → some_fill_passes (bits_pass (telling_test p)) rule es ≡ false →
      ¬ (SomeEdge (edge_passes (telling_test p) filled es) es)
  none p fails some = false≢true
      (sym fails ∙ bits_of_some (telling_test p) rule es (map (fill_bits rule es) es) refl some)

  pub no_common_side : some_fill_passes (bits_pass (telling_test Interiors)) rule es ≡ false →
      Tells rule es Interiors false
  no_common_side fails = record {
    fillable = fillable;
    right = (
      (λ t. absurd (false≢true t)),
      (λ h. absurd (none Interiors fails (tell.interiors_intersect.0 h))),
    );
  }

  pub within_by_side : some_fill_passes (bits_pass (telling_test Within)) rule es ≡ false → (t : Bool) →
      (IsTrue t ↔ SomeEdge (fills_a_side filled es subj_of) es) → Tells rule es Within t
  within_by_side fails t side = record {
    fillable = fillable;
    right = ((λ is. tell.within.1 (side.0 is, none Within fails)), (λ h. side.1 (tell.within.0 h).0));
  }

  pub covers_by_side : some_fill_passes (bits_pass (telling_test Cover)) rule es ≡ false → (t : Bool) →
      (IsTrue t ↔ SomeEdge (fills_a_side filled es clip_of) es) → Tells rule es Cover t
  covers_by_side fails t side = record {
    fillable = fillable;
    right = (
      (λ is. (covers_by_edges filled es fillable).1 (side.0 is, none Cover fails)),
      (λ h. side.1 ((covers_by_edges filled es fillable).0 h).0),
    );
  }

-- so it is of an arrangement with an edge that passes
pub told_of_arranged : (limit : ℕ) (rule : FillRule) (es : List CountedEdge) → IsContent limit es → WasArranged es →
    HasBalancedCounts es → (p : Predicate) → some_fill_passes (bits_pass (telling_test p)) rule es ≡ true →
    Tells rule es p (is_told p)
told_of_arranged limit rule es content was balanced p passes = told_early rule es
    (fillable_content limit rule es content was.3.merged.ascending was.3.settled balanced) p passes

-- what is found answers each predicate
pub found_tells : (rule : FillRule) (es : List CountedEdge) (p : Predicate) (f : Found) → IsFoundUnder rule es f →
    (t : Bool) → t ≡ answer_by f p → Tells rule es p t
found_tells rule es p f found t is = record {
  fillable = found.fillable;
  right = subst (λ b. IsTrue b ↔ Holds p (is_filled rule) es) (sym is) (found.answers p);
}
