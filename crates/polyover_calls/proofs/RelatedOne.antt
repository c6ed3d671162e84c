-- What the answer of one relation tells of the arrays, and why none is told.
use Rattle.std.proofs.Common.{◌≡◌, ◌<◌, ◌≤◌, ℕ, ℤ, Bool, false, List, inl, inr, refl, ap, ap₂, subst, sym, arith}
use Rattle.std.specs.Prelude.{◌↔◌, Result, Ok, Err, MatchResult, IsTrue}
use Rattle.overlay_graph.specs.Arranged.{IsArranged}
use Rattle.overlay_geom.specs.Rules.{bit, is_filled}
use Rattle.overlay_geom.specs.declared.fill_rule.FillRule.{FillRule}
use Rattle.overlay_geom.specs.Edges.{CountedEdge}
use Rattle.overlay_geom.specs.Plane.{Point}
use Rattle.overlay_geom.specs.declared.error.OverlayError.{OverlayError}
use Rattle.overlay_geom.specs.declared.error.OverlayError.TheVariants as error
use Rattle.overlay_geom.specs.declared.solver.Solver.{Solver}
use Rattle.overlay_builder.specs.GivenPaths.{GivenPath, added_paths, subject_and_clip}
use Rattle.overlay_builder.specs.PathLists.{HoldsPaths}
use Rattle.overlay_plane.specs.Predicates.{IsFillable}
use Rattle.overlay_relate.specs.PredicateBuilder.{PredicateBuilder, empty_builder, held_by}
use Rattle.overlay_relate.specs.PredicateQueries.{TellsRelation}
use Rattle.i_overlay.proofs.OneShots.{query_refused}
use Rattle.i_overlay.specs.OneShot.{MayRefusePaths}
use Rattle.i_overlay.specs.Relations.{TellsOfPaths}
use Rattle.polyover_calls.specs.declared.fault.Fault.{Fault}
use Rattle.polyover_calls.specs.declared.relation.Relation.{Relation}
use Rattle.polyover_calls.specs.declared.relation.Relation.TheVariants as relation
use Rattle.polyover_calls.proofs.Refusals.{unread, unanswered}
use Rattle.polyover_calls.specs.Asked.{fill_of, solver_of}
use Rattle.polyover_calls.specs.Given.{Contours, paths_of, paths_given, AreGiven, AreUnread}
use Rattle.polyover_calls.specs.RelatedOne.{AreRelationNumbers, Holds, IsRelatedSo, IsRelation, IsRelationRefused}
use Rattle.polyover_calls.specs.RelatedOne.{IsUnknownRelation, RelatingOneEnds, bit_of}
use Rattle.polyover_calls.specs.Statuses.{status_of_fault, status_of_error}
use Rattle.polyover_calls.specs.declared.status.Status.{Status}
use Rattle.polyover_calls.specs.declared.status.Status.TheVariants.{Done, BadOption}

-- what a new builder, to which the paths were added, tells of a relation it tells of the paths
pub relation_or_refused : (solver : Solver) (limit : ℕ) (fill : FillRule) (paths : List GivenPath)
    (relation : (ℤ → Bool) → List CountedEdge → Type 0) (r : Result Bool OverlayError) (old new : PredicateBuilder) →
    HoldsPaths (added_paths false paths) old.edges → old ≡ record (empty_builder fill solver) { edges = old.edges } →
    TellsRelation limit relation old new r →
    MatchResult r (TellsOfPaths solver relation fill paths) (MayRefusePaths solver paths)
relation_or_refused solver limit fill paths relation (Ok b) old new holds made told = record {
  content = old.edges;
  edges = new.edges;
  holds = holds;
  arranged = subst (λ s. IsArranged s old.edges new.edges) (ap (λ p. p.solver) made) told.query.arranged;
  fillable = subst (λ f. IsFillable (is_filled f) new.edges) (ap (λ p. p.fill_rule) made) told.fillable;
  tells = subst (λ f. IsTrue b ↔ relation (is_filled f) new.edges) (ap (λ p. p.fill_rule) made) told.answer;
}
relation_or_refused solver limit fill paths relation (Err e) old new holds made told =
    query_refused solver (ap (λ p. p.solver) made) limit paths (held_by old) (held_by new) (Err e) holds
    (ap (λ p. p.failed) made) told.query

-- a number that is none of these is the bit of no relation
pub no_relation : (n : ℕ) → ¬ (n ≡ 1) → ¬ (n ≡ 2) → ¬ (n ≡ 4) → ¬ (n ≡ 8) → ¬ (n ≡ 16) → ¬ (n ≡ 32) → ¬ (n ≡ 64) →
    ¬ (IsRelation n)
no_relation n a b c d e f g is = none is.relation is.number
  where
    none : (r : Relation) → ¬ (n ≡ bit_of r)
    none relation.Intersects same = a same
    none relation.InteriorsIntersect same = b same
    none relation.Touches same = c same
    none relation.PointIntersects same = d same
    none relation.Within same = e same
    none relation.Disjoint same = f same
    none relation.Covers same = g same

module _ {I : Type 0} (whole : I → ℤ) (limit number fill solver : ℕ) (subject clip : Contours I) where
  pub told_ends : (old new : ℕ) → IsRelatedSo whole limit number fill solver subject clip new →
      RelatingOneEnds whole limit number fill solver subject clip old new Done
  told_ends old new told = inl (refl, told)

  pub untold_ends : (old : ℕ) (s : Status) → IsRelationRefused whole limit number fill solver subject clip s →
      RelatingOneEnds whole limit number fill solver subject clip old old s
  untold_ends old s refused = inr (refl, refused)

  -- why nothing is told
  abbrev may : OverlayError → Type 0
  may = MayRefusePaths (solver_of solver) (paths_given whole subject clip)

  never_failed : ¬ (may error.Failed)
  never_failed failed = failed

  -- the relation and the solver with the numbers
  abbrev are_known : (r : Relation) → fill < 4 → number ≡ bit_of r → solver < 2 → AreRelationNumbers number fill solver
  are_known r known_fill is known = (
    known_fill,
    record {
      relation = record { relation = r; number = is };
      solver = known;
    },
  )

  pub relation_unknown : (s : Status) → fill < 4 → s ≡ BadOption → ¬ (IsRelation number) →
      IsRelationRefused whole limit number fill solver subject clip s
  relation_unknown s known_fill same none = subst (IsRelationRefused whole limit number fill solver subject clip)
      (sym same) (inr (refl, (known_fill, λ are. none are.relation)))

  pub solver_unknown : (s : Status) → fill < 4 → s ≡ BadOption → 2 ≤ solver →
      IsRelationRefused whole limit number fill solver subject clip s
  solver_unknown s known_fill same large = subst (IsRelationRefused whole limit number fill solver subject clip)
      (sym same) (inr (refl, (known_fill, λ are. let below = are.solver in omega (arith, below, large))))

  pub contours_untold : (r : Relation) (f : Fault) → fill < 4 → number ≡ bit_of r → solver < 2 →
      AreUnread whole limit subject clip f →
      IsRelationRefused whole limit number fill solver subject clip (status_of_fault f)
  contours_untold r f known_fill is known = unread whole limit (IsUnknownRelation number fill solver)
      (AreRelationNumbers number fill solver) subject clip may tt f (are_known r known_fill is known)

  -- what the query refuses, of what is read
  refused_of : (e : OverlayError) (t : Solver) (p q : List (List Point)) → t ≡ solver_of solver →
      p ≡ paths_of whole subject → q ≡ paths_of whole clip → MayRefusePaths t (subject_and_clip p q) e → may e
  refused_of e t p q same_t same_p same_q refused =
      subst (λ y. MayRefusePaths y (paths_given whole subject clip) e) same_t
      (subst (λ paths. MayRefusePaths t paths e) (ap₂ subject_and_clip same_p same_q) refused)

  pub relation_refused : (e : OverlayError) (r : Relation) (t : Solver) (p q : List (List Point)) → fill < 4 →
      number ≡ bit_of r → solver < 2 → AreGiven whole limit subject → AreGiven whole limit clip →
      t ≡ solver_of solver → p ≡ paths_of whole subject → q ≡ paths_of whole clip →
      MayRefusePaths t (subject_and_clip p q) e →
      IsRelationRefused whole limit number fill solver subject clip (status_of_error e)
  relation_refused e r t p q known_fill is known s c same_t same_p same_q refused =
      unanswered whole limit (IsUnknownRelation number fill solver) (AreRelationNumbers number fill solver) subject
      clip may never_failed e (are_known r known_fill is known) s c
      (refused_of e t p q same_t same_p same_q refused)

  pub answer_told : (f : FillRule) (r : Relation) (t : Solver) (p q : List (List Point)) (holds : Bool) (answer : ℕ) →
      fill < 4 → number ≡ bit_of r → solver < 2 → AreGiven whole limit subject → AreGiven whole limit clip →
      f ≡ fill_of fill → t ≡ solver_of solver → p ≡ paths_of whole subject → q ≡ paths_of whole clip →
      TellsOfPaths t (Holds r) f (subject_and_clip p q) holds → answer ≡ bit holds 1 →
      IsRelatedSo whole limit number fill solver subject clip answer
  answer_told f r t p q holds answer known_fill is known s c same_f same_t same_p same_q tells told = record {
    known = are_known r known_fill is known;
    subject_given = s;
    clip_given = c;
    holds = holds;
    tells = subst (λ y. TellsOfPaths y (Holds r) (fill_of fill) (paths_given whole subject clip) holds) same_t
        (subst (λ y. TellsOfPaths t (Holds r) y (paths_given whole subject clip) holds) same_f
        (subst (λ paths. TellsOfPaths t (Holds r) f paths holds) (ap₂ subject_and_clip same_p same_q) tells));
    told = told;
  }
