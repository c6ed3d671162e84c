-- What a new builder for predicates, to which paths were added, answers of the paths.
use Rattle.std.proofs.Common.{◌≡◌, ℕ, ℤ, Bool, false, not, List, ap, subst}
use Rattle.std.specs.Prelude.{◌↔◌, Result, Ok, Err, IfOk, OnOk, IsTrue}
use Rattle.overlay_geom.specs.declared.error.OverlayError.{OverlayError}
use Rattle.overlay_geom.specs.Edges.{CountedEdge}
use Rattle.overlay_geom.specs.Plane.{Point}
use Rattle.overlay_geom.specs.declared.solver.Solver.{Solver}
use Rattle.overlay_geom.specs.Rules.{is_filled}
use Rattle.overlay_geom.specs.declared.fill_rule.FillRule.{FillRule}
use Rattle.overlay_geom.specs.declared.fill_rule.FillRule.TheVariants.{EvenOdd}
use Rattle.overlay_plane.specs.Predicates.{Intersects, IsDisjoint, IsFillable}
use Rattle.overlay_graph.specs.Arranged.{IsArranged}
use Rattle.overlay_builder.specs.GivenPaths.{GivenPath, added_paths, subject_and_clip}
use Rattle.overlay_builder.specs.PathLists.{HoldsPaths}
use Rattle.overlay_relate.specs.PredicateBuilder.{PredicateBuilder, empty_builder, held_by}
use Rattle.overlay_relate.specs.PredicateQueries.{TellsRelation}
use Rattle.overlay_relate.proofs.ToldByEdges.{opposite_tells}
use Rattle.i_overlay.proofs.OneShots.{query_refused}
use Rattle.i_overlay.specs.Relations.{TellsOfPaths, TellsOfTwo}

-- the answer of a query on a content that the paths give is one of the paths
pub answer_of_paths : {s : Solver} (solver : Solver) → s ≡ solver →
    (r : Result Bool OverlayError) (relation : (ℤ → Bool) → List CountedEdge → Type 0)
    (fill : FillRule) (paths : List GivenPath)
    (content edges : List CountedEdge) → HoldsPaths (added_paths false paths) content
    → OnOk r (IsArranged s content edges)
    → OnOk r (IsFillable (is_filled fill) edges)
    → IfOk r (λ b. IsTrue b ↔ relation (is_filled fill) edges) → IfOk r (TellsOfPaths solver relation fill paths)
answer_of_paths solver by (Ok b) relation fill paths content edges holds arranged fillable tells = record {
  content = content;
  edges = edges;
  holds = holds;
  arranged = subst (λ t. IsArranged t content edges) by arranged;
  fillable = fillable;
  tells = tells;
}
answer_of_paths solver by (Err e) relation fill paths content edges holds arranged fillable tells = tt

-- so it is where the builder is new, and holds the paths of a subject and of a clip
pub answer_of_two : (solver : Solver) (limit : ℕ) (relation : (ℤ → Bool) → List CountedEdge → Type 0)
    (subj clip : List (List Point)) (old new : PredicateBuilder) (r : Result Bool OverlayError)
    → HoldsPaths (added_paths false (subject_and_clip subj clip)) old.edges
    → old ≡ record (empty_builder EvenOdd solver) { edges = old.edges }
    → TellsRelation limit relation old new r → TellsOfTwo solver relation subj clip r
answer_of_two solver limit relation subj clip old new r holds made told =
    let paths = subject_and_clip subj clip in
    let by = ap (λ o. o.solver) made in
    let rule = ap (λ o. o.fill_rule) made in
    record {
      answer = answer_of_paths solver by r relation EvenOdd paths old.edges new.edges holds told.query.arranged
          (subst (λ fill. OnOk r (IsFillable (is_filled fill) new.edges)) rule told.fillable)
          (subst (λ fill. IfOk r (λ b. IsTrue b ↔ relation (is_filled fill) new.edges)) rule told.answer);
      err = query_refused solver by limit paths (held_by old) (held_by new) r holds (ap (λ o. o.failed) made)
          told.query;
    }

-- where one answer tells whether the shapes intersect, the opposite one tells whether they are disjoint
pub disjoint_of_paths : (solver : Solver) (fill : FillRule) (paths : List GivenPath) (meets : Bool) →
    TellsOfPaths solver Intersects fill paths meets →
    TellsOfPaths solver IsDisjoint fill paths (not meets)
disjoint_of_paths solver fill paths meets h = record {
  content = h.content;
  edges = h.edges;
  holds = h.holds;
  arranged = h.arranged;
  fillable = h.fillable;
  tells = opposite_tells (is_filled fill) h.edges meets h.tells;
}
