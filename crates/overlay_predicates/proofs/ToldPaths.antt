-- What a new builder for exact predicates, to which paths were added, tells of the paths.
use Rattle.std.proofs.Common.{◌≡◌, ◌↔◌, Bool, false, ℤ, List, sym, ap, subst}
use Rattle.std.specs.Prelude.{Result, Ok, Err, IsTrue, MatchResult}
use Rattle.overlay_geom.specs.Edges.{CountedEdge}
use Rattle.overlay_geom.specs.Plane.{Point}
use Rattle.overlay_geom.specs.Rules.{is_filled}
use Rattle.overlay_geom.specs.declared.error.OverlayError.{OverlayError}
use Rattle.overlay_geom.specs.declared.fill_rule.FillRule.{FillRule}
use Rattle.overlay_geom.specs.declared.fill_rule.FillRule.TheVariants.{EvenOdd}
use Rattle.overlay_builder.specs.GivenPaths.{GivenPath, added_paths, subject_and_clip}
use Rattle.overlay_builder.specs.PathLists.{HoldsPaths, MayRefuseBuilder}
use Rattle.overlay_contacts.specs.ExactRelations.{AreExactRelations}
use Rattle.overlay_relate.specs.declared.relations.Relations.{Relations}
use Rattle.overlay_relate.proofs.GivenClosures.{answer_of}
use Rattle.overlay_predicates.specs.ExactBuilder.{ExactBuilder, empty_builder}
use Rattle.overlay_predicates.specs.ExactPaths.{AreExactOfPaths, TellsRelationOfTwo, TellsRelationsOfTwo}
use Rattle.overlay_predicates.specs.ExactQueries.{TellsRelation, TellsRelations}
use Rattle.overlay_predicates.proofs.ExactPaths.{contents_tell_of_paths}

-- the relations are those of the paths, and memory may be refused
pub told_of_made : (fill : FillRule) (paths : List GivenPath) (b : ExactBuilder) (r : Result Relations OverlayError) →
    HoldsPaths (added_paths false paths) b.edges → b ≡ record (empty_builder fill) { edges = b.edges } →
    TellsRelations b r →
    MatchResult r (AreExactOfPaths (is_filled fill) paths) (MayRefuseBuilder (added_paths false paths))
told_of_made fill paths b (Ok r) holds made told = contents_tell_of_paths false paths b.edges holds (is_filled fill) r
    (subst (λ f. AreExactRelations (is_filled f) b.edges r) (ap (λ o. o.fill_rule) made) told.answer)
told_of_made fill paths b (Err e) holds made told =
    subst (MayRefuseBuilder (added_paths false paths)) (sym told.err) tt

-- so it is of a subject and a clip under EvenOdd
pub told_of_two : (subj clip : List (List Point)) (b : ExactBuilder) (r : Result Relations OverlayError) →
    HoldsPaths (added_paths false (subject_and_clip subj clip)) b.edges →
    b ≡ record (empty_builder EvenOdd) { edges = b.edges } → TellsRelations b r → TellsRelationsOfTwo subj clip r
told_of_two subj clip b (Ok r) holds made told =
    record { answer = told_of_made EvenOdd (subject_and_clip subj clip) b (Ok r) holds made told; err = tt }
told_of_two subj clip b (Err e) holds made told =
    record { answer = tt; err = told_of_made EvenOdd (subject_and_clip subj clip) b (Err e) holds made told }

-- ---- one relation

module _ (OfPaths : (ℤ → Bool) → List GivenPath → Type 0) (OfContent : (ℤ → Bool) → List CountedEdge → Type 0)
    (same : (paths : List GivenPath) (content : List CountedEdge) → HoldsPaths (added_paths false paths) content →
    (filled : ℤ → Bool) → OfPaths filled paths ↔ OfContent filled content) where
  -- it is told of a subject and a clip where it holds of paths exactly where the builder tells of their edges
  pub relation_of_two : (subj clip : List (List Point)) (b : ExactBuilder) (r : Result Bool OverlayError) →
      HoldsPaths (added_paths false (subject_and_clip subj clip)) b.edges →
      b ≡ record (empty_builder EvenOdd) { edges = b.edges } → TellsRelation OfContent b r →
      TellsRelationOfTwo OfPaths subj clip r
  relation_of_two subj clip b (Ok answer) holds made told =
      let paths = subject_and_clip subj clip in
      let filled = is_filled EvenOdd in
      record {
        answer = answer_of (OfPaths filled paths) (OfContent filled b.edges) answer
            (subst (λ f. IsTrue answer ↔ OfContent (is_filled f) b.edges) (ap (λ o. o.fill_rule) made) told.answer)
            (same paths b.edges holds filled);
        err = tt;
      }
  relation_of_two subj clip b (Err e) holds made told = record {
    answer = tt;
    err = subst (MayRefuseBuilder (added_paths false (subject_and_clip subj clip))) (sym told.err) tt;
  }
